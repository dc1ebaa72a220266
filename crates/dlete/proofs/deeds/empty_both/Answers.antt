-- The block is freed and so is its index block, over the text that was stored there; then the master's row goes.
use native.Mathlib.Omega.{arith}
use Rattle.drum.proofs.Sizes.{number_small}
use Rattle.dlete.proofs.Gone.{master-base}
use Rattle.dlete.proofs.Emptied.{way-few, both-three, head-place, headed-held, section-within, section-below, section-most, both-file}
use Rattle.dlete.proofs.deeds.empty_both.Goals as goal

pub put_word-requires : goal.put_word-requires
put_word-requires c = (search head-place, search number_small)

pub free_block-requires : goal.free_block-requires
free_block-requires c = (search headed-held, search number_small)

pub remove_row-requires : goal.remove_row-requires
remove_row-requires c = (search master-base, search section-within, search section-below, search section-most)

pub overflow_add-result : goal.overflow_add-result
overflow_add-result c = omega (arith, way-few)

pub returns : goal.returns
returns c = (omega (arith, both-three), search both-file)
