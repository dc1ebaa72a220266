-- The block is freed, and its index block loses the entry, over the text that was stored there.
use native.Mathlib.Omega.{arith}
use Rattle.drum.proofs.Sizes.{number_small}
use Rattle.dlete.proofs.Emptied.{way-few, one-three, head-place, entry_ready, one-file}
use Rattle.dlete.proofs.deeds.empty_one.Goals as goal

pub put_word-requires : goal.put_word-requires
put_word-requires c = (search head-place, search number_small)

pub gone_in-requires : goal.gone_in-requires
gone_in-requires c = (search entry_ready, omega arith)

pub overflow_add-result : goal.overflow_add-result
overflow_add-result c = omega (arith, way-few)

pub returns : goal.returns
returns c = (omega (arith, one-three), search one-file)
