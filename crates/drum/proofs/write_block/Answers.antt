-- All of the buffer is written over the block.
use native.Mathlib.Omega.{arith}
use Rattle.drum.proofs.Lent.{block-end, written-by}
use Rattle.drum.proofs.write_block.Goals as goal

pub copy_words-requires : goal.copy_words-requires
copy_words-requires c = (search block-end, omega arith)

pub returns : goal.returns
returns c = search written-by
