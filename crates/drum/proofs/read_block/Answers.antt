-- The buffer, written over in full, is the block.
use native.Mathlib.Omega.{arith}
use Rattle.drum.proofs.Lent.{block-end, read_by}
use Rattle.drum.proofs.read_block.Goals as goal

pub copy_words-requires : goal.copy_words-requires
copy_words-requires c = (omega arith, search block-end)

pub returns : goal.returns
returns c = search read_by
