-- The detail block is split, and the split entered in the index block, whose text stands in the file.
use native.Mathlib.Omega.{arith}
use Rattle.nsert.proofs.Splitting.{key-short, number_small, split-enters, split-file}
use Rattle.nsert.proofs.splits.write_split.Goals as goal

pub cut-moved-requires : goal.cut-moved-requires
cut-moved-requires c = (search, omega (arith, key-short), search)

pub enter_in-requires : goal.enter_in-requires
enter_in-requires c = (search split-enters, omega (arith, key-short), omega (arith, number_small))

pub returns : goal.returns
returns c = (search, search split-file)
