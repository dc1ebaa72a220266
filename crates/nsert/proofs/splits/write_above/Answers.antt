-- The index block is split, and the split entered in the master, whose count no block has words of.
use native.Mathlib.Omega.{arith}
use Rattle.nsert.proofs.Splitting.{number_small, above-full, above-divides, index-long, index_short, above-enters, master-short, above-file}
use Rattle.nsert.proofs.splits.write_above.Goals as goal

pub invariant_of-halves : goal.invariant_of-halves
invariant_of-halves c = record { full = search above-full }

pub divide_in-requires : goal.divide_in-requires
divide_in-requires c = search (above-divides, index-long, index_short)

pub enter-requires : goal.enter-requires
enter-requires c = (search above-enters, search master-short, omega (arith, number_small))

pub returns : goal.returns
returns c = search above-file
