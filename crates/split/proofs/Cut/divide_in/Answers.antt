-- The block is brought to the buffer, its entry renamed, and then it is split like any other.
use native.Mathlib.Omega.{arith}
use Rattle.split.proofs.Divided.{cut-entry-end, divides-still, halved-in, entry_in}
use Rattle.split.proofs.Cut.divide_in.Goals as goal

pub read_block-requires : goal.read_block-requires
read_block-requires c = (search, (search, search))

pub rename-requires : goal.rename-requires
rename-requires c = (omega (arith, cut-entry-end), search)

pub divide-requires : goal.divide-requires
divide-requires c = search divides-still

pub returns : goal.returns
returns c = (search halved-in, search entry_in)
