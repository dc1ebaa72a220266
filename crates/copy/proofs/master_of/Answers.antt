-- `copy::master_of` meets its contract.
use Rattle.drum.proofs.Good.{size-good}
use Rattle.copy.proofs.master_of.Goals as goal

pub returns : goal.returns
returns c = search size-good
