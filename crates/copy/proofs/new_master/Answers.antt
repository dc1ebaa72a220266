-- `copy::new_master` meets its contract.
use Rattle.copy.proofs.Laid.{new_is, new-good}
use Rattle.copy.proofs.new_master.Goals as goal

pub master_of-requires : goal.master_of-requires
master_of-requires c = search new-good

pub returns : goal.returns
returns c = search new_is
