-- `copy::lay_master` meets its contract: two writes, one behind the other.
use Rattle.copy.proofs.Laid.{master-laid}
use Rattle.copy.proofs.lay_master.Goals as goal

pub returns : goal.returns
returns c = search master-laid
