-- `salvage::begin` meets its contract.
use Rattle.salvage.proofs.Ends.{begun-is}
use Rattle.salvage.proofs.begin.Goals as goal

pub returns : goal.returns
returns c = search begun-is
