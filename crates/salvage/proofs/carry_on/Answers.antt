-- `salvage::carry_on` meets its contract.
use Rattle.salvage.proofs.Ends.{last-few, walk-done}
use Rattle.salvage.proofs.carry_on.Goals as goal

pub finish-requires : goal.finish-requires
finish-requires c = search last-few

pub returns : goal.returns
returns c = search walk-done
