-- `salvage::build` meets its contract.
use Rattle.salvage.proofs.Ends.{first-copied, first-spare, build-done}
use Rattle.salvage.proofs.build.Goals as goal

pub carry_on-requires : goal.carry_on-requires
carry_on-requires c = (search first-copied, search first-spare)

pub returns : goal.returns
returns c = search build-done
