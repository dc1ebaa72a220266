-- `salvage::walk::why_not` meets its contract.
use Rattle.salvage.proofs.Steps.{why-second, why-room}
use Rattle.salvage.proofs.walk.why_not.Goals as goal

pub returns-then-number-eq-NOT_FOUND : goal.returns-then-number-eq-NOT_FOUND
returns-then-number-eq-NOT_FOUND c = search why-second

pub returns-else-number-eq-NOT_FOUND : goal.returns-else-number-eq-NOT_FOUND
returns-else-number-eq-NOT_FOUND c = search why-room
