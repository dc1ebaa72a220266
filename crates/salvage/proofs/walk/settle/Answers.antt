-- `salvage::walk::settle` meets its contract: nothing more, or a line.
use Rattle.salvage.proofs.Steps.{settle-none, settle-line}
use Rattle.salvage.proofs.walk.settle.Goals as goal

pub returns-then-is_accepted : goal.returns-then-is_accepted
returns-then-is_accepted c = search settle-none

pub returns : goal.returns
returns c = search settle-line
