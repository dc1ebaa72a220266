-- Within the range, or out of it.
use Rattle.faults.proofs.Ranges.{ranged-in, ranged-out}
use Rattle.faults.proofs.first.ranged.Goals as goal

pub returns-then-is_within : goal.returns-then-is_within
returns-then-is_within c = search ranged-in

pub returns : goal.returns
returns c = search ranged-out
