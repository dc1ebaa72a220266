-- `Reading::resting` meets its contract.
use mathlib.Core.Path.{refl}
use Rattle.lines.specs.Reading.{resting}
use Rattle.lines.proofs.Reading.resting.Goals as goal

pub returns : goal.returns
unfolding resting
returns c = refl
