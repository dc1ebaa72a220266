-- Every field is set, as the definition sets it.
use mathlib.Core.Path.{refl}
use Rattle.rules.specs.State.{at_rest}
use Rattle.reading.proofs.ReadingSession.at_rest.Goals as goal

pub returns : goal.returns
unfolding at_rest
returns c = refl
