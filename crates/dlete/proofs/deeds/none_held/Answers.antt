-- Zeros over all words of the buffer.
use mathlib.Core.Path.{refl}
use Rattle.dlete.proofs.deeds.none_held.Goals as goal

pub returns : goal.returns
returns c = (refl, c.fill.ensures.after (λ y e. e))
