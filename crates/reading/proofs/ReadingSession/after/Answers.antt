-- Position is written only where the steps say so.
use mathlib.Core.Path.{refl}
use Rattle.reading.proofs.Profile.{after-placed, after_kept}
use Rattle.reading.proofs.ReadingSession.after.Goals as goal

pub returns-then-done : goal.returns-then-done
returns-then-done c = (refl, refl, search after-placed)

pub returns-else-done : goal.returns-else-done
returns-else-done c = (refl, refl, search after_kept)
