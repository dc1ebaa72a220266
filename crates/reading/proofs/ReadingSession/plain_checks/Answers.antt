-- The profile's test, and then the face's.
use mathlib.Core.Path.{refl}
use Rattle.numbers.proofs.Exits.{handed-test}
use Rattle.reading.proofs.ReadingSession.plain_checks.Goals as goal

pub returns-in_err-require : goal.returns-in_err-require
returns-in_err-require c = handed-test _ _ _ c.from_residual.ensures.1 (rw (← c.in_err-require.ensures) refl)

pub returns : goal.returns
returns c = rw (← c.in_ok-require.ensures) c.refused_plain.ensures
