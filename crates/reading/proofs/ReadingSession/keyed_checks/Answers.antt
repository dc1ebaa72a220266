-- The profile's test, and then the face's.
use mathlib.Core.Path.{refl}
use Rattle.numbers.proofs.Exits.{handed-test}
use Rattle.face.proofs.Lent.{key-in-record}
use Rattle.reading.proofs.ReadingSession.keyed_checks.Goals as goal

pub returns-in_err-require : goal.returns-in_err-require
returns-in_err-require c = handed-test _ _ _ c.from_residual.ensures.1 (rw (← c.in_err-require.ensures) refl)

pub refused_key-requires : goal.refused_key-requires
refused_key-requires c = search key-in-record

pub returns : goal.returns
returns c = rw (← c.in_ok-require.ensures) c.refused_key.ensures
