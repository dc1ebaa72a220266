-- Each test is the next line of the definition; its last line asks nothing, as nothing is flagged.
use mathlib.Core.Path.{refl}
use Rattle.numbers.proofs.Exits.{handed-test}
use Rattle.rules.specs.Close.{close_checks}
use Rattle.rules.specs.Checks.{sizes_ok, is_open}
use Rattle.reading.proofs.Profile.{last_asked}
use Rattle.reading.proofs.ReadingSession.close_checks.Goals as goal

pub returns-in_err-require : goal.returns-in_err-require
returns-in_err-require c = handed-test _ _ _ c.from_residual.ensures.1 (rw (← c.in_err-require.ensures) refl)

pub returns-in_err-require-2 : goal.returns-in_err-require-2
unfolding close_checks sizes_ok
returns-in_err-require-2 c =
    handed-test _ _ _ c.from_residual-in_err-require-2.ensures.1
    (rw (← c.in_ok-require.ensures, ← c.is_sized.ensures, ← c.in_err-require-2.ensures) refl)

pub returns : goal.returns
unfolding close_checks sizes_ok is_open
returns c = rw (← c.in_ok-require.ensures, ← c.is_sized.ensures, ← c.in_ok-require-2.ensures) (last_asked _ _ _ c.require-3.ensures)
