-- Each test is the next line of the definition.
use mathlib.Core.Path.{refl}
use Rattle.numbers.proofs.Exits.{handed-test}
use Rattle.rules.specs.Open.{open_checks}
use Rattle.rules.specs.Checks.{sizes_ok}
use Rattle.searchfile.proofs.Session.open_checks.Goals as goal

pub returns-in_err-require : goal.returns-in_err-require
unfolding open_checks sizes_ok
returns-in_err-require c = handed-test _ _ _ c.from_residual.ensures.1 (rw (← c.is_sized.ensures, ← c.in_err-require.ensures) refl)

pub returns-in_err-require-2 : goal.returns-in_err-require-2
unfolding open_checks sizes_ok
returns-in_err-require-2 c =
    handed-test _ _ _ c.from_residual-in_err-require-2.ensures.1
    (rw (← c.is_sized.ensures, ← c.in_ok-require.ensures, ← c.in_err-require-2.ensures) refl)

pub returns : goal.returns
unfolding open_checks sizes_ok
returns c = rw (← c.is_sized.ensures, ← c.in_ok-require.ensures, ← c.in_ok-require-2.ensures, ← c.require-3.ensures) refl
