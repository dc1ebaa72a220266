-- `register::refused_name` meets its contract: the data word, and then the routine's refusals.
use mathlib.Core.Path.{refl}
use Rattle.numbers.proofs.Exits.{handed-test}
use Rattle.face.proofs.Lent.{key-in-record}
use Rattle.register.specs.Checks.{name_checks}
use Rattle.register.proofs.checks.refused_name.Goals as goal

pub returns-in_err-require : goal.returns-in_err-require
unfolding name_checks
returns-in_err-require c = handed-test _ _ _ c.from_residual.ensures.1 (rw (← c.in_err-require.ensures) refl)

pub refused_key-requires : goal.refused_key-requires
refused_key-requires c = search key-in-record

pub returns : goal.returns
unfolding name_checks
returns c = rw (← c.in_ok-require.ensures, ← c.refused_key.ensures) refl
