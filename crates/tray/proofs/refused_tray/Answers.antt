-- `tray::refused_tray` meets its contract: each test is the next line of the definition.
use mathlib.Core.Path.{refl, sym, ◌∙◌}
use Rattle.numbers.proofs.Exits.{handed-test}
use Rattle.numbers.proofs.Passed.{required}
use Rattle.drum.proofs.Good.{sized-facts}
use Rattle.rules.specs.Checks.{sizes_ok, is_open}
use Rattle.tray.specs.Tray.{tray_checks}
use Rattle.tray.proofs.refused_tray.Goals as goal

pub returns-in_err-require : goal.returns-in_err-require
unfolding tray_checks sizes_ok
returns-in_err-require c = handed-test _ _ _ c.from_residual.ensures.1 (rw (← c.is_sized.ensures, ← c.in_err-require.ensures) refl)

pub is_whole-requires : goal.is_whole-requires
is_whole-requires c = (sized-facts _ _ _ (sym c.is_sized.ensures ∙ required _ _ _ (sym c.in_ok-require.ensures))).good

pub returns-in_err-require-2 : goal.returns-in_err-require-2
unfolding tray_checks sizes_ok
returns-in_err-require-2 c =
    handed-test _ _ _ c.from_residual-in_err-require-2.ensures.1
    (rw (← c.is_sized.ensures, ← c.in_ok-require.ensures, ← c.is_whole.ensures, ← c.in_err-require-2.ensures) refl)

pub returns : goal.returns
unfolding tray_checks sizes_ok is_open
returns c = rw (← c.is_sized.ensures, ← c.in_ok-require.ensures, ← c.is_whole.ensures, ← c.in_ok-require-2.ensures, ← c.require-3.ensures) refl
