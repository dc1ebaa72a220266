-- Each test is the next line of the definition.
use mathlib.Core.Path.{refl, sym, ◌∙◌}
use Rattle.numbers.proofs.Exits.{handed-test}
use Rattle.numbers.proofs.Passed.{required}
use Rattle.drum.proofs.Good.{sized-facts}
use Rattle.rules.specs.Close.{close_checks}
use Rattle.rules.specs.Checks.{sizes_ok, is_open}
use Rattle.searchfile.proofs.Session.close_checks.Goals as goal

pub returns-in_err-require : goal.returns-in_err-require
unfolding close_checks sizes_ok
returns-in_err-require c = handed-test _ _ _ c.from_residual.ensures.1 (rw (← c.is_sized.ensures, ← c.in_err-require.ensures) refl)

pub returns-in_err-require-2 : goal.returns-in_err-require-2
unfolding close_checks sizes_ok is_open
returns-in_err-require-2 c =
    handed-test _ _ _ c.from_residual-in_err-require-2.ensures.1
    (rw (← c.is_sized.ensures, ← c.in_ok-require.ensures, ← c.in_err-require-2.ensures) refl)

pub invariant_of-v : goal.invariant_of-v
invariant_of-v c =
    let z = sized-facts _ _ _ (sym c.is_sized.ensures ∙ required _ _ _ (sym c.in_ok-require.ensures)) in
    record { fits = record { good = z.good; file-is = z.file-is; buffer-is = z.buffer-is } }

pub returns : goal.returns
unfolding close_checks sizes_ok is_open
returns c = rw (← c.is_sized.ensures, ← c.in_ok-require.ensures, ← c.in_ok-require-2.ensures, ← c.can_flush.ensures, ← c.require-3.ensures) refl
