-- NSERT's plan, and the test of its new blocks.
use mathlib.Core.Path.{refl}
use Rattle.numbers.proofs.Exits.{handed}
use Rattle.rules.specs.Xtend.{insert_before}
use Rattle.xtend.proofs.before.insert_before.Goals as goal

pub returns-in_err-d : goal.returns-in_err-d
unfolding insert_before
returns-in_err-d c = handed _ _ _ c.from_residual.ensures.1 (rw (← c.place_of.ensures, ← c.in_err-d.ensures) refl)

pub returns-in_err-require : goal.returns-in_err-require
unfolding insert_before
returns-in_err-require c =
    handed _ _ _ c.from_residual-in_err-require.ensures.1
    (rw (← c.place_of.ensures, ← c.in_ok-d.ensures, ← c.new_apart.ensures, ← c.in_err-require.ensures) refl)

pub returns : goal.returns
unfolding insert_before
returns c = rw (← c.place_of.ensures, ← c.in_ok-d.ensures, ← c.new_apart.ensures, ← c.in_ok-require.ensures) refl
