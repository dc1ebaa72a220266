-- The new block, if there is one, and the number that goes with it.
use mathlib.Core.Path.{refl}
use borrow.Author.Tests.{eq-eqb, ne_eqb}
use Rattle.numbers.proofs.Exits.{handed}
use Rattle.rules.specs.Xtend.{start_deed}
use Rattle.xtend.proofs.plan.start_deed.Goals as goal

pub returns-in_err-d : goal.returns-in_err-d
unfolding start_deed
returns-in_err-d c = handed _ _ _ c.from_residual.ensures.1 (rw (← c.in_err-d.ensures) refl)

pub returns-then-d-eq0 : goal.returns-then-d-eq0
unfolding start_deed
returns-then-d-eq0 c = rw (← c.in_ok-d.ensures, eq-eqb _ _ c.if-d-eq0.true) refl

pub returns-in_err-number : goal.returns-in_err-number
unfolding start_deed
returns-in_err-number c =
    handed _ _ _ c.from_residual-in_err-number.ensures.1 (rw (← c.in_ok-d.ensures, ne_eqb _ _ c.if-d-eq0.false, ← c.in_err-number.ensures) refl)

pub returns : goal.returns
unfolding start_deed
returns c = rw (← c.in_ok-d.ensures, ne_eqb _ _ c.if-d-eq0.false, ← c.in_ok-number.ensures) refl
