-- The two new blocks, if there are two and a section, and the number that goes with it.
use mathlib.Core.Path.{refl}
use borrow.Author.Tests.{eq-eqb, ne_eqb}
use Rattle.numbers.proofs.Exits.{handed}
use Rattle.rules.specs.Xtend.{section_deed}
use Rattle.xtend.proofs.plan.section_deed.Goals as goal

pub returns-in_err-t : goal.returns-in_err-t
unfolding section_deed
returns-in_err-t c = handed _ _ _ c.from_residual.ensures.1 (rw (← c.in_err-t.ensures) refl)

pub returns-then-t-eq0 : goal.returns-then-t-eq0
unfolding section_deed
returns-then-t-eq0 c = rw (← c.in_ok-t.ensures, eq-eqb _ _ c.if-t-eq0.true) refl

pub returns-in_err-number : goal.returns-in_err-number
unfolding section_deed
returns-in_err-number c =
    handed _ _ _ c.from_residual-in_err-number.ensures.1 (rw (← c.in_ok-t.ensures, ne_eqb _ _ c.if-t-eq0.false, ← c.in_err-number.ensures) refl)

pub returns : goal.returns
unfolding section_deed
returns c = rw (← c.in_ok-t.ensures, ne_eqb _ _ c.if-t-eq0.false, ← c.in_ok-number.ensures) refl
