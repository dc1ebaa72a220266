-- The new blocks are bad, or lacking; then the number is bad, or the splits are planned.
use mathlib.Core.Path.{refl}
use native.Mathlib.Omega.{arith}
use borrow.Author.Tests.{eq-eqb, ne_eqb}
use Rattle.numbers.proofs.Exits.{handed}
use Rattle.rules.specs.Nsert.{both_deed}
use Rattle.nsert.proofs.Planning.{few-records}
use Rattle.nsert.proofs.plan.both_deed.Goals as goal

pub returns-in_err-t : goal.returns-in_err-t
unfolding both_deed
returns-in_err-t c = handed _ _ _ c.from_residual.ensures.1 (rw (← c.in_err-t.ensures) refl)

pub returns-then-t-eq0 : goal.returns-then-t-eq0
unfolding both_deed
returns-then-t-eq0 c = rw (← c.in_ok-t.ensures, eq-eqb _ _ c.if-t-eq0.true) refl

pub half_count-n-requires : goal.half_count-n-requires
half_count-n-requires c = let m = few-records _ _ _ c.args.v.fits in omega arith

pub returns-in_err-number : goal.returns-in_err-number
unfolding both_deed
returns-in_err-number c =
    handed _ _ _ c.from_residual-in_err-number.ensures.1
    (rw (← c.in_ok-t.ensures, ne_eqb _ _ c.if-t-eq0.false, ← c.d.ensures, ← c.half_count-n.ensures, ← c.in_err-number.ensures) refl)

pub returns : goal.returns
unfolding both_deed
returns c =
    rw (← c.in_ok-t.ensures, ne_eqb _ _ c.if-t-eq0.false, ← c.d.ensures, ← c.half_count-n.ensures, ← c.in_ok-number.ensures) refl
