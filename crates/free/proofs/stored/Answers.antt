-- Whether any block is left is asked only where the block then holds D.
use mathlib.Core.Path.{refl}
use borrow.Author.Tests.{eq-eqb, ne_eqb}
use Rattle.numbers.proofs.Exits.{handed}
use Rattle.rules.specs.Free.{stored_number}
use Rattle.free.proofs.stored.Goals as goal

pub returns-then-n-d : goal.returns-then-n-d
unfolding stored_number
returns-then-n-d c = rw (← c.d.ensures, ne_eqb _ _ c.if-n-d.true) refl

pub returns-in_err-none_left : goal.returns-in_err-none_left
unfolding stored_number
returns-in_err-none_left c =
    handed _ _ _ c.from_residual.ensures.1 (rw (← c.d.ensures, eq-eqb _ _ c.if-n-d.false, ← c.in_err-none_left.ensures) refl)

pub returns-then-branch : goal.returns-then-branch
unfolding stored_number
returns-then-branch c = rw (← c.d.ensures, eq-eqb _ _ c.if-n-d.false, ← c.in_ok-none_left.ensures, c.if-branch.true) refl

pub returns : goal.returns
unfolding stored_number
returns c = rw (← c.d.ensures, eq-eqb _ _ c.if-n-d.false, ← c.in_ok-none_left.ensures, c.if-branch.false) refl
