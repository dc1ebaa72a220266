-- The block granted is none, another block of the call, or a new one.
use mathlib.Core.Path.{refl}
use native.Mathlib.Omega.{arith}
use borrow.Author.Tests.{eq-eqb, ne_eqb}
use Rattle.numbers.proofs.Exits.{handed}
use Rattle.rules.specs.Free.{take_one}
use Rattle.free.proofs.Granting.{master-some}
use Rattle.free.proofs.take_one.Goals as goal

pub word_at-head-requires : goal.word_at-head-requires
word_at-head-requires c = let m = master-some _ _ _ c.args.v.fits in omega arith

pub bounds-v-2 : goal.bounds-v-2
bounds-v-2 c = let m = master-some _ _ _ c.args.v.fits in omega arith

pub returns-in_err-d : goal.returns-in_err-d
unfolding take_one
returns-in_err-d c = handed _ _ _ c.from_residual.ensures.1 (rw (← c.word_at-head.ensures, ← c.in_err-d.ensures) refl)

pub returns-in_err-require : goal.returns-in_err-require
unfolding take_one
returns-in_err-require c =
    handed _ _ _ c.from_residual-in_err-require.ensures.1
    (rw (← c.word_at-head.ensures, ← c.in_ok-d.ensures, ne_eqb _ _ c.if-d-ne0.true, ← c.is_new.ensures, ← c.in_err-require.ensures) refl)

pub returns-in_ok-require : goal.returns-in_ok-require
unfolding take_one
returns-in_ok-require c =
    rw (← c.word_at-head.ensures, ← c.in_ok-d.ensures, ne_eqb _ _ c.if-d-ne0.true, ← c.is_new.ensures, ← c.in_ok-require.ensures) refl

pub returns-else-d-ne0 : goal.returns-else-d-ne0
unfolding take_one
returns-else-d-ne0 c = rw (← c.word_at-head.ensures, ← c.in_ok-d.ensures, eq-eqb _ _ c.if-d-ne0.false) refl
