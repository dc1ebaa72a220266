-- The blocks granted, one after the other, are too few, other blocks of the call, or new ones.
use mathlib.Core.Path.{refl}
use native.Mathlib.Omega.{arith}
use Rattle.numbers.proofs.Exits.{handed}
use Rattle.rules.specs.Free.{take_two}
use Rattle.free.proofs.Granting.{master-some}
use Rattle.free.proofs.take_two.Goals as goal

pub word_at-head-requires : goal.word_at-head-requires
word_at-head-requires c = let m = master-some _ _ _ c.args.v.fits in omega arith

pub bounds-v-2 : goal.bounds-v-2
bounds-v-2 c = let m = master-some _ _ _ c.args.v.fits in omega arith

pub returns-in_err-d : goal.returns-in_err-d
unfolding take_two
returns-in_err-d c = handed _ _ _ c.from_residual.ensures.1 (rw (← c.word_at-head.ensures, ← c.in_err-d.ensures) refl)

pub returns-in_err-x : goal.returns-in_err-x
unfolding take_two
returns-in_err-x c =
    handed _ _ _ c.from_residual-in_err-x.ensures.1 (rw (← c.word_at-head.ensures, ← c.in_ok-d.ensures, ← c.in_err-x.ensures) refl)

pub returns-then-is_short : goal.returns-then-is_short
unfolding take_two
returns-then-is_short c =
    rw (← c.word_at-head.ensures, ← c.in_ok-d.ensures, ← c.in_ok-x.ensures, ← c.is_short.ensures, c.if-is_short.true) refl

pub returns-in_err-require : goal.returns-in_err-require
unfolding take_two
returns-in_err-require c =
    handed _ _ _ c.from_residual-in_err-require.ensures.1
    (rw (
      ← c.word_at-head.ensures,
      ← c.in_ok-d.ensures,
      ← c.in_ok-x.ensures,
      ← c.is_short.ensures,
      c.if-is_short.false,
      ← c.is_new.ensures,
      ← c.in_err-require.ensures,
    ) refl)

pub returns-in_err-require-2 : goal.returns-in_err-require-2
unfolding take_two
returns-in_err-require-2 c =
    handed _ _ _ c.from_residual-in_err-require-2.ensures.1
    (rw (
      ← c.word_at-head.ensures,
      ← c.in_ok-d.ensures,
      ← c.in_ok-x.ensures,
      ← c.is_short.ensures,
      c.if-is_short.false,
      ← c.is_new.ensures,
      ← c.in_ok-require.ensures,
      ← c.is_new-2.ensures,
      ← c.in_err-require-2.ensures,
    ) refl)

pub returns-in_err-require-3 : goal.returns-in_err-require-3
unfolding take_two
returns-in_err-require-3 c =
    handed _ _ _ c.from_residual-in_err-require-3.ensures.1
    (rw (
      ← c.word_at-head.ensures,
      ← c.in_ok-d.ensures,
      ← c.in_ok-x.ensures,
      ← c.is_short.ensures,
      c.if-is_short.false,
      ← c.is_new.ensures,
      ← c.in_ok-require.ensures,
      ← c.is_new-2.ensures,
      ← c.in_ok-require-2.ensures,
      ← c.in_err-require-3.ensures,
    ) refl)

pub returns : goal.returns
unfolding take_two
returns c =
    rw (
      ← c.word_at-head.ensures,
      ← c.in_ok-d.ensures,
      ← c.in_ok-x.ensures,
      ← c.is_short.ensures,
      c.if-is_short.false,
      ← c.is_new.ensures,
      ← c.in_ok-require.ensures,
      ← c.is_new-2.ensures,
      ← c.in_ok-require-2.ensures,
      ← c.in_ok-require-3.ensures,
    ) refl
