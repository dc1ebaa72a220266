-- Whether any is left is tested; an empty chain leaves word 2, else the head's kind and its link, in its current text, are tested.
use mathlib.Core.Path.{refl}
use native.Mathlib.Omega.{arith}
use borrow.Author.Tests.{eq-eqb, ne_eqb}
use Rattle.numbers.proofs.Exits.{handed}
use Rattle.rules.specs.Free.{granted}
use Rattle.free.proofs.Granting.{number_small, head-most, lowest-most, link-there}
use Rattle.free.proofs.take_block.Goals as goal

pub returns-in_err-none_left : goal.returns-in_err-none_left
unfolding granted
returns-in_err-none_left c = handed _ _ _ c.from_residual.ensures.1 (rw (← c.in_err-none_left.ensures) refl)

pub returns-then-branch : goal.returns-then-branch
unfolding granted
returns-then-branch c = rw (← c.in_ok-none_left.ensures, c.if-branch.true) refl

pub overflow_add-result : goal.overflow_add-result
overflow_add-result c =
    let l = lowest-most _ _ _ _ c.in_ok-none_left.ensures c.if-head-eq0.true c.if-branch.false in
    let n = number_small _ c.args.v.fits.good in
    record { fits = omega arith }

pub returns-then-head-eq0 : goal.returns-then-head-eq0
unfolding granted
returns-then-head-eq0 c = rw (← c.in_ok-none_left.ensures, c.if-branch.false, eq-eqb _ _ c.if-head-eq0.true) refl

pub text_of-t-requires : goal.text_of-t-requires
text_of-t-requires c = let m = head-most _ _ _ _ c.in_ok-none_left.ensures in (omega arith, m)

pub is_free-requires : goal.is_free-requires
is_free-requires c =
    let m = head-most _ _ _ _ c.in_ok-none_left.ensures in
    let l = link-there _ _ _ c.args.v.fits c.text_of-t.ensures (omega arith, m) in
    omega arith

pub returns-in_err-require : goal.returns-in_err-require
unfolding granted
returns-in_err-require c =
    handed _ _ _ c.from_residual-in_err-require.ensures.1
    (rw (
      ← c.in_ok-none_left.ensures,
      c.if-branch.false,
      ne_eqb _ _ c.if-head-eq0.false,
      ← c.text_of-t.ensures,
      ← c.is_free.ensures,
      ← c.in_err-require.ensures,
    ) refl)

pub link_in-requires : goal.link_in-requires
link_in-requires c =
    let m = head-most _ _ _ _ c.in_ok-none_left.ensures in
    link-there _ _ _ c.args.v.fits c.text_of-t.ensures (omega arith, m)

pub returns-in_err-link : goal.returns-in_err-link
unfolding granted
returns-in_err-link c =
    handed _ _ _ c.from_residual-in_err-link.ensures.1
    (rw (
      ← c.in_ok-none_left.ensures,
      c.if-branch.false,
      ne_eqb _ _ c.if-head-eq0.false,
      ← c.text_of-t.ensures,
      ← c.is_free.ensures,
      ← c.in_ok-require.ensures,
      ← c.link_in.ensures,
      ← c.in_err-link.ensures.step,
    ) refl)

pub returns : goal.returns
unfolding granted
returns c =
    rw (
      ← c.in_ok-none_left.ensures,
      c.if-branch.false,
      ne_eqb _ _ c.if-head-eq0.false,
      ← c.text_of-t.ensures,
      ← c.is_free.ensures,
      ← c.in_ok-require.ensures,
      ← c.link_in.ensures,
      ← c.in_ok-link.ensures.step,
    ) refl
