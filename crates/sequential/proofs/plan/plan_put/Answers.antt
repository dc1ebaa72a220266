-- The steps of the definition, one after the other.
use mathlib.Core.Path.{refl, sym, ◌∙◌}
use native.Mathlib.Omega.{arith}
use borrow.Author.Tests.{ltb-true}
use Rattle.numbers.proofs.Exits.{handed}
use Rattle.numbers.proofs.Passed.{required}
use Rattle.sequential.specs.Rows.{blocks}
use Rattle.sequential.specs.Calls.{put_spot}
use Rattle.sequential.proofs.Good.{good-facts}
use Rattle.sequential.proofs.Spots.{sized-fine, sized-block}
use Rattle.sequential.proofs.plan.plan_put.Goals as goal

pub returns-in_err-require : goal.returns-in_err-require
unfolding put_spot
returns-in_err-require c = handed _ _ _ c.from_residual.ensures.1 (rw (← c.is_sized.ensures, ← c.in_err-require.ensures) refl)

pub is_right-requires : goal.is_right-requires
is_right-requires c = sized-fine c.args.l _ _ (sym c.is_sized.ensures ∙ required _ _ _ (sym c.in_ok-require.ensures))

pub returns-in_err-require-2 : goal.returns-in_err-require-2
unfolding put_spot
returns-in_err-require-2 c =
    handed _ _ _ c.from_residual-in_err-require-2.ensures.1
    (rw (← c.is_sized.ensures, ← c.in_ok-require.ensures, ← c.size_at-n.ensures, ← c.is_right.ensures, ← c.in_err-require-2.ensures) refl)

pub nonzero_div-blocks : goal.nonzero_div-blocks
nonzero_div-blocks c =
    let f = sized-fine c.args.l _ _ (sym c.is_sized.ensures ∙ required _ _ _ (sym c.in_ok-require.ensures)) in
    let g = good-facts c.args.l f.good in
    omega arith

pub returns-in_err-require-3 : goal.returns-in_err-require-3
unfolding put_spot blocks
returns-in_err-require-3 c =
    handed _ _ _ c.from_residual-in_err-require-3.ensures.1
    (rw (
      ← c.is_sized.ensures,
      ← c.in_ok-require.ensures,
      ← c.size_at-n.ensures,
      ← c.is_right.ensures,
      ← c.in_ok-require-2.ensures,
      ← c.in_err-require-3.ensures,
    ) refl)

pub put_place-q-requires : goal.put_place-q-requires
put_place-q-requires c =
    let b = ltb-true _ _ (required _ _ _ (sym c.in_ok-require-3.ensures)) in
    sized-block c.args.l _ _ _ (sym c.is_sized.ensures ∙ required _ _ _ (sym c.in_ok-require.ensures)) b

pub returns-in_err-require-4 : goal.returns-in_err-require-4
unfolding put_spot blocks
returns-in_err-require-4 c =
    handed _ _ _ c.from_residual-in_err-require-4.ensures.1
    (rw (
      ← c.is_sized.ensures,
      ← c.in_ok-require.ensures,
      ← c.size_at-n.ensures,
      ← c.is_right.ensures,
      ← c.in_ok-require-2.ensures,
      ← c.in_ok-require-3.ensures,
      ← c.put_place-q.ensures,
      ← c.in_err-require-4.ensures,
    ) refl)

pub returns : goal.returns
unfolding put_spot blocks
returns c =
    rw (
      ← c.is_sized.ensures,
      ← c.in_ok-require.ensures,
      ← c.size_at-n.ensures,
      ← c.is_right.ensures,
      ← c.in_ok-require-2.ensures,
      ← c.in_ok-require-3.ensures,
      ← c.put_place-q.ensures,
      ← c.in_ok-require-4.ensures,
    ) refl
