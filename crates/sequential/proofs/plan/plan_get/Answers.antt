-- The steps of the definition, one after the other.
use mathlib.Core.Path.{refl, sym, ◌∙◌}
use native.Mathlib.Omega.{arith}
use borrow.Author.Tests.{ltb-true}
use Rattle.numbers.proofs.Exits.{handed}
use Rattle.numbers.proofs.Passed.{required}
use Rattle.sequential.specs.Rows.{blocks}
use Rattle.sequential.specs.Calls.{get_spot}
use Rattle.sequential.proofs.Good.{good-facts}
use Rattle.sequential.proofs.Spots.{sized-whole, sized-fine, sized-block, next-area}
use Rattle.sequential.proofs.plan.plan_get.Goals as goal

pub returns-in_err-require : goal.returns-in_err-require
unfolding get_spot
returns-in_err-require c = handed _ _ _ c.from_residual.ensures.1 (rw (← c.is_sized.ensures, ← c.in_err-require.ensures) refl)

pub is_fixed_right-requires : goal.is_fixed_right-requires
is_fixed_right-requires c = sized-fine c.args.l _ _ (sym c.is_sized.ensures ∙ required _ _ _ (sym c.in_ok-require.ensures))

pub returns-in_err-require-2 : goal.returns-in_err-require-2
unfolding get_spot
returns-in_err-require-2 c =
    handed _ _ _ c.from_residual-in_err-require-2.ensures.1
    (rw (← c.is_sized.ensures, ← c.in_ok-require.ensures, ← c.is_fixed_right.ensures, ← c.in_err-require-2.ensures) refl)

pub returns-in_err-require-3 : goal.returns-in_err-require-3
unfolding get_spot
returns-in_err-require-3 c =
    handed _ _ _ c.from_residual-in_err-require-3.ensures.1
    (rw (← c.is_sized.ensures, ← c.in_ok-require.ensures, ← c.is_fixed_right.ensures, ← c.in_ok-require-2.ensures, ← c.in_err-require-3.ensures) refl)

pub nonzero_div-file : goal.nonzero_div-file
nonzero_div-file c =
    let f = sized-fine c.args.l _ _ (sym c.is_sized.ensures ∙ required _ _ _ (sym c.in_ok-require.ensures)) in
    let g = good-facts c.args.l f.good in
    omega arith

pub returns-in_err-require-4 : goal.returns-in_err-require-4
unfolding get_spot blocks
returns-in_err-require-4 c =
    handed _ _ _ c.from_residual-in_err-require-4.ensures.1
    (rw (
      ← c.is_sized.ensures,
      ← c.in_ok-require.ensures,
      ← c.is_fixed_right.ensures,
      ← c.in_ok-require-2.ensures,
      ← c.in_ok-require-3.ensures,
      ← c.in_err-require-4.ensures,
    ) refl)

pub get_place-requires : goal.get_place-requires
get_place-requires c =
    let b = ltb-true _ _ (required _ _ _ (sym c.in_ok-require-4.ensures)) in
    sized-block c.args.l _ _ _ (sym c.is_sized.ensures ∙ required _ _ _ (sym c.in_ok-require.ensures)) b

pub row_from-requires : goal.row_from-requires
row_from-requires c =
    let s = sized-whole c.args.l _ _ (sym c.is_sized.ensures ∙ required _ _ _ (sym c.in_ok-require.ensures)) in
    rw c.get_place.ensures (next-area c.args.l _ _ s (sym c.is_fixed_right.ensures ∙ required _ _ _ (sym c.in_ok-require-2.ensures)))

pub returns : goal.returns
unfolding get_spot blocks
returns c =
    rw (
      ← c.is_sized.ensures,
      ← c.in_ok-require.ensures,
      ← c.is_fixed_right.ensures,
      ← c.in_ok-require-2.ensures,
      ← c.in_ok-require-3.ensures,
      ← c.in_ok-require-4.ensures,
      ← c.get_place.ensures,
    ) c.row_from.ensures
