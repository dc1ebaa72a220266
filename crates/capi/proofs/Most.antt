-- What `nasturakh_most_transfers` tests, one law for each return.
use Prim.Native.Nat.{ℕ, ◌≤◌, ◌<◌}
use mathlib.Core.Path.{◌≡◌, refl, sym, ap, ◌∙◌}
use mathlib.Core.Bool.{Bool, true, false, cond, ◌&&◌}
use mathlib.Core.List.{List}
use native.Mathlib.Nat.{div-le_self}
use native.Mathlib.Omega.{arith}
use borrow.Author.Tests.{eq-eqb, ne_eqb}
use lib.Dec.{eqb}
use lib.ListN.{length, get_or}
use Rattle.drum.specs.declared.Description.{Description}
use Rattle.drum.specs.Params.{FD, FI, good_params}
use Rattle.demands.specs.declared.Plan.{Plan}
use Rattle.demands.specs.Formula.{h_d, h_i}
use Rattle.demands.specs.Planned.{plan_shares, plan_details, plan_indexes, planned}
use Rattle.capi.specs.Words.{is_session, parameters_in, most_word}
use Rattle.capi.specs.Space.{is_planner}
use Rattle.capi.specs.Plan.{plan_in, is_plan, no_plan, most_in, OnlyNoPlan}

module _ (ws ps : List ℕ) where
  tested : Bool → ℕ
  tested x = cond x (planned (parameters_in ws) (plan_in ps)) no_plan

  -- the tests of a planner, and then that of the plan
  planner-first : (a b c : Bool) → a && (b && c) ≡ (a && b) && c
  planner-first true b c = refl
  planner-first false b c = refl

  by-tests : (x y : Bool) → is_planner ws ≡ x → eqb (length ps) 8 ≡ y → tested (x && y) ≡ most_in ws ps
  unfolding most_in is_plan is_planner tested
  by-tests x y e h =
      (λ j. tested (sym e j && sym h j))
      ∙ ap tested (sym (planner-first (is_session ws) (good_params (parameters_in ws)) (eqb (length ps) 8)))

  pub most-none : is_planner ws ≡ false → no_plan ≡ most_in ws ps
  unfolding tested
  most-none not_one = by-tests false (eqb (length ps) 8) not_one refl

  pub most-length : is_planner ws ≡ true → (length ps ≡ 8 → ⊥) → no_plan ≡ most_in ws ps
  unfolding tested
  most-length is h = by-tests true false is (ne_eqb (length ps) 8 h)

  -- all three hold
  pub most-some : is_session ws ≡ true → good_params (parameters_in ws) ≡ true → length ps ≡ 8 → most_in ws ps ≡ planned (parameters_in ws) (plan_in ps)
  unfolding most_in is_plan
  most-some h g l = simp (h, g, eq-eqb (length ps) 8 l)

  pub most-planned : (r : ℕ) (p : Description) (q : Plan) → r ≡ planned p q → p ≡ parameters_in ws → q ≡ plan_in ps
      → is_planner ws ≡ true → length ps ≡ 8 → r ≡ most_in ws ps
  unfolding tested
  most-planned r p q e d m is l = e ∙ (λ j. planned (d j) (m j)) ∙ by-tests true true is (eq-eqb (length ps) 8 l)

-- ---- a plan of 32-bit words costs less than 2^64 - 1

module _ (p : Description) (ps : List ℕ) (small : (i : ℕ) → get_or ps i 0 ≤ most_word) where
  shares-most : plan_shares (plan_in ps) ≤ 115964116965
  unfolding plan_shares plan_in
  shares-most =
      let a = small 0 in
      let b = small 1 in
      let c = small 2 in
      let d = small 3 in
      let e = small 4 in
      let f = small 5 in
      let g = small 6 in
      omega arith

  details-most : plan_details p (plan_in ps) ≤ 8589934590
  unfolding plan_details plan_in
  details-most =
      let a = small 7 in
      let b = div-le_self (get_or ps 7 0) (h_d p) in
      let c = div-le_self (get_or ps 7 0) (FD p) in
      omega arith

  indexes-most : plan_indexes p (plan_in ps) ≤ 17179869180
  unfolding plan_indexes
  indexes-most =
      let d = plan_details p (plan_in ps) in
      let a = details-most in
      let b = div-le_self d (h_i p) in
      let c = div-le_self d (FI p) in
      omega arith

  planned-less : planned p (plan_in ps) < no_plan
  unfolding planned
  planned-less = let a = shares-most in let b = details-most in let c = indexes-most in omega arith

pub only-no-plan : OnlyNoPlan
unfolding most_in
only-no-plan ws ps small e = go (is_plan ws ps) refl
  where
    go : (t : Bool) → is_plan ws ps ≡ t → is_plan ws ps ≡ false
    go false k = k
    go true k =
        let z : planned (parameters_in ws) (plan_in ps) ≡ no_plan = ap (λ (t : Bool). cond t (planned (parameters_in ws) (plan_in ps)) no_plan) (sym k) ∙ e in
        let l = planned-less (parameters_in ws) ps small in
        absurd (omega arith)
