-- What the words' parameters tell a planner: they are in range or not.
use mathlib.Core.Path.{◌≡◌, sym, ap, ◌∙◌}
use mathlib.Core.Bool.{Bool, true, false, ◌&&◌}
use mathlib.Core.List.{List}
use Prim.Native.Nat.{ℕ}
use Rattle.drum.specs.declared.Description.{Description}
use Rattle.drum.specs.Params.{good_params}
use Rattle.capi.specs.Words.{is_session, parameters_in}
use Rattle.capi.specs.Space.{is_planner}

module _ (ws : List ℕ) where
  pub planner-none : (t : Bool) → t ≡ is_session ws → t ≡ false → is_planner ws ≡ false
  unfolding is_planner
  planner-none t e h = ap (λ (t : Bool). t && good_params (parameters_in ws)) (sym e ∙ h)

  -- u and t are the code's tests of the words and of the parameters
  pub planner_by : (p : Description) (u t x : Bool) → p ≡ parameters_in ws → t ≡ good_params p → t ≡ x → u ≡ is_session ws → u ≡ true → is_planner ws ≡ x
  unfolding is_planner
  planner_by p u t x same e h asked is =
      ap (λ (b : Bool). b && good_params (parameters_in ws)) (sym asked ∙ is) ∙ ap good_params (sym same) ∙ sym e ∙ h
