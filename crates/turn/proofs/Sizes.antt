-- The tests of the sizes; and the parameters of the other form.
use Prim.Native.Nat.{ℕ, ◌-◌, ◌≤◌}
use mathlib.Core.Path.{◌≡◌, refl, sym, ◌∙◌}
use mathlib.Core.Bool.{Bool, true, false, ◌&&◌}
use lib.Dec.{eqb}
use Rattle.drum.specs.declared.Description.{Description}
use Rattle.drum.specs.Params.{every, good_params, file_size}
use Rattle.drum.proofs.Good.{caps}
use Rattle.layout.specs.Turned.{other_form}
use Rattle.rules.specs.Turning.{turn_sizes}

-- v that the parameters are good and the file has its length
module _ (p : Description) (file marks : ℕ) (v : Bool) (ev : v ≡ (good_params p && eqb file (file_size p))) where
  sizes-is : turn_sizes p file marks ≡ (v && eqb marks p.n)
  unfolding turn_sizes every
  sizes-is = rw ev (go (good_params p) (eqb file (file_size p)) (eqb marks p.n))
    where
      go : (a b m : Bool) → (a && (b && (m && true))) ≡ ((a && b) && m)
      go false b m = refl
      go true false m = refl
      go true true true = refl
      go true true false = refl

  pub last-size : v ≡ true → eqb marks p.n ≡ turn_sizes p file marks
  last-size y = sym (sizes-is ∙ rw y refl)

  pub wrong-file : v ≡ false → v ≡ turn_sizes p file marks
  wrong-file y = sym (sizes-is ∙ rw y refl)

-- FORM is 1 or 2, and the other one is 3 less it
pub form-few : (p : Description) → good_params p ≡ true → p.form ≤ 2
form-few p good = (caps p good).facts.form-most

pub other-is : (p q : Description)
    → q ≡ record { wpb = p.wpb; wpr = p.wpr; k = p.k; space = p.space; control = p.control; n = p.n; form = 3 - p.form } → q ≡ other_form p
unfolding other_form
other-is p q e = e
