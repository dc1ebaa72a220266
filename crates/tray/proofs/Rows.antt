-- The records of a tray, one after the other; how long it is.
use mathlib.Core.Path.{◌≡◌, refl, sym, ap, ◌∙◌}
use mathlib.Core.Bool.{Bool, true, false, not}
use mathlib.Core.List.{List, [], ◌∷◌}
use Prim.Native.Nat.{ℕ, zero, suc, ◌+◌, ◌*◌, ◌-◌, ◌≤◌, ◌<◌}
use native.Mathlib.Nat.{mul-le-mul}
use native.Mathlib.Omega.{arith}
use borrow.Author.Tests.{eqb-true, lt-ltb}
use Rattle.std.proofs.lemmas.Bool.{eqb-false}
use mir.Syntax.{w32, w64}
use mir.Val.{Fits}
use lib.Dec.{ltb, eqb}
use lib.ListN.{length, get_or, take, drop}
use Rattle.words.specs.Words.{part}
use Rattle.numbers.proofs.Passed.{both}
use Rattle.drum.specs.declared.Description.{Description}
use Rattle.drum.specs.Params.{good_params}
use Rattle.drum.proofs.Good.{caps}
use Rattle.tray.specs.Tray.{count_of, records_at, matches}

-- the first of the records that are left, and those behind it
pub records-next : (n i w at : ℕ) (t : List ℕ) → i < n → records_at (n - i) w at t ≡ part at w t ∷ records_at (n - (i + 1)) w (at + w) t
unfolding records_at
records-next n i w at t l =
    let m : n - i ≡ suc (n - (i + 1)) = omega arith in
    ap (λ (k : ℕ). records_at k w at t) m

pub records-none : (n i w at : ℕ) (t : List ℕ) → n ≤ i → records_at (n - i) w at t ≡ []
unfolding records_at
records-none n i w at t l =
    let m : n - i ≡ 0 = omega arith in
    ap (λ (k : ℕ). records_at k w at t) m

-- the words that are lent to NSERT are the record's
pub record-lent : (at w : ℕ) (t : List ℕ) → take (at + w - at) (drop at t) ≡ part at w t
unfolding part
record-lent at w t =
    let m : at + w - at ≡ w = omega arith in
    ap (λ (k : ℕ). take k (drop at t)) m

pub one-row : (n w : ℕ) → (n + 1) * w ≡ w + n * w
one-row n w = omega arith

-- one record fewer is left
pub words_left : (n i w : ℕ) → i < n → (n - i) * w ≡ w + (n - (i + 1)) * w
words_left n i w l =
    let m : n - i ≡ n - (i + 1) + 1 = omega arith in
    ap (λ (k : ℕ). k * w) m ∙ one-row (n - (i + 1)) w

module _ (p : Description) (t : List ℕ) where
  -- the product of the count and WPR fits: it is taken in full
  module _ (n : ℕ) (is : n ≡ get_or t 0 0) (word : (i : ℕ) → Fits w32 (get_or t i 0)) (good : good_params p ≡ true) where
    product-most : n * p.wpr ≤ 4294967295 * 4096
    product-most =
        let g = caps p good in
        let f = g.facts in
        let h = word 0 in
        let a : n ≤ 4294967295 = omega arith in
        let b : p.wpr ≤ 4096 = omega arith in
        mul-le-mul a b

    pub product-fits : Fits w64 (n * p.wpr)
    product-fits = omega (arith, product-most)

    pub length-fits : Fits w64 (1 + n * p.wpr)
    length-fits = omega (arith, product-most)

  -- the tests of a tray's length
  pub some-words : (x : Bool) → x ≡ eqb (length t) 0 → x ≡ false → 0 < length t
  some-words x e h = let z = eqb-false (length t) 0 (sym e ∙ h) in go (length t) z
    where
      go : (n : ℕ) → (n ≡ 0 → ⊥) → 0 < n
      go zero z = absurd (z refl)
      go (suc n) z = omega arith

  pub matches-empty : (x : Bool) → x ≡ eqb (length t) 0 → x ≡ true → not x ≡ matches p t
  unfolding matches
  matches-empty x e h = let z = eqb-true (length t) 0 (sym e ∙ h) in simp (h, z)

  pub matches-some : (n : ℕ) → n ≡ get_or t 0 0 → 0 < length t → eqb (length t) (1 + n * p.wpr) ≡ matches p t
  unfolding matches
  matches-some n e h = ap (λ (k : ℕ). eqb (length t) (1 + k * p.wpr)) e ∙ simp (lt-ltb 0 (length t) h)

  pub matches-long : matches p t ≡ true → length t ≡ 1 + count_of t * p.wpr
  unfolding matches
  matches-long h = eqb-true _ _ (both (ltb 0 (length t)) _ h).1
