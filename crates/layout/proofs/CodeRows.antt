-- The rows of a block: one law for each answer of the code.
use mathlib.Core.Path.{◌≡◌, refl, sym, ap, ◌∙◌}
use mathlib.Core.Bool.{Bool, true, false, not, ◌&&◌}
use mathlib.Core.List.{List}
use Prim.Native.Nat.{ℕ, suc, ◌+◌, ◌*◌, ◌-◌, ◌≤◌, ◌<◌}
use native.Mathlib.Omega.{arith}
use Rattle.table.proofs.Places.{row_next}
use Rattle.words.specs.Words.{part}
use Rattle.words.specs.Keys.{key_lt, key_le}
use Rattle.drum.specs.declared.Description.{Description}
use Rattle.layout.specs.Inspect.{key_held, last_row, above, ascends, end_ok, records_ok}
use Rattle.layout.proofs.CodeFlags.{grouped}

-- keys that ascend, one by one: what is left behind the first i gives what all give
pub ascend-start : (p : Description) (f : List ℕ) (stride low a n : ℕ) → ascends p f stride low a n ≡ ascends p f stride low (a + 0 * stride) (n - 0)
ascend-start p f stride low a n =
    let x : a ≡ a + 0 * stride = omega arith in
    let y : n ≡ n - 0 = omega arith in
    λ j. ascends p f stride low (x j) (y j)

module _ (p : Description) (f : List ℕ) (stride low a n i : ℕ) (whole : Bool) (e : whole ≡ ascends p f stride low (a + i * stride) (n - i)) where
  pub ascend-done : n ≤ i → true ≡ whole
  unfolding ascends
  ascend-done h = let z : n - i ≡ 0 = omega arith in sym (e ∙ rw z)

  module _ (some : i < n) (t : Bool) (et : t ≡ above p f low (a + i * stride)) where
    one_more_lem : n - i ≡ suc (n - (i + 1))
    one_more_lem = omega arith

    pub ascend-stop : t ≡ false → false ≡ whole
    unfolding ascends
    ascend-stop y = sym (e ∙ rw one_more_lem (simp (sym et ∙ y)))

    pub ascend-next : t ≡ true → whole ≡ ascends p f stride (a + i * stride) (a + (i + 1) * stride) (n - (i + 1))
    unfolding ascends
    ascend-next y =
        let k : a + i * stride + stride ≡ a + (i + 1) * stride = omega (arith, row_next i stride) in
        e ∙ rw one_more_lem (simp (sym et ∙ y) (ap (λ (x : ℕ). ascends p f stride (a + i * stride) x (n - (i + 1))) k))

-- records under an entry: r the last of them, v that they ascend and that it is not above the bound
module _ (p : Description) (f : List ℕ) (low e a n r : ℕ) (er : r ≡ last_row a p.wpr n) (v : Bool)
    (ev : v ≡ (ascends p f p.wpr low a n && not (key_lt (part e p.k f) (part r p.k f)))) where
  both : records_ok p f low e a n ≡ (v && end_ok p f e r)
  unfolding records_ok key_le key_held
  both =
      rw (ev, er)
      (grouped
      (ascends p f p.wpr low a n)
      (not (key_lt (part e p.k f) (part (last_row a p.wpr n) p.k f)))
      (end_ok p f e (last_row a p.wpr n)))

  pub records-end : v ≡ true → (g : Bool) → g ≡ end_ok p f e r → g ≡ records_ok p f low e a n
  records-end y g eg = sym (both ∙ rw y (sym eg))

  pub records-over : v ≡ false → v ≡ records_ok p f low e a n
  records-over y = sym (both ∙ rw y refl)
