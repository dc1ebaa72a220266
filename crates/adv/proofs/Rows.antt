-- The row above position in a block's text, and whether the buffer's keys lie around position.
use mathlib.Core.Path.{◌≡◌, ap, ◌∙◌}
use mathlib.Core.Bool.{Bool, true, false, not, ◌&&◌}
use mathlib.Core.List.{List}
use Prim.Native.Nat.{ℕ, ◌+◌, ◌*◌, ◌-◌}
use native.Mathlib.Omega.{arith}
use Rattle.words.specs.Words.{part}
use Rattle.words.specs.Keys.{key_lt, key_le}
use Rattle.table.specs.declared.Shape.{Shape}
use Rattle.table.specs.declared.Want.TheVariants.{Over}
use Rattle.table.specs.Tables.{count, key_at, first_where, fits}
use Rattle.drum.specs.declared.Description.{Description}
use Rattle.drum.specs.Params.{detail_shape}
use Rattle.drum.specs.Blocks.{Texts}
use Rattle.rules.specs.Adv.{next_row}
use Rattle.lookup.proofs.Fits.{detail-found}

-- the search is the definition's
pub row-above : (v : Texts) (h : Shape) (placed : Bool) (position t : List ℕ) (n i : ℕ) → i ≡ first_where (fits Over h (part 0 h.width position) t) n
    → h ≡ detail_shape v.desc → n ≡ count (detail_shape v.desc) t → placed ≡ true → i ≡ next_row v placed (part 0 v.desc.k position) t
row-above v h placed position t n i ei eh en on =
    let p = v.desc in
    let f = detail-found p h Over position t n i eh ei in
    simp on (f ∙ ap (λ (m : ℕ). first_where (fits Over (detail_shape p) (part 0 p.k position) t) m) en)

-- whether position lies between the buffer's first key and its last
module _ (p : Description) (t key : List ℕ) where
  abbrev Spans : Bool
  Spans = key_le (key_at (detail_shape p) t 0) key && key_lt key (key_at (detail_shape p) t (count (detail_shape p) t - 1))

  first_key : key_at (detail_shape p) t 0 ≡ part 1 p.k t
  unfolding key_at detail_shape
  first_key =
      let z : 1 + 0 * p.wpr ≡ 1 = omega arith in
      ap (λ (a : ℕ). part a p.k t) z

  last-key : (n : ℕ) → n ≡ count (detail_shape p) t → part (1 + (n - 1) * p.wpr) p.k t ≡ key_at (detail_shape p) t (count (detail_shape p) t - 1)
  unfolding key_at detail_shape
  last-key n e = ap (λ (m : ℕ). part (1 + (m - 1) * p.wpr) p.k t) e

  pub not-spans : (r : Bool) → r ≡ key_lt key (part 1 p.k t) → r ≡ true → not r ≡ Spans
  unfolding key_le
  not-spans r e h = rw (first_key, ← e, h)

  pub spans-by : (n : ℕ) (r s : Bool) → n ≡ count (detail_shape p) t → r ≡ key_lt key (part 1 p.k t) → r ≡ false
      → s ≡ key_lt key (part (1 + (n - 1) * p.wpr) p.k t) → s ≡ Spans
  unfolding key_le
  spans-by n r s en e h f = rw (first_key, ← e, h) (f ∙ ap (key_lt key) (last-key n en))
