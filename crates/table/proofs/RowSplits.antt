-- A full table split in two: what stays and what goes, as rows. The rows bs and cs with r between them are the lower us and the upper vs.
use mathlib.Core.Path.{◌≡◌, refl, sym, ap, ◌∙◌, subst}
use mathlib.Core.List.{List, [], ◌∷◌, ◌++◌, append_assoc}
use Prim.Native.Nat.{ℕ, suc, ◌+◌, ◌*◌, ◌-◌, ◌≤◌}
use native.Mathlib.Omega.{arith}
use lib.ListN.{length, take, length-append}
use Rattle.words.specs.Words.{part}
use Rattle.table.specs.declared.Shape.{Shape}
use Rattle.table.specs.Splits.{low_count, one_more, low_text, high_text, low_bound}
use Rattle.table.specs.Rows.{cat, encode, table}
use Rattle.table.proofs.Lists.{all_append, all_left, all_right}
use Rattle.table.proofs.Rows.{Each, cat-append, length-cat, take-cat, drop-cat, part_at}
use Rattle.table.proofs.RowTexts.{behind, table-encode, table-laid, table-key}

module _ (h : Shape) (front : List ℕ) (eb : h.base ≡ length front) (bs cs : List (List ℕ)) (hb : Each h.stride bs) (hc : Each h.stride cs)
    (pad : List ℕ) where
  -- the words of all rows
  pub rows-encode : part h.base (length (bs ++ cs) * h.stride) (encode front (bs ++ cs) pad) ≡ cat (bs ++ cs)
  unfolding encode
  rows-encode = part_at front (cat (bs ++ cs)) pad h.base (sym eb) (length (bs ++ cs) * h.stride) (length-cat h.stride (bs ++ cs) (all_append _ bs cs hb hc))

  pub more-encode : (n : ℕ) (r : List ℕ) → n ≡ length (bs ++ cs) → one_more h n (length bs) r (encode front (bs ++ cs) pad) ≡ cat (bs ++ (r ∷ cs))
  unfolding one_more cat
  more-encode n r en =
      rw (en, rows-encode, take-cat h.stride bs cs hb, drop-cat h.stride bs cs hb, cat-append bs (r ∷ cs)) (append_assoc (cat bs) r (cat cs))

  module _ (w n : ℕ) (r : List ℕ) (hr : length r ≡ h.stride) (en : n ≡ length (bs ++ cs)) (us vs : List (List ℕ)) (cut : bs ++ (r ∷ cs) ≡ us ++ vs)
      (low : length us ≡ low_count n) where
    all : Each h.stride (us ++ vs)
    all = subst (Each h.stride) cut (all_append _ bs (r ∷ cs) hb (hr, hc))

    pub low-each : Each h.stride us
    low-each = all_left _ us vs all

    pub high-each : Each h.stride vs
    high-each = all_right _ us vs all

    pub high-count : length vs ≡ n + 1 - low_count n
    high-count =
        let e : length (bs ++ (r ∷ cs)) ≡ length (us ++ vs) = ap (λ (z : List (List ℕ)). length z) cut in
        omega (arith, length-append bs (r ∷ cs), length-append bs cs, length-append us vs)

    more : one_more h n (length bs) r (encode front (bs ++ cs) pad) ≡ cat (us ++ vs)
    more = more-encode n r en ∙ ap cat cut

    pub low-encode : low_text w h n (length bs) r (encode front (bs ++ cs) pad) ≡ table h w us
    unfolding low_text
    low-encode = rw (more, ← low, take-cat h.stride us vs low-each) (table-laid h w (length us) us refl)

    pub high-encode : high_text w h n (length bs) r (encode front (bs ++ cs) pad) ≡ table h w vs
    unfolding high_text
    high-encode = rw (more, ← high-count, ← low, drop-cat h.stride us vs low-each) (table-laid h w (length vs) vs refl)

-- the bound of what stays is the key of its last row
pub bound-table : (w : ℕ) (h : Shape) → h.base ≡ 1 → h.width ≤ h.stride → (n : ℕ) (xs : List (List ℕ)) (y : List ℕ) → Each h.stride xs
    → length y ≡ h.stride → suc (length xs) ≡ low_count n
    → low_bound h n (table h w (xs ++ (y ∷ []))) ≡ take h.width y
unfolding low_bound
bound-table w h one kw n xs y hx hy e =
    let i : low_count n - 1 ≡ length xs = omega arith in
    rw i (table-key w h one xs [] hx tt y hy kw)

-- a full block split
module _ (w : ℕ) (h : Shape) (one : h.base ≡ 1) (bs cs : List (List ℕ)) (hb : Each h.stride bs) (hc : Each h.stride cs)
    (r : List ℕ) (hr : length r ≡ h.stride)
    (us vs : List (List ℕ)) (cut : bs ++ (r ∷ cs) ≡ us ++ vs) (low : length us ≡ low_count (length (bs ++ cs))) where
  is : table h w (bs ++ cs) ≡ encode ((h.tag + length (bs ++ cs)) ∷ []) (bs ++ cs) (behind w h.stride (bs ++ cs))
  is = table-encode h w h.stride (bs ++ cs) (all_append _ bs cs hb hc)

  pub table-low : low_text w h (length (bs ++ cs)) (length bs) r (table h w (bs ++ cs)) ≡ table h w us
  table-low =
      ap (low_text w h (length (bs ++ cs)) (length bs) r) is
      ∙ low-encode h ((h.tag + length (bs ++ cs)) ∷ []) one bs cs hb hc (behind w h.stride (bs ++ cs)) w (length (bs ++ cs)) r hr refl us vs cut low

  pub table-high : high_text w h (length (bs ++ cs)) (length bs) r (table h w (bs ++ cs)) ≡ table h w vs
  table-high =
      ap (high_text w h (length (bs ++ cs)) (length bs) r) is
      ∙ high-encode h ((h.tag + length (bs ++ cs)) ∷ []) one bs cs hb hc (behind w h.stride (bs ++ cs)) w (length (bs ++ cs)) r hr refl us vs cut low
