-- The two block forms: what word 0 has besides the count, and where a free block has its link.
use Prim.Native.Nat.{ℕ, ◌+◌, ◌-◌, ◌≤◌, ◌<◌}
use mathlib.Core.Path.{◌≡◌, refl, sym, ap, ◌∙◌}
use mathlib.Core.Bool.{true}
use mathlib.Core.List.{List}
use native.Mathlib.Decide.{ℕ_discrete}
use native.Mathlib.Omega.{arith}
use borrow.Author.Tests.{eq-eqb, ne_eqb}
use lib.Dec.{eqb}
use lib.ListN.{length, get_or}
use Rattle.table.specs.declared.Shape.{Shape}
use Rattle.table.specs.Tables.{count, laid}
use Rattle.table.proofs.Rows.{count-plain, untag}
use Rattle.drum.specs.declared.Description.{Description}
use Rattle.drum.specs.Params.{good_params, tag_of, index_kind, detail_kind, free_kind, master_shape, index_shape, detail_shape}
use Rattle.drum.specs.Blocks.{sections, link_place, link_in, is_free}

module _ (p : Description) where
  -- the second form has the number of the kind, the link in word 1, and says which block is free
  pub tag-second : (kind : ℕ) → p.form ≡ 2 → tag_of p kind ≡ kind
  unfolding tag_of
  tag-second kind e = rw (eq-eqb p.form 2 e)

  pub link-second : p.form ≡ 2 → link_place p ≡ 1
  unfolding link_place
  link-second e = rw (eq-eqb p.form 2 e)

  pub free-second : (t : List ℕ) → p.form ≡ 2 → is_free p t ≡ eqb (get_or t 0 0) free_kind
  unfolding is_free
  free-second t e = rw (eq-eqb p.form 2 e)

  -- the first form has no kinds, and the link in word 0
  pub tag-first : (kind : ℕ) → (p.form ≡ 2 → ⊥) → tag_of p kind ≡ 0
  unfolding tag_of
  tag-first kind n = rw (ne_eqb p.form 2 n)

  pub link-first : (p.form ≡ 2 → ⊥) → link_place p ≡ 0
  unfolding link_place
  link-first n = rw (ne_eqb p.form 2 n)

  pub free-first : (t : List ℕ) → (p.form ≡ 2 → ⊥) → is_free p t ≡ true
  unfolding is_free
  free-first t n = rw (ne_eqb p.form 2 n)

  -- 1 is not 2: the same where the form is known to be the first
  pub not-second : p.form ≡ 1 → p.form ≡ 2 → ⊥
  not-second e k = absurd (omega arith)

  pub tag-plain : (kind : ℕ) → p.form ≡ 1 → tag_of p kind ≡ 0
  tag-plain kind e = tag-first kind (not-second e)

  -- a tag is at most the number of the kind
  pub tag-most : (kind : ℕ) → tag_of p kind ≤ kind
  tag-most kind = by (ℕ_discrete p.form 2)
    where
      by : Dec (p.form ≡ 2) → tag_of p kind ≤ kind
      by (yes e) = omega (arith, tag-second kind e)
      by (no n) = omega (arith, tag-first kind n)

  -- the link lies in the first two words
  pub link-most : link_place p ≤ 1
  link-most = by (ℕ_discrete p.form 2)
    where
      by : Dec (p.form ≡ 2) → link_place p ≤ 1
      by (yes e) = omega (arith, link-second e)
      by (no n) = omega (arith, link-first n)

  -- the same as rules for `omega`, which finds p by its good parameters
  pub free-tag : good_params p ≡ true → tag_of p free_kind ≤ 12288
  free-tag good = tag-most free_kind

  pub index-tag : good_params p ≡ true → (index_shape p).tag ≤ 4096
  unfolding index_shape
  index-tag good = tag-most index_kind

  pub detail-tag : good_params p ≡ true → (detail_shape p).tag ≤ 8192
  unfolding detail_shape
  detail-tag good = tag-most detail_kind

  pub link_near : good_params p ≡ true → link_place p ≤ 1
  link_near good = link-most

  -- and of a shape that the code made
  pub index-shaped : (h : Shape) → h ≡ index_shape p → h.tag ≤ 4096
  unfolding index_shape
  index-shaped h e =
      let t : h.tag ≡ tag_of p index_kind = ap (λ (x : Shape). x.tag) e in
      omega (arith, tag-most index_kind)

  pub detail-shaped : (h : Shape) → h ≡ detail_shape p → h.tag ≤ 8192
  unfolding detail_shape
  detail-shaped h e =
      let t : h.tag ≡ tag_of p detail_kind = ap (λ (x : Shape). x.tag) e in
      omega (arith, tag-most detail_kind)

  -- "word 0 sections in use" in both forms
  pub count-master : (f : List ℕ) → count (master_shape p) f ≡ sections f
  unfolding master_shape
  count-master f = count-plain (master_shape p) f refl

  -- a shape, by its tag as the code has it
  pub index-made : (g : ℕ) → g ≡ tag_of p index_kind → ◌≡◌ {A = Shape} (record { base = 1; stride = p.k + 1; width = p.k; tag = g }) (index_shape p)
  unfolding index_shape
  index-made g e = λ j. record { base = 1; stride = p.k + 1; width = p.k; tag = e j }

  pub detail-made : (g : ℕ) → g ≡ tag_of p detail_kind → ◌≡◌ {A = Shape} (record { base = 1; stride = p.wpr; width = p.k; tag = g }) (detail_shape p)
  unfolding detail_shape
  detail-made g e = λ j. record { base = 1; stride = p.wpr; width = p.k; tag = e j }

  -- word 0 less the tag is the count, as the code reads it
  pub entries-read : (t : List ℕ) (r n g : ℕ) → r ≡ n - g → n ≡ get_or t 0 0 → g ≡ tag_of p index_kind → r ≡ count (index_shape p) t
  unfolding count index_shape
  entries-read t r n g e en eg = rw (← en, ← eg) e

  pub records-read : (t : List ℕ) (r n g : ℕ) → r ≡ n - g → n ≡ get_or t 0 0 → g ≡ tag_of p detail_kind → r ≡ count (detail_shape p) t
  unfolding count detail_shape
  records-read t r n g e en eg = rw (← en, ← eg) e

  -- the kind and the link of a free block, as the code reads them
  pub free-read : (t : List ℕ) (n : ℕ) → n ≡ get_or t 0 0 → p.form ≡ 2 → eqb n free_kind ≡ is_free p t
  free-read t n en e = ap (λ (x : ℕ). eqb x free_kind) en ∙ sym (free-second t e)

  pub link-within : (t : List ℕ) (i : ℕ) → i ≡ link_place p → 1 < length t → i < length t
  link-within t i e l = omega (arith, link-most)

  pub link-read : (t : List ℕ) (r i : ℕ) → r ≡ get_or t i 0 → i ≡ link_place p → r ≡ link_in p t
  unfolding link_in
  link-read t r i e k = e ∙ ap (λ (x : ℕ). get_or t x 0) k

-- a text laid with a tag and a count has that count
pub laid-count : (h : Shape) (w n : ℕ) (rows : List ℕ) → count h (laid w (h.tag + n) rows) ≡ n
unfolding count laid
laid-count h w n rows = untag h.tag n
