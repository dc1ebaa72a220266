-- The facts of the walk give the sentences on bounds, on the order of keys and on the end record.
use Prim.Native.Nat.{ℕ, zero, suc, ◌+◌, ◌*◌, ◌-◌, ◌≤◌}
use mathlib.Core.Path.{◌≡◌, refl, ap, ◌∙◌}
use mathlib.Core.List.{List, append-nil}
use mathlib.Core.Bool.{true, ◌&&◌}
use native.Mathlib.Omega.{arith}
use native.Mathlib.Nat.{not-suc-le-zero, mul-le-mul_right}
use lib.ListN.{length, length-append}
use Rattle.words.specs.Words.{part, all_are}
use Rattle.words.specs.Keys.{ones, is_ones, key_le}
use Rattle.words.proofs.Parts.{part-add}
use Rattle.words.proofs.Keys.{same_key-true}
use Rattle.words.proofs.All.{and_both, is_ones-true}
use Rattle.drum.specs.declared.Description.{Description}
use Rattle.drum.specs.Params.{D, I, start}
use Rattle.drum.specs.Blocks.{Block}
use Rattle.layout.specs.Create.{end_record}
use Rattle.layout.specs.Inspect.{key_held, named, last_row, ascends, records_ok, end_ok}
use Rattle.layout.specs.Tree.{last_in, bound_of, leaves_in, records_in}
use Rattle.layout.specs.Holds.{LeafOk, LeavesOk}
use Rattle.layout.proofs.Good.{Sized, row_more, cap-d, cap-i, block_in_lem}
use Rattle.layout.proofs.Lists.{last-right, bound-right, records-append}
use Rattle.layout.proofs.Read.{LeafFacts, SectionFacts, LeavesAt, Sections, leaf_at, leaves_at, section_at, sections_at, rows-length, leaves-length}
use Rattle.layout.proofs.Read.{records_at, entries_at, last-next, last_one}
use Rattle.layout.proofs.Texts.{zeros-are, length-key}
use Rattle.layout.proofs.Standing.{section-bound}
use Rattle.layout.proofs.Order.{befores, before-some, rising-keys, all-bounded, all-wide, last_row_lem}
use Rattle.layout.proofs.Trees.{leaves_none, leaves-append}

-- the three tests on the records of a block
record Tested (p : Description) (f : List ℕ) (low e a n : ℕ) : Type 0 where
  up : ascends p f p.wpr low a n ≡ true
  top : key_le (key_held p f (last_row a p.wpr n)) (key_held p f e) ≡ true
  end : end_ok p f e (last_row a p.wpr n) ≡ true

tested : (p : Description) (f : List ℕ) (low e a n : ℕ) → records_ok p f low e a n ≡ true → Tested p f low e a n
unfolding records_ok
tested p f low e a n h =
    let r = last_row a p.wpr n in
    let (u, v) = and_both (ascends p f p.wpr low a n) (key_le (key_held p f r) (key_held p f e) && end_ok p f e r) h in
    let (x, y) = and_both (key_le (key_held p f r) (key_held p f e)) (end_ok p f e r) v in
    record { up = u; top = x; end = y }

leaf-bound : (p : Description) (f : List ℕ) (e : ℕ) → (leaf_at p f e).bound ≡ key_held p f e
unfolding leaf_at
leaf-bound p f e = refl

module _ (p : Description) (f : List ℕ) (z : Sized p f) where
  leaf-ok : (low e : ℕ) → e + p.k ≤ length f → Block p (named p f e) → LeafFacts p f low e → LeafOk p (befores p f low) (leaf_at p f e)
  unfolding leaf_at
  leaf-ok low e h i w =
      let s = start p (named p f e) in
      let n = records_at p f s in
      let kwpr = z.good.key in
      let t = tested p f low e (s + 1) n w.good in
      let l : n * p.wpr ≤ D p * p.wpr = mul-le-mul_right p.wpr w.rows.fits.1 in
      let k : s + 1 + n * p.wpr ≤ length f = omega (arith, block_in_lem p f z (named p f e) i, cap-d p z.good) in
      record {
        counted = rw (rows-length f p.wpr n (s + 1)) w.rows.fits;
        width = length-key p f e h;
        widths = all-wide f p.wpr n (s + 1) k;
        order = rising-keys p f p.wpr kwpr n low (s + 1) (omega arith) t.up;
        bounded = all-bounded p f p.wpr kwpr n low (s + 1) (key_held p f e) w.rows.fits.0 (omega arith) t.up t.top;
      }

  leaves-ok : (n low e : ℕ) → 1 ≤ e → e + n * (p.k + 1) ≤ length f → LeavesAt p f low e n → LeavesOk p (befores p f low) (leaves_at p f e n)
  unfolding LeavesAt LeavesOk leaves_at
  leaves-ok zero low e s h t = tt
  leaves-ok (suc n) low e s h (i, w, t) =
      let m = row_more n (p.k + 1) in
      let ih = leaves-ok n e (e + (p.k + 1)) (omega arith) (omega arith) t in
      (leaf-ok low e (omega arith) i w, rw (leaf-bound p f e) (rw (before-some p f e s) at ih))

  section-ok : (low e : ℕ) → Block p (named p f e) → SectionFacts p f low e → LeavesOk p (befores p f low) (section_at p f e).leaves
  unfolding section_at
  section-ok low e i w =
      let s = start p (named p f e) in
      let n = entries_at p f s in
      let l : n * (p.k + 1) ≤ I p * (p.k + 1) = mul-le-mul_right (p.k + 1) w.rows.fits.1 in
      leaves-ok n low (s + 1) (omega arith) (omega (arith, block_in_lem p f z (named p f e) i, cap-i p z.good)) w.leaves

  section-some : (low e : ℕ) → SectionFacts p f low e → 1 ≤ length (section_at p f e).leaves
  unfolding section_at
  section-some low e w = rw (leaves-length p f _ _) w.rows.fits.0

  pub sections-ok : (n low e : ℕ) → 1 ≤ e → e + n * (p.k + 1) ≤ length f → Sections p f low e n
      → LeavesOk p (befores p f low) (leaves_in (sections_at p f e n))
  unfolding Sections sections_at leaves_in
  sections-ok zero low e s h t = leaves_none p (befores p f low)
  sections-ok (suc n) low e s h (i, w, t) =
      let m = row_more n (p.k + 1) in
      let ih = sections-ok n e (e + (p.k + 1)) (omega arith) (omega arith) t in
      leaves-append p (befores p f low) (section_at p f e).leaves _ (key_held p f e)
      (section-ok low e i w) (section-some low e w) (section-bound p f z low e w) (rw (before-some p f e s) at ih)

  -- the last bound
  sections-some : (n low e : ℕ) → 1 ≤ n → Sections p f low e n → 1 ≤ length (leaves_in (sections_at p f e n))
  unfolding Sections sections_at leaves_in
  sections-some zero low e h t = absurd (not-suc-le-zero h)
  sections-some (suc n) low e h (i, w, t) = rw (length-append (section_at p f e).leaves _) (omega (arith, section-some low e w))

  pub sections-last : (n low e : ℕ) → 1 ≤ n → Sections p f low e n → bound_of (leaves_in (sections_at p f e n)) ≡ key_held p f (last_row e (p.k + 1) n)
  unfolding Sections sections_at leaves_in
  sections-last zero low e h t = absurd (not-suc-le-zero h)
  sections-last (suc zero) low e h (i, w, t) = rw (append-nil (section_at p f e).leaves, last_one e (p.k + 1)) (section-bound p f z low e w)
  sections-last (suc (suc n)) low e h (i, w, t) =
      bound-right (section_at p f e).leaves _ (sections-some (suc n) e (e + (p.k + 1)) (omega arith) t)
      ∙ sections-last (suc n) e (e + (p.k + 1)) (omega arith) t
      ∙ ap (key_held p f) (last-next e (p.k + 1) n)

  -- the end record
  pub ones-are : (e : ℕ) → e + p.k ≤ length f → is_ones (key_held p f e) ≡ true → key_held p f e ≡ ones p.k
  ones-are e h q = is_ones-true p.k (key_held p f e) (length-key p f e h) q

  key-part : (r : ℕ) → part r p.k f ≡ key_held p f r
  unfolding key_held
  key-part r = refl

  end_is : (e r : ℕ) → r + p.wpr ≤ length f → is_ones (key_held p f e) ≡ true → end_ok p f e r ≡ true → part r p.wpr f ≡ end_record p
  unfolding end_ok end_record
  end_is e r h q w =
      let g = z.good.key in
      let (a, b) = and_both (is_ones (key_held p f r)) (all_are 0 (part (r + p.k) (p.wpr - p.k) f)) (simp q at w) in
      let l : p.wpr ≡ p.k + (p.wpr - p.k) = omega arith in
      ap (λ (n : ℕ). part r n f) l
      ∙ part-add r p.k (p.wpr - p.k) f
      ∙ rw (zeros-are (r + p.k) (p.wpr - p.k) f (omega arith) b, ← ones-are r (omega arith) a, key-part r)

  leaf-end : (low e : ℕ) → Block p (named p f e) → LeafFacts p f low e → is_ones (key_held p f e) ≡ true → last_in (leaf_at p f e).records ≡ end_record p
  unfolding leaf_at
  leaf-end low e i w q =
      let s = start p (named p f e) in
      let n = records_at p f s in
      let le : n - 1 + 1 ≤ D p = omega (arith, w.rows.fits) in
      let l : (n - 1 + 1) * p.wpr ≤ D p * p.wpr = mul-le-mul_right p.wpr le in
      let k : last_row (s + 1) p.wpr n + p.wpr ≤ length f = omega (arith, block_in_lem p f z (named p f e) i, cap-d p z.good) in
      last_row_lem f p.wpr n (s + 1) w.rows.fits.0 ∙ end_is e (last_row (s + 1) p.wpr n) k q (tested p f low e (s + 1) n w.good).end

  leaf-some : (low e : ℕ) → LeafFacts p f low e → 1 ≤ length (leaf_at p f e).records
  unfolding leaf_at
  leaf-some low e w = rw (rows-length f p.wpr _ _) w.rows.fits.0

  leaves-full : (n low e : ℕ) → 1 ≤ n → LeavesAt p f low e n → 1 ≤ length (records_in (leaves_at p f e n))
  unfolding LeavesAt leaves_at records_in
  leaves-full zero low e h t = absurd (not-suc-le-zero h)
  leaves-full (suc n) low e h (i, w, t) = rw (length-append (leaf_at p f e).records _) (omega (arith, leaf-some low e w))

  leaves-end : (n low e : ℕ) → 1 ≤ n → LeavesAt p f low e n → is_ones (key_held p f (last_row e (p.k + 1) n)) ≡ true
      → last_in (records_in (leaves_at p f e n)) ≡ end_record p
  unfolding LeavesAt leaves_at records_in
  leaves-end zero low e h t q = absurd (not-suc-le-zero h)
  leaves-end (suc zero) low e h (i, w, t) q =
      rw (append-nil (leaf_at p f e).records) (leaf-end low e i w (rw (last_one e (p.k + 1)) at q))
  leaves-end (suc (suc n)) low e h (i, w, t) q =
      last-right (leaf_at p f e).records _ (leaves-full (suc n) e (e + (p.k + 1)) (omega arith) t)
      ∙ leaves-end (suc n) e (e + (p.k + 1)) (omega arith) t (rw (last-next e (p.k + 1) n) q)

  section-full : (low e : ℕ) → SectionFacts p f low e → 1 ≤ length (records_in (section_at p f e).leaves)
  unfolding section_at
  section-full low e w = leaves-full _ low _ w.rows.fits.0 w.leaves

  section-end : (low e : ℕ) → SectionFacts p f low e → is_ones (key_held p f e) ≡ true → last_in (records_in (section_at p f e).leaves) ≡ end_record p
  unfolding section_at
  section-end low e w q = leaves-end _ low _ w.rows.fits.0 w.leaves (rw (same_key-true _ _ w.same) q)

  sections-full : (n low e : ℕ) → 1 ≤ n → Sections p f low e n → 1 ≤ length (records_in (leaves_in (sections_at p f e n)))
  unfolding Sections sections_at leaves_in
  sections-full zero low e h t = absurd (not-suc-le-zero h)
  sections-full (suc n) low e h (i, w, t) =
      rw (records-append (section_at p f e).leaves _, length-append (records_in (section_at p f e).leaves) _) (omega (arith, section-full low e w))

  pub sections-end : (n low e : ℕ) → 1 ≤ n → Sections p f low e n → is_ones (key_held p f (last_row e (p.k + 1) n)) ≡ true
      → last_in (records_in (leaves_in (sections_at p f e n))) ≡ end_record p
  unfolding Sections sections_at leaves_in
  sections-end zero low e h t q = absurd (not-suc-le-zero h)
  sections-end (suc zero) low e h (i, w, t) q =
      rw (append-nil (section_at p f e).leaves) (section-end low e w (rw (last_one e (p.k + 1)) at q))
  sections-end (suc (suc n)) low e h (i, w, t) q =
      rw (records-append (section_at p f e).leaves _)
      (last-right (records_in (section_at p f e).leaves) _ (sections-full (suc n) e (e + (p.k + 1)) (omega arith) t))
      ∙ sections-end (suc n) e (e + (p.k + 1)) (omega arith) t (rw (last-next e (p.k + 1) n) q)
