-- The rows of master, index and detail blocks lie in their words; a change of the master, and words 1 and 2, leave every block as it is.
use Prim.Native.Nat.{ℕ, ◌+◌, ◌*◌, ◌≤◌, ◌<◌}
use mathlib.Core.Path.{◌≡◌, ◌∙◌}
use mathlib.Core.Bool.{true}
use mathlib.Core.List.{List}
use native.Mathlib.Omega.{arith}
use lib.ListN.{length, set, length-set}
use Rattle.words.proofs.Parts.{length_part}
use Rattle.table.specs.Tables.{place, row, key_at}
use Rattle.table.proofs.Places.{row-le, row_lt}
use Rattle.drum.specs.declared.Description.{Description}
use Rattle.drum.specs.Params.{D, I, master_size, good_params, master_shape, index_shape, detail_shape}
use Rattle.drum.specs.Blocks.{block_at}
use Rattle.drum.proofs.Good.{caps}
use Rattle.drum.proofs.Blocks.{block-set}
use Rattle.rules.specs.Free.{with_free}

-- the first row stands behind the count
pub index-base : (p : Description) → 1 ≤ (index_shape p).base
unfolding index_shape
index-base p = omega arith

pub master-base : (p : Description) → 1 ≤ (master_shape p).base
unfolding master_shape
master-base p = omega arith

module _ (p : Description) (good : good_params p ≡ true) where
  pub detail-end : (n : ℕ) → n ≤ D p → place (detail_shape p) n ≤ p.wpb
  unfolding detail_shape
  detail-end n h =
      let g = caps p good in
      omega (arith, row-le n (D p) p.wpr h)

  pub detail-row : (i : ℕ) → i < D p → place (detail_shape p) i + p.wpr ≤ p.wpb
  unfolding detail_shape
  detail-row i h =
      let g = caps p good in
      omega (arith, row_lt i (D p) p.wpr h)

  pub index-end : (n : ℕ) → n ≤ I p → place (index_shape p) n ≤ p.wpb
  unfolding index_shape
  index-end n h =
      let g = caps p good in
      omega (arith, row-le n (I p) (p.k + 1) h)

  pub index-row : (i : ℕ) → i < I p → place (index_shape p) i + (p.k + 1) ≤ p.wpb
  unfolding index_shape
  index-row i h =
      let g = caps p good in
      omega (arith, row_lt i (I p) (p.k + 1) h)

  pub master-end : (n : ℕ) → n ≤ p.control → place (master_shape p) n ≤ master_size p
  unfolding master_shape
  master-end n h =
      let g = caps p good in
      omega (arith, row-le n p.control (p.k + 1) h)

  pub master-row : (i : ℕ) → i < p.control → place (master_shape p) i + (p.k + 1) ≤ master_size p
  unfolding master_shape
  master-row i h =
      let g = caps p good in
      omega (arith, row_lt i p.control (p.k + 1) h)

  -- a key, and a row, are read whole
  pub index_key : (t : List ℕ) (i : ℕ) → length t ≡ p.wpb → i < I p → length (key_at (index_shape p) t i) ≡ p.k
  unfolding key_at index_shape
  index_key t i l h =
      let r = index-row i h in
      length_part (1 + i * (p.k + 1)) p.k t (omega arith)

  pub detail-key : (t : List ℕ) (i : ℕ) → length t ≡ p.wpb → i < D p → length (key_at (detail_shape p) t i) ≡ p.k
  unfolding key_at detail_shape
  detail-key t i l h =
      let r = detail-row i h in
      let g = caps p good in
      length_part (1 + i * p.wpr) p.k t (omega arith)

  pub detail-read : (t : List ℕ) (i : ℕ) → length t ≡ p.wpb → i < D p → length (row (detail_shape p) t i) ≡ p.wpr
  unfolding row detail_shape
  detail-read t i l h =
      let r = detail-row i h in
      length_part (1 + i * p.wpr) p.wpr t (omega arith)

  -- words 1 and 2 of the master
  pub free-length : (head lowest : ℕ) (f : List ℕ) → length (with_free head lowest f) ≡ length f
  unfolding with_free
  free-length head lowest f = simp length-set

  pub free-blocks : (head lowest : ℕ) (f : List ℕ) (b : ℕ) → block_at p (with_free head lowest f) b ≡ block_at p f b
  unfolding with_free
  free-blocks head lowest f b =
      let g = caps p good in
      block-set p (set f 1 head) 2 lowest b (omega arith) ∙ block-set p f 1 head b (omega arith)
