-- The lower part of a split; the laws of table for a block's text, under the names that are used here.
use Prim.Native.Nat.{ℕ, ◌+◌, ◌*◌, ◌/◌, ◌≤◌, ◌<◌}
use mathlib.Core.Path.{◌≡◌, sym, ap, ◌∙◌}
use mathlib.Core.List.{List, [], ◌∷◌, ◌++◌}
use native.Mathlib.Omega.{arith}
use native.Mathlib.Nat.{div-mul-le_self, lt-div-mul-add}
use lib.ListN.{length, length-append}
use Rattle.table.specs.declared.Shape.{Shape}
use Rattle.table.specs.Tables.{block_in}
use Rattle.table.specs.Rows.{table}
use Rattle.table.specs.Splits.{low_count, low_text, high_text}
use Rattle.table.proofs.Rows.{entry-block}
use Rattle.table.proofs.RowTexts.{behind, table-encode}
use Rattle.table.proofs.RowSplits.{table-low, table-high}
use Rattle.demands.proofs.Lists.{all_append}
use Rattle.demands.proofs.Rows.{Each}
pub use Rattle.table.proofs.RowSplits.{bound-table}
pub use Rattle.table.proofs.RowTexts.{count-table, length-table, table-insert, table-remove, table-replace, table-row, table-key, table-rekey, table-rename}
pub use Rattle.table.proofs.RowTexts.{table-enter}

-- the lower part of c + 1 rows
pub half : (c : ℕ) → 2 ≤ c → (2 ≤ low_count c) × (low_count c ≤ c)
half c h =
    let a : (c + 2) / 2 * 2 ≤ c + 2 = div-mul-le_self (c + 2) 2 in
    let b : c + 2 < (c + 2) / 2 * 2 + 2 = lt-div-mul-add {a = c + 2} {b = 2} (omega arith) in
    (omega arith, omega arith)

module _ (h : Shape) (one : h.base ≡ 1) (wpb : ℕ) (bs cs : List (List ℕ)) (hb : Each h.stride bs) (hc : Each h.stride cs) where
  -- the block that an entry names
  pub table-names : h.stride ≡ h.width + 1 → (k : List ℕ) → length k ≡ h.width → (b : ℕ) → block_in h (table h wpb (bs ++ (k ++ (b ∷ [])) ∷ cs)) (length bs) ≡ b
  table-names hs k hk b =
      let rows : List (List ℕ) = bs ++ (k ++ (b ∷ [])) ∷ cs in
      let each : Each h.stride rows = all_append (λ r. length r ≡ h.stride) bs ((k ++ (b ∷ [])) ∷ cs) hb (rw (length-append k (b ∷ []), hk, hs), hc) in
      ap (λ (t : List ℕ). block_in h t (length bs)) (table-encode h wpb h.stride rows each)
      ∙ entry-block h ((h.tag + length rows) ∷ []) one hs bs hb k hk b cs (behind wpb h.stride rows)

  -- a full table of n rows and one row more, in two
  module _ (r : List ℕ) (hr : length r ≡ h.stride) (n : ℕ) (en : length (bs ++ cs) ≡ n) (us vs : List (List ℕ)) (cut : bs ++ r ∷ cs ≡ us ++ vs)
      (low : length us ≡ low_count n) where
    pub low-table : low_text wpb h n (length bs) r (table h wpb (bs ++ cs)) ≡ table h wpb us
    low-table =
        ap (λ (m : ℕ). low_text wpb h m (length bs) r (table h wpb (bs ++ cs))) (sym en)
        ∙ table-low wpb h one bs cs hb hc r hr us vs cut (low ∙ ap (λ (m : ℕ). low_count m) (sym en))

    pub high-table : high_text wpb h n (length bs) r (table h wpb (bs ++ cs)) ≡ table h wpb vs
    high-table =
        ap (λ (m : ℕ). high_text wpb h m (length bs) r (table h wpb (bs ++ cs))) (sym en)
        ∙ table-high wpb h one bs cs hb hc r hr us vs cut (low ∙ ap (λ (m : ℕ). low_count m) (sym en))
