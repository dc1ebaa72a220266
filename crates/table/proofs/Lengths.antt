-- The operations keep a table's length; a block written anew has the length asked for.
use mathlib.Core.Path.{◌≡◌, ap, ◌∙◌}
use mathlib.Core.List.{List, ◌++◌}
use Prim.Native.Nat.{ℕ, ◌+◌, ◌*◌, ◌-◌, ◌≤◌, ◌<◌}
use native.Mathlib.Omega.{arith}
use lib.ListN.{length, take, drop, length-append, length-set, length-take, length-drop, length-replicate}
use lib.Seq.{get_or-set_other}
use Rattle.words.specs.Words.{part, zeros}
use Rattle.words.proofs.Parts.{length_part, length-put}
use Rattle.table.specs.declared.Shape.{Shape}
use Rattle.table.specs.Tables.{place, count, opened, closed, inserted, removed, replaced, laid}
use Rattle.table.specs.Splits.{low_count, one_more, low_text, high_text, renamed, entered}
use Rattle.table.proofs.Places.{row-le, row_lt}

-- the words that an opened or closed table is written over with
module _ (t : List ℕ) (a e : ℕ) where
  pub length-opened-part : (s : List ℕ) → a ≤ e → e ≤ length t → length (s ++ part a (e - a) t) ≡ length s + (e - a)
  length-opened-part s h h' = length-append s (part a (e - a) t) ∙ ap (λ (n : ℕ). length s + n) (length_part a (e - a) t (omega arith))

  pub length-closed-part : (n : ℕ) → a + n ≤ e → e ≤ length t → length (part (a + n) (e - (a + n)) t ++ zeros n) ≡ e - a
  length-closed-part n h h' = simp (length-append, length-replicate) (omega (arith, length_part (a + n) (e - (a + n)) t (omega arith)))

  pub length-opened : (s : List ℕ) → a ≤ e → e + length s ≤ length t → length (opened t a e s) ≡ length t
  unfolding opened
  length-opened s h h' = length-put t a (s ++ part a (e - a) t) (omega (arith, length-opened-part s h (omega arith)))

  pub length-closed : (n : ℕ) → a + n ≤ e → e ≤ length t → length (closed t a e n) ≡ length t
  unfolding closed
  length-closed n h h' = length-put t a (part (a + n) (e - (a + n)) t ++ zeros n) (omega (arith, length-closed-part n h h'))

module _ (h : Shape) (i : ℕ) (t : List ℕ) where
  pub length_inserted : (r : List ℕ) → i ≤ count h t → length r ≡ h.stride → place h (count h t) + h.stride ≤ length t → length (inserted h i r t) ≡ length t
  unfolding inserted
  length_inserted r hi hr room =
      length-set (opened t (place h i) (place h (count h t)) r) 0 (h.tag + (count h t + 1))
      ∙ length-opened t (place h i) (place h (count h t)) r (omega (arith, row-le i (count h t) h.stride hi)) (omega arith)

  pub length_removed : i < count h t → place h (count h t) ≤ length t → length (removed h i t) ≡ length t
  unfolding removed
  length_removed hi room =
      length-set (closed t (place h i) (place h (count h t)) h.stride) 0 (h.tag + (count h t - 1))
      ∙ length-closed t (place h i) (place h (count h t)) h.stride (omega (arith, row_lt i (count h t) h.stride hi)) room

  pub length-replaced : (r : List ℕ) → place h i + length r ≤ length t → length (replaced h i r t) ≡ length t
  unfolding replaced
  length-replaced r room = length-put t (place h i) r room

  pub length-renamed : (b : ℕ) → length (renamed h i b t) ≡ length t
  unfolding renamed
  length-renamed b = length-set t (place h i + h.width) b

  pub count-renamed : (b : ℕ) → 1 ≤ h.base → count h (renamed h i b t) ≡ count h t
  unfolding count renamed
  count-renamed b hb = ap (λ (x : ℕ). x - h.tag) (get_or-set_other t (place h i + h.width) 0 b 0 (λ e. omega arith))

pub length-entered : (h : Shape) (i : ℕ) (t r : List ℕ) (b : ℕ) → 1 ≤ h.base → i ≤ count h t → length r ≡ h.stride
    → place h (count h t) + h.stride ≤ length t → length (entered h i r b t) ≡ length t
unfolding entered
length-entered h i t r b hb hi hr room =
    let c : count h (renamed h i b t) ≡ count h t = count-renamed h i t b hb in
    let l : length (renamed h i b t) ≡ length t = length-renamed h i t b in
    length_inserted h i (renamed h i b t) r (rw c hi) hr (rw (c, l) room) ∙ l

pub length-laid : (w n : ℕ) (ws : List ℕ) → 1 + length ws ≤ w → length (laid w n ws) ≡ w
unfolding laid
length-laid w n ws h = simp (length-append, length-replicate) (omega arith)

-- a split in the middle leaves at least a row on each side, and at most the rows that there were
pub low-least : (n : ℕ) → 1 ≤ low_count n
low-least n = omega arith

pub low-most : (n : ℕ) → 1 ≤ n → low_count n ≤ n
low-most n h = omega arith

module _ (w : ℕ) (h : Shape) (n i : ℕ) (r t : List ℕ) (hn : 1 ≤ n) (hr : length r ≡ h.stride) (hw : 1 + n * h.stride ≤ w) where
  most : length (one_more h n i r t) ≤ n * h.stride + h.stride
  unfolding one_more part
  most = simp (length-append, length-take, length-drop) (omega arith)

  pub length-low : length (low_text w h n i r t) ≡ w
  unfolding low_text
  length-low =
      let ws : List ℕ = take (low_count n * h.stride) (one_more h n i r t) in
      let l : length ws ≤ low_count n * h.stride = simp length-take (omega arith) in
      length-laid w (h.tag + low_count n) ws (omega (arith, row-le (low_count n) n h.stride (low-most n hn)))

  pub length_high : length (high_text w h n i r t) ≡ w
  unfolding high_text
  length_high =
      let ws : List ℕ = drop (low_count n * h.stride) (one_more h n i r t) in
      let l : length ws ≤ n * h.stride = simp length-drop (omega (arith, most, row-le 1 (low_count n) h.stride (low-least n))) in
      length-laid w (h.tag + (n + 1 - low_count n)) ws (omega arith)
