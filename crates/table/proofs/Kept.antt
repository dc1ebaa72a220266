-- What the operations leave as it is: the words before the rows but word 0, and the words behind. And what becomes of the count.
use mathlib.Core.Path.{◌≡◌, ap, ◌∙◌}
use mathlib.Core.List.{List, ◌++◌}
use Prim.Native.Nat.{ℕ, ◌+◌, ◌-◌, ◌≤◌, ◌<◌}
use native.Mathlib.Omega.{arith}
use lib.ListN.{length, take, drop, get_or, length-append, length-take}
use lib.Seq.{get_or-set_same, get_or-set_other, drop-set-lt, drop-append-add, drop-drop}
use Rattle.words.specs.Words.{part, put, zeros}
use Rattle.words.proofs.Parts.{get_or-put-before}
use Rattle.table.specs.declared.Shape.{Shape}
use Rattle.table.specs.Tables.{place, count, opened, closed, inserted, removed, replaced}
use Rattle.table.specs.Splits.{renamed, entered}
use Rattle.table.proofs.Places.{row-le, row_lt}
use Rattle.table.proofs.Rows.{untag}
use Rattle.table.proofs.Lengths.{length-opened-part, length-closed-part, length-opened, length-closed, length-renamed, count-renamed}

-- what is behind words written over
pub drop-put : (l : List ℕ) (a : ℕ) (s : List ℕ) (b : ℕ) → a + length s ≤ b → a ≤ length l → drop b (put l a s) ≡ drop b l
unfolding put
drop-put l a s b h h' =
    let n : length (take a l ++ s) ≡ a + length s = simp (length-append, length-take) (omega arith) in
    let e : b ≡ length (take a l ++ s) + (b - (a + length s)) = omega arith in
    let f : a + length s + (b - (a + length s)) ≡ b = omega arith in
    ap (λ (k : ℕ). drop k (take a l ++ s ++ drop (a + length s) l)) e
    ∙ drop-append-add (take a l ++ s) (drop (a + length s) l) (b - (a + length s))
    ∙ drop-drop (b - (a + length s)) (a + length s) l
    ∙ ap (λ (k : ℕ). drop k l) f

module _ (t : List ℕ) (a e : ℕ) where
  pub drop-opened : (s : List ℕ) (b : ℕ) → a ≤ e → e + length s ≤ length t → e + length s ≤ b → drop b (opened t a e s) ≡ drop b t
  unfolding opened
  drop-opened s b h h' g = drop-put t a (s ++ part a (e - a) t) b (omega (arith, length-opened-part t a e s h (omega arith))) (omega arith)

  pub drop-closed : (n b : ℕ) → a + n ≤ e → e ≤ length t → e ≤ b → drop b (closed t a e n) ≡ drop b t
  unfolding closed
  drop-closed n b h h' g = drop-put t a (part (a + n) (e - (a + n)) t ++ zeros n) b (omega (arith, length-closed-part t a e n h h')) (omega arith)

  pub word-opened : (s : List ℕ) (k : ℕ) → k < a → a ≤ length t → get_or (opened t a e s) k 0 ≡ get_or t k 0
  unfolding opened
  word-opened s k h h' = get_or-put-before t a (s ++ part a (e - a) t) k h h'

  pub word-closed : (n k : ℕ) → k < a → a ≤ length t → get_or (closed t a e n) k 0 ≡ get_or t k 0
  unfolding closed
  word-closed n k h h' = get_or-put-before t a (part (a + n) (e - (a + n)) t ++ zeros n) k h h'

module _ (h : Shape) (i : ℕ) (t : List ℕ) where
  -- a row put in
  module _ (r : List ℕ) (hi : i ≤ count h t) (hr : length r ≡ h.stride) (room : place h (count h t) + h.stride ≤ length t) where
    abbrev up : List ℕ
    up = opened t (place h i) (place h (count h t)) r

    pub count-inserted : 1 ≤ h.base → count h (inserted h i r t) ≡ count h t + 1
    unfolding count inserted
    count-inserted one =
        let l = length-opened t (place h i) (place h (count h t)) r (omega (arith, row-le i (count h t) h.stride hi)) (omega arith) in
        ap (λ (x : ℕ). x - h.tag) (get_or-set_same up 0 (h.tag + (count h t + 1)) 0 (rw l (omega arith)))
        ∙ untag h.tag (count h t + 1)

    pub word-inserted : (k : ℕ) → 1 ≤ k → k < place h i → get_or (inserted h i r t) k 0 ≡ get_or t k 0
    unfolding inserted
    word-inserted k one l =
        get_or-set_other up 0 k (h.tag + (count h t + 1)) 0 (λ e. omega arith)
        ∙ word-opened t (place h i) (place h (count h t)) r k l (omega (arith, row-le i (count h t) h.stride hi))

    pub drop-inserted : (b : ℕ) → 1 ≤ h.base → place h (count h t) + h.stride ≤ b → drop b (inserted h i r t) ≡ drop b t
    unfolding inserted
    drop-inserted b one g =
        drop-set-lt b up 0 (h.tag + (count h t + 1)) (omega arith)
        ∙ drop-opened t (place h i) (place h (count h t)) r b (omega (arith, row-le i (count h t) h.stride hi)) (omega arith) (omega arith)

    pub part-inserted : (b n : ℕ) → 1 ≤ h.base → place h (count h t) + h.stride ≤ b → part b n (inserted h i r t) ≡ part b n t
    unfolding part
    part-inserted b n one g = ap (take n) (drop-inserted b one g)

  -- a row taken out
  module _ (hi : i < count h t) (room : place h (count h t) ≤ length t) where
    abbrev down : List ℕ
    down = closed t (place h i) (place h (count h t)) h.stride

    pub count-removed : 1 ≤ h.base → count h (removed h i t) ≡ count h t - 1
    unfolding count removed
    count-removed one =
        let l = length-closed t (place h i) (place h (count h t)) h.stride (omega (arith, row_lt i (count h t) h.stride hi)) room in
        ap (λ (x : ℕ). x - h.tag) (get_or-set_same down 0 (h.tag + (count h t - 1)) 0 (rw l (omega arith)))
        ∙ untag h.tag (count h t - 1)

    pub word-removed : (k : ℕ) → 1 ≤ k → k < place h i → get_or (removed h i t) k 0 ≡ get_or t k 0
    unfolding removed
    word-removed k one l =
        get_or-set_other down 0 k (h.tag + (count h t - 1)) 0 (λ e. omega arith)
        ∙ word-closed t (place h i) (place h (count h t)) h.stride k l (omega (arith, row_lt i (count h t) h.stride hi))

    pub drop-removed : (b : ℕ) → 1 ≤ h.base → place h (count h t) ≤ b → drop b (removed h i t) ≡ drop b t
    unfolding removed
    drop-removed b one g =
        drop-set-lt b down 0 (h.tag + (count h t - 1)) (omega arith)
        ∙ drop-closed t (place h i) (place h (count h t)) h.stride b (omega (arith, row_lt i (count h t) h.stride hi)) room g

    pub part-removed : (b n : ℕ) → 1 ≤ h.base → place h (count h t) ≤ b → part b n (removed h i t) ≡ part b n t
    unfolding part
    part-removed b n one g = ap (take n) (drop-removed b one g)

  -- words written over a row
  module _ (r : List ℕ) (room : place h i + length r ≤ length t) where
    pub word-replaced : (k : ℕ) → k < place h i → get_or (replaced h i r t) k 0 ≡ get_or t k 0
    unfolding replaced
    word-replaced k l = get_or-put-before t (place h i) r k l (omega arith)

    pub count-replaced : 1 ≤ h.base → count h (replaced h i r t) ≡ count h t
    unfolding count
    count-replaced one = ap (λ (x : ℕ). x - h.tag) (word-replaced 0 (omega arith))

    pub drop-replaced : (b : ℕ) → place h i + length r ≤ b → drop b (replaced h i r t) ≡ drop b t
    unfolding replaced
    drop-replaced b g = drop-put t (place h i) r b g (omega arith)

    pub part-replaced : (b n : ℕ) → place h i + length r ≤ b → part b n (replaced h i r t) ≡ part b n t
    unfolding part
    part-replaced b n g = ap (take n) (drop-replaced b g)

  -- an entry that names another block
  pub word-renamed : (x k : ℕ) → k < place h i → get_or (renamed h i x t) k 0 ≡ get_or t k 0
  unfolding renamed
  word-renamed x k l = get_or-set_other t (place h i + h.width) k x 0 (λ e. omega arith)

  pub drop-renamed : (x b : ℕ) → place h i + h.width < b → drop b (renamed h i x t) ≡ drop b t
  unfolding renamed
  drop-renamed x b g = drop-set-lt b t (place h i + h.width) x g

  pub part-renamed : (x b n : ℕ) → place h i + h.width < b → part b n (renamed h i x t) ≡ part b n t
  unfolding part
  part-renamed x b n g = ap (take n) (drop-renamed x b g)

-- an entry that becomes two
module _ (h : Shape) (i : ℕ) (r : List ℕ) (x : ℕ) (t : List ℕ) (hb : 1 ≤ h.base) (hw : h.width < h.stride) (hi : i ≤ count h t) (hr : length r ≡ h.stride)
    (room : place h (count h t) + h.stride ≤ length t) where
  named : List ℕ
  named = renamed h i x t

  same_count : count h named ≡ count h t
  unfolding named
  same_count = count-renamed h i t x hb

  fit : place h (count h named) + h.stride ≤ length named
  unfolding named
  fit = rw (count-renamed h i t x hb, length-renamed h i t x) room

  pub count-entered : count h (entered h i r x t) ≡ count h t + 1
  unfolding entered named
  count-entered = count-inserted h i named r (rw same_count hi) hr fit hb ∙ ap (λ (n : ℕ). n + 1) same_count

  pub word-entered : (k : ℕ) → 1 ≤ k → k < place h i → get_or (entered h i r x t) k 0 ≡ get_or t k 0
  unfolding entered named
  word-entered k one l = word-inserted h i named r (rw same_count hi) hr fit k one l ∙ word-renamed h i t x k l

  pub drop-entered : (b : ℕ) → place h (count h t) + h.stride ≤ b → drop b (entered h i r x t) ≡ drop b t
  unfolding entered named
  drop-entered b g =
      drop-inserted h i named r (rw same_count hi) hr fit b hb (rw same_count g)
      ∙ drop-renamed h i t x b (omega (arith, row-le i (count h t) h.stride hi))

  pub part-entered : (b n : ℕ) → place h (count h t) + h.stride ≤ b → part b n (entered h i r x t) ≡ part b n t
  unfolding part
  part-entered b n g = ap (take n) (drop-entered b g)
