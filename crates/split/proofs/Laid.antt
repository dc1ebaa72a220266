-- Rows laid over a text from the top down: one more, and all of them.
use mathlib.Core.Path.{◌≡◌, sym, ap, ◌∙◌}
use mathlib.Core.List.{List, [], ◌∷◌, ◌++◌, append-nil}
use Prim.Native.Nat.{ℕ, suc, ◌+◌, ◌-◌, ◌*◌, ◌≤◌}
use native.Mathlib.Nat.{not-suc-le-zero}
use native.Mathlib.Omega.{arith}
use lib.ListN.{length, take, drop, set, length-replicate, length-drop, take-append-drop, drop_of_length-le}
use lib.Seq.{length-take-le, drop-drop}
use Rattle.words.specs.Words.{part, put, zeros}
use Rattle.words.proofs.Parts.{length_part, length-put, put-none, put-before, part-put, part-put-before, part-add, drop-zeros}
use Rattle.table.specs.Tables.{laid}
use Rattle.table.proofs.Places.{row_next}

-- t with the words of the rows from word y of them on laid over it, behind its count
unfoldable pub laying : List ℕ → ℕ → List ℕ → List ℕ
laying t y rows = put t (1 + y) (drop y rows)

module _ (t rows : List ℕ) (y : ℕ) where
  pub laying-none : length rows ≤ y → laying t y rows ≡ t
  unfolding laying
  laying-none h = rw (drop_of_length-le rows {i = y} h) (put-none t (1 + y))

  module _ (h : y ≤ length rows) (k : 1 + length rows ≤ length t) where
    top-length : length (drop y rows) ≡ length rows - y
    top-length = length-drop y rows

    pub length-laying : length (laying t y rows) ≡ length t
    unfolding laying
    length-laying = length-put t (1 + y) (drop y rows) (omega (arith, top-length))

    -- the words below are as they were
    pub laying-below : (a n : ℕ) → a + n ≤ 1 + y → part a n (laying t y rows) ≡ part a n t
    unfolding laying
    laying-below a n l = part-put-before t (1 + y) (drop y rows) a n l (omega (arith, top-length))

    -- all rows, where those below stand already
    pub laying-all : take y rows ≡ part 1 y t → part 1 (length rows) (laying t y rows) ≡ rows
    unfolding laying
    laying-all e =
        let u = laying t y rows in
        let s : length rows ≡ y + (length rows - y) = omega arith in
        let d : part (1 + y) (length rows - y) u ≡ drop y rows =
        ap (λ (n : ℕ). part (1 + y) n u) (sym top-length) ∙ part-put t (1 + y) (drop y rows) (omega (arith, top-length)) in
        ap (λ (n : ℕ). part 1 n u) s ∙ part-add 1 y (length rows - y) u
        ∙ ap (λ (x : List ℕ). x ++ part (1 + y) (length rows - y) u) (laying-below 1 y (omega arith) ∙ sym e)
        ∙ ap (λ (x : List ℕ). take y rows ++ x) d ∙ take-append-drop y rows

top-row : (rows : List ℕ) (y s : ℕ) → part y s rows ++ drop (y + s) rows ≡ drop y rows
unfolding part
top-row rows y s = ap (λ (x : List ℕ). take s (drop y rows) ++ x) (sym (drop-drop s y rows)) ∙ take-append-drop s (drop y rows)

-- one row of s words more: row k, those from row j on being there
pub laying-row : (t rows r : List ℕ) (b s j k : ℕ) → b ≡ 1 → j ≡ k + 1 → r ≡ part (k * s) s rows → j * s ≤ length rows → 1 + length rows ≤ length t
    → put (laying t (j * s) rows) (b + k * s) r ≡ laying t (k * s) rows
unfolding laying
laying-row t rows r b s j k eb ej er h m =
    let y : ℕ = k * s in
    let e : j * s ≡ y + s = ap (λ (z : ℕ). z * s) ej ∙ row_next k s in
    let l : length (part y s rows) ≡ s = length_part y s rows (omega arith) in
    let a : 1 + j * s ≡ 1 + y + length (part y s rows) = omega arith in
    ap (λ (z : ℕ). put (put t (1 + j * s) (drop (j * s) rows)) (z + y) r) eb
    ∙ ap (put (put t (1 + j * s) (drop (j * s) rows)) (1 + y)) er
    ∙ ap (λ (z : ℕ). put (put t z (drop (j * s) rows)) (1 + y) (part y s rows)) a
    ∙ put-before t (1 + y) (part y s rows) (drop (j * s) rows) (omega arith)
    ∙ ap (put t (1 + y)) (ap (λ (z : ℕ). part y s rows ++ drop z rows) e ∙ top-row rows y s)

-- over a count and zeros
pub laying-laid : (w c : ℕ) (rows : List ℕ) → 1 + length rows ≤ w → laying (laid w c []) 0 rows ≡ laid w c rows
unfolding laying laid put
laying-laid w c rows h =
    let e : w - 1 - 0 ≡ w - 1 = omega arith in
    let a : 1 + 0 + length rows ≡ suc (length rows) = omega arith in
    rw (e, a) (ap (λ (x : List ℕ). c ∷ (rows ++ x)) (drop-zeros (length rows) (w - 1)))

-- what is left when the words past the first q of the rows become 0, under the count c
pub keep-by : (t t₁ t₂ : List ℕ) (q m c : ℕ) → t₁ ≡ put t (1 + q) (zeros m) → t₂ ≡ set t₁ 0 c → 1 + q ≤ length t → m ≡ length t - 1 - q
    → t₂ ≡ laid (length t) c (part 1 q t)
unfolding put laid part
keep-by [] t₁ t₂ q m c e₁ e₂ k em = absurd (not-suc-le-zero {n = q} (omega arith))
keep-by (x ∷ xs) t₁ t₂ q m c e₁ e₂ k em =
    let z : List ℕ = zeros m in
    let a : 1 + q ≡ suc q = omega arith in
    let l : length z ≡ m = length-replicate m 0 in
    let b : length (take q xs) ≡ q = length-take-le q xs (omega arith) in
    let d : drop (suc q + length z) (x ∷ xs) ≡ [] = drop_of_length-le (x ∷ xs) {i = suc q + length z} (omega arith) in
    let e : length (x ∷ xs) - 1 - length (take q xs) ≡ m = omega arith in
    rw (e₂, e₁, a, d, e) (append-nil _)
