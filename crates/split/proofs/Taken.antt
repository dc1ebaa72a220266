-- The rows of a full block with one more among them, as the code takes them from the block: those behind it stood one lower.
use mathlib.Core.Path.{◌≡◌, sym, ap, ◌∙◌}
use mathlib.Core.List.{List, ◌++◌}
use Prim.Native.Nat.{ℕ, ◌+◌, ◌-◌, ◌*◌, ◌≤◌, ◌<◌}
use native.Mathlib.Omega.{arith}
use mir.Syntax.{w64}
use mir.Val.{Fits}
use lib.ListN.{length, take, drop, length-append}
use Rattle.words.specs.Words.{part, put}
use Rattle.words.proofs.Parts.{length_part, take_part, drop-part, part-all, part-part, part-append-low, part-append-high}
use Rattle.table.specs.Tables.{replaced}
use Rattle.table.specs.Splits.{one_more}
use Rattle.table.proofs.Places.{row-le, row_lt}
use Rattle.drum.proofs.Good.{caps}
use Rattle.split.specs.declared.Cut.{Cut}
use Rattle.split.specs.Cuts.{HasRow, all_rows, more_row}

-- the words of a row, and the words of the rows before the one put in
abbrev pub wide : Cut → ℕ
wide x = x.shape.stride

abbrev pub before : Cut → ℕ
before x = x.place * wide x

module _ (x : Cut) (j : ℕ) (t row : List ℕ) where
  -- where row j stood, and where it goes
  abbrev at : ℕ
  at = x.shape.base + j * wide x

  module _ (has : HasRow x j t row) where
    row_words_lem : length (part 0 (wide x) row) ≡ wide x
    row_words_lem = let l = has.row-long in length_part 0 (wide x) row (omega arith)

    room : 1 + x.rows * wide x ≤ length t
    room = let e = has.text-is in let f = x.full.rows_fit in omega arith

    before-rows : before x ≤ x.rows * wide x
    before-rows = row-le x.place x.rows (wide x) x.full.place-most

    low-words : length (part 1 (before x) t) ≡ before x
    low-words = length_part 1 (before x) t (omega (arith, before-rows, room))

    head-words : length (part 1 (before x) t ++ part 0 (wide x) row) ≡ before x + wide x
    head-words = length-append (part 1 (before x) t) (part 0 (wide x) row) ∙ omega (arith, low-words, row_words_lem)

    all-is : all_rows x row t ≡ part 1 (before x) t ++ part 0 (wide x) row ++ part (1 + before x) (x.rows * wide x - before x) t
    unfolding one_more
    all-is =
        ap (λ (b : ℕ). take (before x) (part b (x.rows * wide x) t) ++ part 0 (wide x) row ++ drop (before x) (part b (x.rows * wide x) t))
        x.full.base-one
        ∙ rw (take_part 1 (before x) (x.rows * wide x) t before-rows, drop-part 1 (before x) (x.rows * wide x) t before-rows)

    pub all_words_lem : length (all_rows x row t) ≡ x.rows * wide x + wide x
    all_words_lem =
        let l = length_part (1 + before x) (x.rows * wide x - before x) t (omega (arith, before-rows, room)) in
        ap length all-is ∙ length-append (part 1 (before x) t ++ part 0 (wide x) row) (part (1 + before x) (x.rows * wide x - before x) t)
        ∙ omega (arith, head-words, before-rows)

    -- words before the row, the row, and words behind it
    pub words-before : (y m : ℕ) → y + m ≤ before x → part y m (all_rows x row t) ≡ part (1 + y) m t
    words-before y m k =
        ap (part y m) all-is ∙ part-append-low y m _ _ (omega (arith, head-words)) ∙ part-append-low y m _ _ (omega (arith, low-words))
        ∙ part-part 1 (before x) y m t k

    the_row : part (before x) (wide x) (all_rows x row t) ≡ part 0 (wide x) row
    the_row =
        let e : before x ≡ length (part 1 (before x) t) + 0 = omega (arith, low-words) in
        ap (part (before x) (wide x)) all-is ∙ part-append-low (before x) (wide x) _ _ (omega (arith, head-words))
        ∙ ap (λ (y : ℕ). part y (wide x) (part 1 (before x) t ++ part 0 (wide x) row)) e
        ∙ part-append-high 0 (wide x) (part 1 (before x) t) (part 0 (wide x) row) ∙ part-all (wide x) (part 0 (wide x) row) row_words_lem

    words-behind : (y m : ℕ) → before x + wide x ≤ y → y + m ≤ x.rows * wide x + wide x → part y m (all_rows x row t) ≡ part (1 + y - wide x) m t
    words-behind y m k k' =
        let a : List ℕ = part 1 (before x) t ++ part 0 (wide x) row in
        let b : List ℕ = part (1 + before x) (x.rows * wide x - before x) t in
        let z : ℕ = y - (before x + wide x) in
        let e : y ≡ length a + z = omega (arith, head-words) in
        let d : 1 + before x + z ≡ 1 + y - wide x = omega arith in
        ap (part y m) all-is ∙ ap (λ (i : ℕ). part i m (a ++ b)) e ∙ part-append-high z m a b
        ∙ part-part (1 + before x) (x.rows * wide x - before x) z m t (omega arith) ∙ ap (λ (i : ℕ). part i m t) d

    pub row-start : at ≤ length t
    row-start = let o = x.full.base-one in omega (arith, room, row-le j x.rows (wide x) has.row-most)

    pub row-end : j < x.rows → at + wide x ≤ length t
    row-end l = let o = x.full.base-one in omega (arith, room, row_lt j x.rows (wide x) l)

    pub before-end : j < x.place → at + wide x ≤ length t
    before-end l = let p = x.full.place-most in row-end (omega arith)

    pub before-fits : j < x.place → Fits w64 (at + wide x)
    before-fits l =
        let g = caps x.desc has.good in
        let q = g.facts in
        let e = has.text-is in
        omega (arith, before-end l)

    pub behind-start : x.place < j → wide x ≤ at
    behind-start l = omega (arith, row_lt 0 j (wide x) (omega arith))

    pub row-length : length (more_row x j row t) ≡ wide x
    row-length = length_part (j * wide x) (wide x) (all_rows x row t) (omega (arith, all_words_lem, row-le j x.rows (wide x) has.row-most))

    -- row j of them: the row itself, one behind it, and one before it
    pub taken-itself : x.place ≤ j → j ≤ x.place → part 0 (wide x) row ≡ more_row x j row t
    taken-itself a b =
        let e : j ≡ x.place = omega arith in
        sym (ap (λ (i : ℕ). more_row x i row t) e ∙ the_row)

    pub taken-behind : x.place < j → part (at - wide x) (wide x) t ≡ more_row x j row t
    taken-behind l =
        let k = row_lt x.place j (wide x) l in
        let m = row-le j x.rows (wide x) has.row-most in
        ap (λ (b : ℕ). part (b + j * wide x - wide x) (wide x) t) x.full.base-one ∙ sym (words-behind (j * wide x) (wide x) (omega arith) (omega arith))

    taken-before : j < x.place → part at (wide x) t ≡ more_row x j row t
    taken-before l =
        ap (λ (b : ℕ). part (b + j * wide x) (wide x) t) x.full.base-one
        ∙ sym (words-before (j * wide x) (wide x) (omega (arith, row_lt j x.place (wide x) l)))

    -- as words lent
    pub lent-itself : x.place ≤ j → j ≤ x.place → take (wide x - 0) row ≡ more_row x j row t
    unfolding part
    lent-itself a b = let z : wide x - 0 ≡ wide x = omega arith in rw z (taken-itself a b)

    pub lent-behind : x.place < j → take (at - (at - wide x)) (drop (at - wide x) t) ≡ more_row x j row t
    unfolding part
    lent-behind l = let b = behind-start l in let z : at - (at - wide x) ≡ wide x = omega arith in rw z (taken-behind l)

    pub lent-before : j < x.place → take (at + wide x - at) (drop at t) ≡ more_row x j row t
    unfolding part
    lent-before l = let z : at + wide x - at ≡ wide x = omega arith in rw z (taken-before l)

  -- as words written over row j
  module _ (u : List ℕ) where
    pub raised-itself : u ≡ replaced x.shape j (part 0 (wide x) row) t → HasRow x j t row → x.place ≤ j → j ≤ x.place
        → u ≡ replaced x.shape j (more_row x j row t) t
    raised-itself e has a b = e ∙ ap (λ (r : List ℕ). replaced x.shape j r t) (taken-itself has a b)

    pub raised-behind : u ≡ put t at (part (at - wide x) (wide x) t) → HasRow x j t row → x.place < j → u ≡ replaced x.shape j (more_row x j row t) t
    unfolding replaced
    raised-behind e has l = e ∙ ap (put t at) (taken-behind has l)
