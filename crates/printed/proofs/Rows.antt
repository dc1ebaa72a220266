-- Printed lines read back: their words are those that were printed, and the digits denote the numbers.
use Prim.Native.Nat.{ℕ, zero, suc, ◌+◌, ◌-◌, ◌*◌, ◌/◌, ◌%◌, ◌^◌, ◌≤◌, ◌<◌}
use native.Mathlib.Omega.{arith}
use mathlib.Core.Path.{◌≡◌, refl, ap, ◌∙◌}
use mathlib.Core.Bool.{Bool, true, false, cond, ◌&&◌, not}
use mathlib.Core.List.{List, [], ◌∷◌, ◌++◌, map, append-nil, append_assoc}
use lib.Dec.{leb, eqb}
use lib.ListN.{length}
use borrow.Author.Tests.{le-leb, leb-true, ne_eqb}
use Rattle.words.specs.Words.{none_is}
use Rattle.words.proofs.All.{and_both, both-and}
use Rattle.drum.specs.declared.Description.{Description}
use Rattle.rules.specs.declared.Call.{Call}
use Rattle.rules.specs.declared.Call.TheVariants.{Create, Open, Close, Seek, Adv, Nsert, Dlete, Updat, Xtend}
use Rattle.rules.specs.Run.{Line}
use Rattle.texts.specs.Texts.{bytes, digits, places, decimal, octal, listed}
use Rattle.texts.specs.Results.{spelling, result_text, bad_line}
use Rattle.texts.proofs.Digits.{length_digits}
use Rattle.texts.proofs.Lines.{length-decimal}
use Rattle.texts.proofs.Decimal.{value, decimal-denotes, octal-denotes, places-some}
use Rattle.lines.specs.Lines.{Parsed, no_call, a_call, is_blank, is_line_feed, leading, pieces, filled, words_of, ended, lines_of, value_from, value_of, parse}
use Rattle.lines.proofs.Cuts.{lines-first, lines_none}
use Rattle.printed.specs.Rows.{end_first, end_text, Result, result_texts, Row, octal_from, row_in, rows_in, rows, row_of}

-- every byte is above the space: none is a blank or ends a line
unfoldable visible : List ℕ → Bool
visible [] = true
visible (b ∷ w) = leb 33 b && visible w

visible-append : (a b : List ℕ) → visible a ≡ true → visible b ≡ true → visible (a ++ b) ≡ true
unfolding visible
visible-append [] b p q = q
visible-append (x ∷ a) b p q =
    let h = and_both (leb 33 x) (visible a) p in
    both-and (leb 33 x) (visible (a ++ b)) h.0 (visible-append a b h.1 q)

digits-visible : (b k n : ℕ) → visible (digits b k n) ≡ true
unfolding digits visible
digits-visible b zero n = refl
digits-visible b (suc k) n =
    let d : visible ((48 + n % b) ∷ []) ≡ true = both-and (leb 33 (48 + n % b)) true (le-leb 33 (48 + n % b) (omega arith)) refl in
    visible-append (digits b k (n / b)) ((48 + n % b) ∷ []) (digits-visible b k (n / b)) d

-- a word: of some bytes, all visible
abbrev Word : List ℕ → Type 0
Word w = (0 < length w) × (visible w ≡ true)

abbrev Words : List (List ℕ) → Type 0
Words [] = Unit {0}
Words (w ∷ ws) = Word w × Words ws

spelling-word : (c : Call) → Word (spelling c)
unfolding spelling bytes visible
spelling-word Create = (omega arith, refl)
spelling-word Open = (omega arith, refl)
spelling-word Close = (omega arith, refl)
spelling-word (Seek at) = (omega arith, refl)
spelling-word Adv = (omega arith, refl)
spelling-word (Nsert at) = (omega arith, refl)
spelling-word (Dlete at) = (omega arith, refl)
spelling-word (Updat at) = (omega arith, refl)
spelling-word (Xtend at) = (omega arith, refl)

octal-word : (n : ℕ) → Word (octal n)
unfolding octal
octal-word n = (omega (arith, length_digits 8 6 n), digits-visible 8 6 n)

decimal-word : (n : ℕ) → Word (decimal n)
unfolding decimal
decimal-word n = (omega (arith, length-decimal n, places-some 19 n), digits-visible 10 (places 19 n) n)

decimal-words : (xs : List ℕ) → Words (map decimal xs)
decimal-words [] = tt
decimal-words (x ∷ xs) = (decimal-word x, decimal-words xs)

-- ---- words between blanks

module _ (b : ℕ) (w : List ℕ) (h : visible (b ∷ w) ≡ true) where
  high : 33 ≤ b
  unfolding visible
  high = leb-true 33 b (and_both (leb 33 b) (visible w) h).0

  rest-visible : visible w ≡ true
  unfolding visible
  rest-visible = (and_both (leb 33 b) (visible w) h).1

  no-blank : is_blank b ≡ false
  unfolding is_blank
  no-blank =
      let g : 33 ≤ b = high in
      simp (ne_eqb b 32 (λ e. omega arith), ne_eqb b 9 (λ e. omega arith), ne_eqb b 13 (λ e. omega arith), ne_eqb b 12 (λ e. omega arith))

pieces-word : (w rest : List ℕ) → visible w ≡ true → pieces is_blank (w ++ 32 ∷ rest) ≡ w ∷ pieces is_blank rest
unfolding pieces leading is_blank
pieces-word [] rest h = refl
pieces-word (b ∷ w) rest h =
    ap (λ (t : Bool). cond t ([] ∷ pieces is_blank (w ++ 32 ∷ rest)) (leading b (pieces is_blank (w ++ 32 ∷ rest)))) (no-blank b w h)
    ∙ ap (leading b) (pieces-word w rest (rest-visible b w h))

pieces-only : (w : List ℕ) → visible w ≡ true → pieces is_blank w ≡ w ∷ []
unfolding pieces leading
pieces-only [] h = refl
pieces-only (b ∷ w) h =
    ap (λ (t : Bool). cond t ([] ∷ pieces is_blank w) (leading b (pieces is_blank w))) (no-blank b w h)
    ∙ ap (leading b) (pieces-only w (rest-visible b w h))

filled-word : (w : List ℕ) (ps : List (List ℕ)) → 0 < length w → filled (w ∷ ps) ≡ w ∷ filled ps
unfolding filled
filled-word [] ps h = absurd (omega arith)
filled-word (b ∷ w) ps h = refl

-- words, each after a space
unfoldable spaced : List (List ℕ) → List ℕ
spaced [] = []
spaced (w ∷ ws) = (32 ∷ w) ++ spaced ws

spaced-words : (w : List ℕ) (ws : List (List ℕ)) → Word w → Words ws → words_of (w ++ spaced ws) ≡ w ∷ ws
unfolding words_of spaced filled
spaced-words w [] h k = ap (λ (l : List ℕ). filled (pieces is_blank l)) (append-nil w) ∙ ap filled (pieces-only w h.1) ∙ filled-word w [] h.0
spaced-words w (x ∷ xs) h k =
    ap filled (pieces-word w (x ++ spaced xs) h.1)
    ∙ filled-word w (pieces is_blank (x ++ spaced xs)) h.0
    ∙ ap (λ (ps : List (List ℕ)). w ∷ ps) (spaced-words x xs k.0 k.1)

-- no line feed among them
none-append : (a b : List ℕ) → none_is 10 a ≡ true → none_is 10 b ≡ true → none_is 10 (a ++ b) ≡ true
unfolding none_is
none-append [] b p q = q
none-append (x ∷ a) b p q =
    let h = and_both (not (eqb x 10)) (none_is 10 a) p in
    both-and (not (eqb x 10)) (none_is 10 (a ++ b)) h.0 (none-append a b h.1 q)

none-word : (w : List ℕ) → visible w ≡ true → none_is 10 w ≡ true
unfolding none_is
none-word [] h = refl
none-word (b ∷ w) h =
    let g : 33 ≤ b = high b w h in
    both-and (not (eqb b 10)) (none_is 10 w) (ap not (ne_eqb b 10 (λ e. omega arith))) (none-word w (rest-visible b w h))

none-spaced : (ws : List (List ℕ)) → Words ws → none_is 10 (spaced ws) ≡ true
unfolding spaced none_is
none-spaced [] h = refl
none-spaced (w ∷ ws) h = none-append w (spaced ws) (none-word w h.0.1) (none-spaced ws h.1)

-- ---- a line

listed-spaced : (xs : List ℕ) → listed xs ≡ spaced (map decimal xs)
unfolding listed spaced
listed-spaced [] = refl
listed-spaced (x ∷ xs) = ap (λ (t : List ℕ). (32 ∷ decimal x) ++ t) (listed-spaced xs)

joined : (a b c rest : List ℕ) → (a ++ (b ++ (c ++ (10 ∷ [])))) ++ rest ≡ (a ++ (b ++ c)) ++ 10 ∷ rest
joined a b c rest = simp append_assoc

module _ (c : Call) (l : Line) where
  abbrev others : List (List ℕ)
  others = octal l.number ∷ map decimal (l.count ∷ l.shown)

  text-is : (rest : List ℕ) → result_text c l ++ rest ≡ (spelling c ++ spaced others) ++ 10 ∷ rest
  unfolding result_text spaced bytes
  text-is rest =
      ap (λ (t : List ℕ). (spelling c ++ ((32 ∷ octal l.number) ++ (t ++ (10 ∷ [])))) ++ rest) (listed-spaced (l.count ∷ l.shown))
      ∙ joined (spelling c) (32 ∷ octal l.number) (spaced (map decimal (l.count ∷ l.shown))) rest

  others-words : Words others
  others-words = (octal-word l.number, decimal-words (l.count ∷ l.shown))

  line-is : (rest : List ℕ) → lines_of (result_text c l ++ rest) ≡ (spelling c ++ spaced others) ∷ lines_of rest
  line-is rest =
      let none = none-append (spelling c) (spaced others) (none-word (spelling c) (spelling-word c).1) (none-spaced others others-words) in
      ap lines_of (text-is rest) ∙ lines-first (spelling c ++ spaced others) rest none

-- ---- what digits denote

value-ten : (v : ℕ) (w : List ℕ) → value_from v w ≡ value 10 v w
unfolding value_from value
value-ten v [] = refl
value-ten v (b ∷ w) = value-ten (v * 10 + (b - 48)) w

value-eight : (v : ℕ) (w : List ℕ) → octal_from v w ≡ value 8 v w
unfolding octal_from value
value-eight v [] = refl
value-eight v (b ∷ w) = value-eight (v * 8 + (b - 48)) w

-- a result whose number six octal digits hold, and whose count the decimal ones
pub record Small (r : Result) : Type 0 where
  pub number : r.line.number ≤ 262143
  pub count : r.line.count < 10 ^ 20

abbrev pub AllSmall : List Result → Type 0
AllSmall [] = Unit {0}
AllSmall (r ∷ rs) = Small r × AllSmall rs

row_is : (r : Result) → Small r → row_in (spelling r.call ∷ others r.call r.line) ≡ row_of r ∷ []
unfolding row_in row_of value_of
row_is r h =
    let n : octal_from 0 (octal r.line.number) ≡ r.line.number = value-eight 0 (octal r.line.number) ∙ octal-denotes r.line.number h.number in
    let m : value_from 0 (decimal r.line.count) ≡ r.line.count = value-ten 0 (decimal r.line.count) ∙ decimal-denotes r.line.count h.count in
    λ j. record { name = spelling r.call; number = n j; count = m j; shown = map decimal r.line.shown } ∷ []

pub rows-read : (rs : List Result) (end : List ℕ) → AllSmall rs → rows (result_texts rs ++ end) ≡ map row_of rs ++ rows end
unfolding rows rows_in result_texts
rows-read [] end h = refl
rows-read (r ∷ rs) end h =
    let w = spaced-words (spelling r.call) (others r.call r.line) (spelling-word r.call) (others-words r.call r.line) in
    ap rows (append_assoc (result_text r.call r.line) (result_texts rs) end)
    ∙ ap rows_in (line-is r.call r.line (result_texts rs ++ end))
    ∙ ap (λ (xs : List Row). xs ++ rows (result_texts rs ++ end)) (ap row_in w ∙ row_is r h.0)
    ∙ ap (λ (xs : List Row). row_of r ∷ xs) (rows-read rs end h.1)

-- BAD LINE is no row
bad-row : rows bad_line ≡ []
unfolding rows rows_in row_in bad_line bytes lines_of ended pieces leading is_line_feed is_blank words_of filled
bad-row = refl

pub end-rows : (p : Description) (ls : List (List ℕ)) → rows (end_text p ls) ≡ []
unfolding end_text end_first
end-rows p [] = unfold rows rows_in in ap rows_in lines_none
end-rows p (l ∷ ls) = go (parse p l) (end-rows p ls)
  where
    go : (x : Parsed) → rows (end_text p ls) ≡ [] → rows (end_first x (end_text p ls)) ≡ []
    go no_call e = bad-row
    go (a_call c ws) e = e
