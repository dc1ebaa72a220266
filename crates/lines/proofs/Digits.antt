-- Whether a word is a number, and its value: read byte by byte with an early stop above the largest number, and as Lines.antt says it.
use Prim.Native.Nat.{ℕ, ◌+◌, ◌*◌, ◌-◌, ◌≤◌}
use native.Mathlib.Omega.{arith}
use mathlib.Core.Path.{◌≡◌, refl, sym, ap, ◌∙◌}
use mathlib.Core.Bool.{Bool, true, false, ◌&&◌, and-false}
use mathlib.Core.List.{List, [], ◌∷◌}
use lib.Dec.{leb}
use borrow.Author.Tests.{leb-true, leb-false, le-leb, lt-leb}
use Rattle.words.proofs.Keys.{clash}
use Rattle.lines.specs.Lines.{is_digit, all_digits, value_from, top_number}
use Rattle.lines.specs.Reading.{Read, stays_number, letter}
use Rattle.lines.proofs.Letters.{value_with, letters, letter-is}

abbrev pub number_on : Bool → ℕ → List ℕ → Bool
number_on n v [] = n
number_on n v (b ∷ w) = number_on (stays_number n v b) (value_with (stays_number n v b) v b) w

abbrev pub value_on : Bool → ℕ → List ℕ → ℕ
value_on n v [] = v
value_on n v (b ∷ w) = value_on (stays_number n v b) (value_with (stays_number n v b) v b) w

pub letters-number : (s : Read) (w : List ℕ) → (letters s w).reading.number ≡ number_on s.reading.number s.reading.value w
letters-number s [] = refl
letters-number s (b ∷ w) =
    letters-number (letter s b) w
    ∙ ap (λ (z : Read). number_on z.reading.number z.reading.value w) (letter-is s b)

pub letters-value : (s : Read) (w : List ℕ) → (letters s w).reading.value ≡ value_on s.reading.number s.reading.value w
letters-value s [] = refl
letters-value s (b ∷ w) =
    letters-value (letter s b) w
    ∙ ap (λ (z : Read). value_on z.reading.number z.reading.value w) (letter-is s b)

-- what is no number stays none
number-none : (v : ℕ) (w : List ℕ) → number_on false v w ≡ false
unfolding stays_number
number-none v [] = refl
number-none v (b ∷ w) = number-none v w

-- more digits never make it smaller
value_grows : (v : ℕ) (w : List ℕ) → v ≤ value_from v w
unfolding value_from
value_grows v [] = omega arith
value_grows v (b ∷ w) = let h = value_grows (v * 10 + (b - 48)) w in omega arith

pub number-on : (v : ℕ) (w : List ℕ) → v ≤ top_number → number_on true v w ≡ (all_digits w && leb (value_from v w) top_number)
unfolding stays_number all_digits value_from
number-on v [] h = sym (le-leb v top_number h)
number-on v (b ∷ w) h = go (is_digit b) (leb (v * 10 + (b - 48)) top_number) refl (number-on (v * 10 + (b - 48)) w)
  where
    go : (d t : Bool)
        → leb (v * 10 + (b - 48)) top_number ≡ t
        → (v * 10 + (b - 48) ≤ top_number → number_on true (v * 10 + (b - 48)) w ≡ (all_digits w && leb (value_from (v * 10 + (b - 48)) w) top_number))
        → number_on (d && t) (value_with (d && t) v b) w ≡ ((d && all_digits w) && leb (value_from (v * 10 + (b - 48)) w) top_number)
    go false t e r = number-none v w
    go true false e r =
        let g = value_grows (v * 10 + (b - 48)) w in
        let m = leb-false (v * 10 + (b - 48)) top_number e in
        let f : leb (value_from (v * 10 + (b - 48)) w) top_number ≡ false = lt-leb (value_from (v * 10 + (b - 48)) w) top_number (omega arith) in
        number-none v w ∙ sym (ap (λ (x : Bool). all_digits w && x) f ∙ and-false (all_digits w))
    go true true e r = r (leb-true (v * 10 + (b - 48)) top_number e)

pub value_on_lem : (v : ℕ) (w : List ℕ) → v ≤ top_number → number_on true v w ≡ true → value_on true v w ≡ value_from v w
unfolding stays_number value_from
value_on_lem v [] h n = refl
value_on_lem v (b ∷ w) h n = go (is_digit b) (leb (v * 10 + (b - 48)) top_number) refl (value_on_lem (v * 10 + (b - 48)) w) n
  where
    go : (d t : Bool)
        → leb (v * 10 + (b - 48)) top_number ≡ t
        → (v * 10 + (b - 48) ≤ top_number → number_on true (v * 10 + (b - 48)) w ≡ true → value_on true (v * 10 + (b - 48)) w ≡ value_from (v * 10 + (b - 48)) w)
        → number_on (d && t) (value_with (d && t) v b) w ≡ true
        → value_on (d && t) (value_with (d && t) v b) w ≡ value_from (v * 10 + (b - 48)) w
    go false t e r k = absurd (clash (sym k ∙ number-none v w))
    go true false e r k = absurd (clash (sym k ∙ number-none v w))
    go true true e r k = r (leb-true (v * 10 + (b - 48)) top_number e) k
