-- One word, read between words: it counts as a number and is stored, or as another word.
use Prim.Native.Nat.{ℕ, suc}
use native.Mathlib.Omega.{arith}
use mathlib.Core.Path.{◌≡◌, sym, ap, ◌∙◌}
use mathlib.Core.Bool.{Bool, true, false, cond, ◌&&◌}
use mathlib.Core.List.{List, ◌∷◌}
use lib.Dec.{ltb}
use lib.ListN.{length, set}
use Rattle.words.proofs.All.{and_both}
use Rattle.lines.specs.Lines.{value_of, is_number}
use Rattle.lines.specs.Reading.{Read, resting, another}
use Rattle.lines.proofs.Letters.{rest_with, stores, rested-is, letters, letters-others, letters-count, letters-numbers, letters-inside}
use Rattle.lines.proofs.Digits.{number_on, value_on, letters-number, letters-value, number-on, value_on_lem}
use Rattle.lines.proofs.Fold.{word, Quiet}

-- whether a word is a number for which there is room
abbrev pub placed : Read → List ℕ → Bool
placed s w = is_number w && ltb s.reading.numbers (length s.numbers)

module _ (s : Read) (q : Quiet s) (b : ℕ) (w : List ℕ) where
  number_is : number_on s.reading.number s.reading.value (b ∷ w) ≡ is_number (b ∷ w)
  unfolding is_number value_of
  number_is = (λ j. number_on (q.number j) (q.value j) (b ∷ w)) ∙ number-on 0 (b ∷ w) (omega arith)

  value-is : is_number (b ∷ w) ≡ true → (letters s (b ∷ w)).reading.value ≡ value_of (b ∷ w)
  unfolding value_of
  value-is h =
      letters-value s (b ∷ w)
      ∙ (λ j. value_on (q.number j) (q.value j) (b ∷ w))
      ∙ value_on_lem 0 (b ∷ w) (omega arith) (sym (λ j. number_on (q.number j) (q.value j) (b ∷ w)) ∙ number_is ∙ h)

  stores-is : stores (letters s (b ∷ w)) ≡ placed s (b ∷ w)
  stores-is =
      let e : (letters s (b ∷ w)).reading.number ≡ is_number (b ∷ w) = letters-number s (b ∷ w) ∙ number_is in
      λ j. e j && ltb (letters-count s (b ∷ w) j) (length (letters-numbers s (b ∷ w) j))

  word-is : (t : Bool) → placed s (b ∷ w) ≡ t → word s (b ∷ w) ≡ rest_with true t (letters s (b ∷ w))
  word-is t e =
      let f : stores (letters s (b ∷ w)) ≡ t = stores-is ∙ e in
      rested-is (letters s (b ∷ w)) ∙ (λ j. rest_with (letters-inside s b w j) (f j) (letters s (b ∷ w)))

  pub word-others : (t : Bool) → placed s (b ∷ w) ≡ t → (word s (b ∷ w)).reading.others ≡ cond t s.reading.others (another s.reading.others)
  unfolding resting
  word-others t e =
      ap (λ (z : Read). z.reading.others) (word-is t e)
      ∙ ap (λ (o : ℕ). cond t o (another o)) (letters-others s (b ∷ w))

  pub word_count : (t : Bool) → placed s (b ∷ w) ≡ t → (word s (b ∷ w)).reading.numbers ≡ cond t (suc s.reading.numbers) s.reading.numbers
  unfolding resting
  word_count t e =
      ap (λ (z : Read). z.reading.numbers) (word-is t e)
      ∙ ap (λ (n : ℕ). cond t (suc n) n) (letters-count s (b ∷ w))

  pub word-stored : placed s (b ∷ w) ≡ true → (word s (b ∷ w)).numbers ≡ set s.numbers s.reading.numbers (value_of (b ∷ w))
  word-stored e =
      let h = and_both (is_number (b ∷ w)) (ltb s.reading.numbers (length s.numbers)) e in
      ap (λ (z : Read). z.numbers) (word-is true e)
      ∙ (λ j. set (letters-numbers s (b ∷ w) j) (letters-count s (b ∷ w) j) (value-is h.0 j))

  pub word-other : placed s (b ∷ w) ≡ false → (word s (b ∷ w)).numbers ≡ s.numbers
  word-other e = ap (λ (z : Read). z.numbers) (word-is false e) ∙ letters-numbers s (b ∷ w)
