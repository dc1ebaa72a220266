-- All words of a line: they are numbers for which there is room, and stand stored one after the other; or one more counts as another word.
use Prim.Native.Nat.{ℕ, suc, ◌+◌, ◌≤◌, ◌<◌}
use native.Mathlib.Omega.{arith}
use mathlib.Core.Path.{◌≡◌, refl, sym, ap, ◌∙◌, subst}
use mathlib.Core.Bool.{Bool, true, false, cond, ◌&&◌}
use mathlib.Core.List.{List, [], ◌∷◌}
use lib.Dec.{ltb}
use lib.ListN.{length, set, length-set}
use borrow.Author.Tests.{ltb-true, ltb-false, lt-ltb}
use Rattle.words.specs.Words.{put}
use Rattle.words.proofs.Keys.{clash}
use Rattle.words.proofs.Parts.{put-none, set-put, put-after}
use Rattle.lines.specs.Lines.{value_of, is_number, all_numbers, values}
use Rattle.lines.specs.Reading.{Read, resting, another, rested}
use Rattle.lines.proofs.Letters.{rest_with, stores, rested-is, letters, letters-others, letters-count}
use Rattle.lines.proofs.Fold.{word, words_read, Quiet, rested-quiet, Full}
use Rattle.lines.proofs.Words.{placed, word-others, word_count, word-stored}

another-grows : (o : ℕ) → o ≤ another o
unfolding another
another-grows o = go (ltb o 2)
  where
    go : (t : Bool) → o ≤ cond t (suc o) o
    go true = omega arith
    go false = omega arith

pub another-more : (o : ℕ) → o < 2 → another o ≡ suc o
unfolding another
another-more o h = ap (λ (t : Bool). cond t (suc o) o) (lt-ltb o 2 h)

-- neither count ever goes down
record Grown (s t : Read) : Type 0 where
  others : s.reading.others ≤ t.reading.others
  count : s.reading.numbers ≤ t.reading.numbers

rested-grows : (s : Read) → Grown s (rested s)
unfolding resting
rested-grows s = subst (Grown s) (sym (rested-is s)) (go s.reading.inside (stores s))
  where
    go : (i t : Bool) → Grown s (rest_with i t s)
    go true true = record { others = omega arith; count = omega arith }
    go true false = record { others = another-grows s.reading.others; count = omega arith }
    go false t = record { others = omega arith; count = omega arith }

pub words-grow : (s : Read) (ws : List (List ℕ)) → (s.reading.others ≤ (words_read s ws).reading.others) × (s.reading.numbers ≤ (words_read s ws).reading.numbers)
words-grow s [] = omega arith
words-grow s (w ∷ ws) =
    let h = words-grow (word s w) ws in
    let g = rested-grows (letters s w) in
    let a = g.others in
    let b = g.count in
    omega (arith, letters-others s w, letters-count s w)

pub data Tally (s : Read) (ws : List (List ℕ)) : Type 0 where
  all : all_numbers ws ≡ true
      → s.reading.numbers + length ws ≤ length s.numbers
      → (words_read s ws).reading.others ≡ s.reading.others
      → (words_read s ws).reading.numbers ≡ s.reading.numbers + length ws
      → (words_read s ws).numbers ≡ put s.numbers s.reading.numbers (values ws)
      → Tally s ws
  other : s.reading.others < (words_read s ws).reading.others
      → (all_numbers ws ≡ true → length s.numbers < s.reading.numbers + length ws)
      → Tally s ws

-- one number stored, and others behind it
put_next : (l : List ℕ) (i x : ℕ) (v : List ℕ) → i < length l → put (set l i x) (suc i) v ≡ put l i (x ∷ v)
put_next l i x v h =
    let n : suc i ≡ i + 1 = omega arith in
    (λ j. put (set-put l i x h j) (n j) v) ∙ put-after l i (x ∷ []) v (omega arith)

module _ (s : Read) (q : Quiet s) (b : ℕ) (w : List ℕ) (ws : List (List ℕ)) where
  -- the first word is stored
  tally-stored : is_number (b ∷ w) ≡ true → s.reading.numbers < length s.numbers → s.reading.others < 2
      → ((word s (b ∷ w)).reading.others < 2 → (word s (b ∷ w)).reading.numbers ≤ length (word s (b ∷ w)).numbers → Tally (word s (b ∷ w)) ws)
      → Tally s ((b ∷ w) ∷ ws)
  unfolding all_numbers values
  tally-stored d r o rec = from (rec (omega (arith, po)) (omega (arith, pc, lens)))
    where
      e : placed s (b ∷ w) ≡ true
      e = λ j. d j && lt-ltb s.reading.numbers (length s.numbers) r j

      po : (word s (b ∷ w)).reading.others ≡ s.reading.others
      po = word-others s q b w true e

      pc : (word s (b ∷ w)).reading.numbers ≡ suc s.reading.numbers
      pc = word_count s q b w true e

      pn : (word s (b ∷ w)).numbers ≡ set s.numbers s.reading.numbers (value_of (b ∷ w))
      pn = word-stored s q b w e

      lens : length (word s (b ∷ w)).numbers ≡ length s.numbers
      lens = ap (λ (l : List ℕ). length l) pn ∙ length-set s.numbers s.reading.numbers (value_of (b ∷ w))

      from : Tally (word s (b ∷ w)) ws → Tally s ((b ∷ w) ∷ ws)
      from (all a l p c n) =
          all
          (λ j. d j && a j)
          (omega (arith, pc, lens))
          (p ∙ po)
          (omega (arith, pc))
          (n ∙ (λ j. put (pn j) (pc j) (values ws)) ∙ put_next s.numbers s.reading.numbers (value_of (b ∷ w)) (values ws) r)
      from (other p h) = other (omega (arith, po)) (λ a. let k = h (sym (λ j. d j && all_numbers ws) ∙ a) in omega (arith, pc, lens))

  -- the first word is another one
  tally-other : placed s (b ∷ w) ≡ false → s.reading.others < 2 → (is_number (b ∷ w) ≡ true → length s.numbers ≤ s.reading.numbers) → Tally s ((b ∷ w) ∷ ws)
  unfolding all_numbers
  tally-other e o h =
      let po : (word s (b ∷ w)).reading.others ≡ suc s.reading.others = word-others s q b w false e ∙ another-more s.reading.others o in
      let g = (words-grow (word s (b ∷ w)) ws).0 in
      other (omega arith) (go (is_number (b ∷ w)) refl)
    where
      go : (t : Bool) → is_number (b ∷ w) ≡ t → (t && all_numbers ws) ≡ true → length s.numbers < s.reading.numbers + suc (length ws)
      go true d a = let k = h d in omega arith
      go false d a = absurd (clash (sym a))

pub tally : (s : Read) (ws : List (List ℕ)) → Quiet s → Full ws → s.reading.others < 2 → s.reading.numbers ≤ length s.numbers → Tally s ws
unfolding all_numbers values
tally s [] q f o c = all refl (omega arith) refl (omega arith) (sym (put-none s.numbers s.reading.numbers))
tally s ([] ∷ ws) q f o c = absurd f
tally s ((b ∷ w) ∷ ws) q f o c = go (is_number (b ∷ w)) (ltb s.reading.numbers (length s.numbers)) refl refl (tally (word s (b ∷ w)) ws (rested-quiet (letters s (b ∷ w))) f)
  where
    go : (d t : Bool) → is_number (b ∷ w) ≡ d → ltb s.reading.numbers (length s.numbers) ≡ t
        → ((word s (b ∷ w)).reading.others < 2 → (word s (b ∷ w)).reading.numbers ≤ length (word s (b ∷ w)).numbers → Tally (word s (b ∷ w)) ws)
        → Tally s ((b ∷ w) ∷ ws)
    go true true d t r = tally-stored s q b w ws d (ltb-true s.reading.numbers (length s.numbers) t) o r
    go true false d t r = tally-other s q b w ws (λ j. d j && t j) o (λ k. ltb-false s.reading.numbers (length s.numbers) t)
    go false t d u r = tally-other s q b w ws (ap (λ (x : Bool). x && ltb s.reading.numbers (length s.numbers)) d) o (λ k. absurd (clash (sym k ∙ d)))
