-- The bytes kept of a line's first word: as many as there is room for; later words change nothing.
use Prim.Native.Nat.{ℕ, ◌+◌, ◌≤◌, ◌<◌}
use native.Mathlib.Omega.{arith}
use mathlib.Core.Path.{◌≡◌, refl, sym, ap, ◌∙◌}
use mathlib.Core.Bool.{Bool, true, false, ◌&&◌}
use mathlib.Core.List.{List, [], ◌∷◌, ◌++◌, append-nil}
use lib.Dec.{ltb, eqb}
use lib.ListN.{length, take}
use lib.Seq.{take_at, take_all, take-suc-set, append_snoc}
use borrow.Author.Tests.{ltb-true, ltb-false, eqb-true, ne_eqb}
use Rattle.words.specs.Words.{part}
use Rattle.words.proofs.Parts.{length_part, part_none}
use Rattle.lines.specs.declared.Reading.{Reading}
use Rattle.lines.specs.Reading.{Read, spells, letter, resting, rested, spelled_name}
use Rattle.lines.proofs.Letters.{letter_with, letter-is, rested-is, letters}
use Rattle.lines.proofs.Kept.{letter-keeps}
use Rattle.lines.proofs.Fold.{word, words_read, start, start-quiet}
use Rattle.lines.proofs.Words.{placed, word-others, word_count}
use Rattle.lines.proofs.Tally.{words-grow, another-more}

-- how many words there were, as far as they are counted
abbrev pub counted : Read → ℕ
counted s = s.reading.others + s.reading.numbers

spells-none : (r : Reading) (name : List ℕ) → 0 < r.others + r.numbers → spells r name ≡ false
unfolding spells
spells-none r name h = go (eqb r.others 0) refl
  where
    go : (t : Bool) → eqb r.others 0 ≡ t → (t && (eqb r.numbers 0 && ltb r.spelled (length name))) ≡ false
    go true e =
        let z = eqb-true r.others 0 e in
        ap (λ (x : Bool). x && ltb r.spelled (length name)) (ne_eqb r.numbers 0 (λ k. omega arith))
    go false e = refl

rested-spelled : (s : Read) → spelled_name (rested s) ≡ spelled_name s
unfolding spelled_name resting
rested-spelled s = ap (λ (z : Read). part 0 z.reading.spelled z.name) (rested-is s)

-- behind the first word
later-letters : (s : Read) (w : List ℕ) → 0 < counted s → spelled_name (letters s w) ≡ spelled_name s
unfolding spelled_name
later-letters s [] h = refl
later-letters s (b ∷ w) h =
    let e : letter s b ≡ letter_with false s b = letter-is s b ∙ ap (λ (t : Bool). letter_with t s b) (spells-none s.reading s.name h) in
    let k : counted (letter s b) ≡ counted s = ap counted e in
    later-letters (letter s b) w (omega arith) ∙ ap (λ (z : Read). part 0 z.reading.spelled z.name) e

pub later-words : (s : Read) (ws : List (List ℕ)) → 0 < counted s → spelled_name (words_read s ws) ≡ spelled_name s
later-words s [] h = refl
later-words s (w ∷ ws) h =
    let g = words-grow s (w ∷ []) in
    later-words (word s w) ws (omega arith) ∙ rested-spelled (letters s w) ∙ later-letters s w h

-- a byte of the first word
spells-first : (r : Reading) (name : List ℕ) → r.others ≡ 0 → r.numbers ≡ 0 → spells r name ≡ ltb r.spelled (length name)
unfolding spells
spells-first r name o n = λ j. eqb (o j) 0 && (eqb (n j) 0 && ltb r.spelled (length name))

module _ (s : Read) (b : ℕ) (w : List ℕ) where
  -- it has room
  first-kept : letter s b ≡ letter_with true s b → s.reading.spelled < length s.name
      → take (length (letter s b).name) (spelled_name (letter s b) ++ w) ≡ take (length s.name) (spelled_name s ++ (b ∷ w))
  unfolding spelled_name part
  first-kept e h =
      let n : length (letter s b).name ≡ length s.name = (letter-keeps s b).names in
      let f : spelled_name (letter s b) ≡ spelled_name s ++ (b ∷ []) =
      ap (λ (z : Read). take z.reading.spelled z.name) e ∙ take-suc-set s.name s.reading.spelled b h in
      (λ j. take (n j) (f j ++ w)) ∙ ap (take (length s.name)) (append_snoc (spelled_name s) b w)

  -- it has none
  first-left : letter s b ≡ letter_with false s b → s.reading.spelled ≡ length s.name
      → take (length (letter s b).name) (spelled_name (letter s b) ++ w) ≡ take (length s.name) (spelled_name s ++ (b ∷ w))
  unfolding spelled_name
  first-left e h =
      let n : length (spelled_name s) ≡ length s.name = length_part 0 s.reading.spelled s.name (omega arith) ∙ h in
      (λ j. take (length (e j).name) (part 0 (e j).reading.spelled (e j).name ++ w))
      ∙ take_at (spelled_name s) w (length s.name) n
      ∙ sym (take_at (spelled_name s) (b ∷ w) (length s.name) n)

first-letters : (s : Read) (w : List ℕ) → s.reading.others ≡ 0 → s.reading.numbers ≡ 0 → s.reading.spelled ≤ length s.name
    → spelled_name (letters s w) ≡ take (length s.name) (spelled_name s ++ w)
first-letters s [] o n h =
    let e : length (spelled_name s) ≤ length s.name = unfold spelled_name in (omega (arith, length_part 0 s.reading.spelled s.name (omega arith))) in
    sym (ap (take (length s.name)) (append-nil (spelled_name s)) ∙ take_all (length s.name) (spelled_name s) e)
first-letters s (b ∷ w) o n h =
    first-letters
    (letter s b)
    w
    (ap (λ (z : Read). z.reading.others) (letter-is s b) ∙ o)
    (ap (λ (z : Read). z.reading.numbers) (letter-is s b) ∙ n)
    ((letter-keeps s b).fits h)
    ∙ go (ltb s.reading.spelled (length s.name)) refl
  where
    by : (t : Bool) → ltb s.reading.spelled (length s.name) ≡ t → letter s b ≡ letter_with t s b
    by t e = letter-is s b ∙ ap (λ (x : Bool). letter_with x s b) (spells-first s.reading s.name o n ∙ e)

    go : (t : Bool) → ltb s.reading.spelled (length s.name) ≡ t
        → take (length (letter s b).name) (spelled_name (letter s b) ++ w) ≡ take (length s.name) (spelled_name s ++ (b ∷ w))
    go true e = first-kept s b w (by true e) (ltb-true s.reading.spelled (length s.name) e)
    go false e = let k = ltb-false s.reading.spelled (length s.name) e in first-left s b w (by false e) (omega arith)

-- the first word counts, as one or the other
first_counted : (name numbers : List ℕ) (b : ℕ) (w : List ℕ) → 0 < counted (word (start name numbers) (b ∷ w))
unfolding resting
first_counted name numbers b w = go (placed (start name numbers) (b ∷ w)) refl
  where
    go : (t : Bool) → placed (start name numbers) (b ∷ w) ≡ t → 0 < counted (word (start name numbers) (b ∷ w))
    go true e = let c : (word (start name numbers) (b ∷ w)).reading.numbers ≡ 1 = word_count (start name numbers) (start-quiet name numbers) b w true e in omega arith
    go false e =
        let c : (word (start name numbers) (b ∷ w)).reading.others ≡ 1 = word-others (start name numbers) (start-quiet name numbers) b w false e ∙ another-more 0 (omega arith) in
        omega arith

pub first-spelled : (name numbers : List ℕ) (b : ℕ) (w : List ℕ) (ws : List (List ℕ))
    → spelled_name (words_read (start name numbers) ((b ∷ w) ∷ ws)) ≡ take (length name) (b ∷ w)
unfolding resting spelled_name
first-spelled name numbers b w ws =
    later-words (word (start name numbers) (b ∷ w)) ws (first_counted name numbers b w)
    ∙ rested-spelled (letters (start name numbers) (b ∷ w))
    ∙ first-letters (start name numbers) (b ∷ w) refl refl (omega arith)
    ∙ ap (λ (l : List ℕ). take (length name) (l ++ (b ∷ w))) (part_none 0 name)

pub none-spelled : (name numbers : List ℕ) → spelled_name (start name numbers) ≡ []
unfolding spelled_name resting
none-spelled name numbers = part_none 0 name
