-- A line read byte by byte is its words read one after the other.
use Prim.Native.Nat.{ℕ, ◌<◌}
use native.Mathlib.Nat.{not-suc-le-zero}
use native.Mathlib.Omega.{arith}
use mathlib.Core.Path.{◌≡◌, refl, sym, ap, ◌∙◌, subst}
use mathlib.Core.Bool.{Bool, true, false, cond}
use mathlib.Core.List.{List, [], ◌∷◌}
use lib.ListN.{length}
use Rattle.lines.specs.Lines.{is_blank, leading, pieces, filled, words_of}
use Rattle.lines.specs.Reading.{Read, unread, word_read, spells, longer, letter, resting, rested, step, steps, read_line}
use Rattle.lines.specs.Promise.{read}
use Rattle.lines.proofs.Letters.{rest_with, stores, rested-is, letters}

-- a word, and the rest behind it
abbrev pub word : Read → List ℕ → Read
word s w = rested (letters s w)

abbrev pub words_read : Read → List (List ℕ) → Read
words_read s [] = s
words_read s (w ∷ ws) = words_read (word s w) ws

-- there is always a piece
pub pieces-some : (ends : ℕ → Bool) (l : List ℕ) → 0 < length (pieces ends l)
unfolding pieces leading
pieces-some ends [] = omega arith
pieces-some ends (b ∷ l) = go (ends b) (pieces ends l)
  where
    go : (t : Bool) (ps : List (List ℕ)) → 0 < length (cond t ([] ∷ ps) (leading b ps))
    go true ps = omega arith
    go false [] = omega arith
    go false (p ∷ ps) = omega arith

led : (s : Read) (b : ℕ) (ps : List (List ℕ)) → 0 < length ps → words_read (letter s b) ps ≡ words_read s (leading b ps)
unfolding leading
led s b [] h = absurd (not-suc-le-zero h)
led s b (p ∷ ps) h = refl

read-pieces : (s : Read) (l : List ℕ) → read_line s l ≡ words_read s (pieces is_blank l)
unfolding read_line steps step pieces
read-pieces s [] = refl
read-pieces s (b ∷ l) = go (is_blank b) (λ x. read-pieces x l)
  where
    go : (t : Bool)
        → ((x : Read) → read_line x l ≡ words_read x (pieces is_blank l))
        → read_line (cond t (rested s) (letter s b)) l ≡ words_read s (cond t ([] ∷ pieces is_blank l) (leading b (pieces is_blank l)))
    go true r = r (rested s)
    go false r = r (letter s b) ∙ led s b (pieces is_blank l) (pieces-some is_blank l)

-- between words, something read
pub record Quiet (s : Read) : Type 0 where
  pub begun : s.reading.begun ≡ true
  pub inside : s.reading.inside ≡ false
  pub number : s.reading.number ≡ true
  pub value : s.reading.value ≡ 0

pub rested-quiet : (s : Read) → Quiet (rested s)
unfolding resting
rested-quiet s = subst Quiet (sym (rested-is s)) (record { begun = refl; inside = refl; number = refl; value = refl })

-- one more blank changes nothing
rested-self : (s : Read) → Quiet s → rested s ≡ s
unfolding resting
rested-self s q =
    rested-is s
    ∙ ap (λ (i : Bool). rest_with i (stores s) s) q.inside
    ∙ sym (λ j. record {
      reading = record {
        begun = q.begun j;
        inside = q.inside j;
        number = q.number j;
        value = q.value j;
        others = s.reading.others;
        numbers = s.reading.numbers;
        spelled = s.reading.spelled;
      };
      name = s.name;
      numbers = s.numbers;
    })

read-filled : (s : Read) (ps : List (List ℕ)) → Quiet s → words_read s ps ≡ words_read s (filled ps)
unfolding filled
read-filled s [] q = refl
read-filled s ([] ∷ ps) q = ap (λ (x : Read). words_read x ps) (rested-self s q) ∙ read-filled s ps q
read-filled s ((b ∷ w) ∷ ps) q = read-filled (word s (b ∷ w)) ps (rested-quiet (letters s (b ∷ w)))

-- before the first word
abbrev pub start : List ℕ → List ℕ → Read
start name numbers = read (resting 0 0 0) name numbers

read_first : (name numbers l : List ℕ) → read_line (read unread name numbers) l ≡ read_line (start name numbers) l
unfolding read_line steps step letter spells longer word_read rested unread resting
read_first name numbers [] = refl
read_first name numbers (b ∷ l) = refl

pub start-quiet : (name numbers : List ℕ) → Quiet (start name numbers)
unfolding resting
start-quiet name numbers = record { begun = refl; inside = refl; number = refl; value = refl }

pub line-words : (name numbers l : List ℕ) → read_line (read unread name numbers) l ≡ words_read (start name numbers) (words_of l)
unfolding words_of
line-words name numbers l =
    read_first name numbers l
    ∙ read-pieces (start name numbers) l
    ∙ read-filled (start name numbers) (pieces is_blank l) (start-quiet name numbers)

-- no word is empty
abbrev pub Full : List (List ℕ) → Type 0
Full [] = Unit {0}
Full ([] ∷ ws) = ⊥
Full ((b ∷ w) ∷ ws) = Full ws

filled-full : (ps : List (List ℕ)) → Full (filled ps)
unfolding filled
filled-full [] = tt
filled-full ([] ∷ ps) = filled-full ps
filled-full ((b ∷ w) ∷ ps) = filled-full ps

pub words-full : (l : List ℕ) → Full (words_of l)
unfolding words_of
words-full l = filled-full (pieces is_blank l)
