-- A byte of a word and a rest, each as one record: a test stands only at the things that it decides.
use Prim.Native.Nat.{ℕ, suc, ◌+◌, ◌*◌, ◌-◌}
use mathlib.Core.Path.{◌≡◌, refl, ap, ◌∙◌}
use mathlib.Core.Bool.{Bool, true, false, cond, ◌&&◌}
use mathlib.Core.List.{List, [], ◌∷◌}
use lib.Dec.{ltb}
use lib.ListN.{length, set}
use Rattle.lines.specs.Reading.{Read, stays_number, word_read, spells, longer, letter, resting, another, counted, rested}

-- the value behind a byte of a word that is a number so far, or not
abbrev pub value_with : Bool → ℕ → ℕ → ℕ
value_with t v b = cond t (v * 10 + (b - 48)) v

-- a byte of a word, kept or not
abbrev pub letter_with : Bool → Read → ℕ → Read
letter_with t s b = record {
  reading = record {
    begun = true;
    inside = true;
    number = stays_number s.reading.number s.reading.value b;
    value = value_with (stays_number s.reading.number s.reading.value b) s.reading.value b;
    others = s.reading.others;
    numbers = s.reading.numbers;
    spelled = cond t (suc s.reading.spelled) s.reading.spelled;
  };
  name = cond t (set s.name s.reading.spelled b) s.name;
  numbers = s.numbers;
}

pub letter-is : (s : Read) (b : ℕ) → letter s b ≡ letter_with (spells s.reading s.name) s b
unfolding letter word_read longer
letter-is s b = go (spells s.reading s.name)
  where
    go : (t : Bool)
        → cond
        t
        (record { reading = longer (word_read s.reading b); name = set s.name s.reading.spelled b; numbers = s.numbers })
        (record { reading = word_read s.reading b; name = s.name; numbers = s.numbers }) ≡ letter_with t s b
    go true = refl
    go false = refl

-- whether the word that was read is stored as a number
abbrev pub stores : Read → Bool
stores s = s.reading.number && ltb s.reading.numbers (length s.numbers)

-- a rest, behind a word or not, which is stored or not
abbrev pub rest_with : Bool → Bool → Read → Read
rest_with i t s = record {
  reading = resting
      s.reading.spelled
      (cond i (cond t s.reading.others (another s.reading.others)) s.reading.others)
      (cond i (cond t (suc s.reading.numbers) s.reading.numbers) s.reading.numbers);
  name = s.name;
  numbers = cond i (cond t (set s.numbers s.reading.numbers s.reading.value) s.numbers) s.numbers;
}

counted_is : (s : Read) → counted s ≡ rest_with true (stores s) s
unfolding counted
counted_is s = go (stores s)
  where
    go : (t : Bool)
        → cond
        t
        (record {
          reading = resting s.reading.spelled s.reading.others (suc s.reading.numbers);
          name = s.name;
          numbers = set s.numbers s.reading.numbers s.reading.value;
        })
        (record {
          reading = resting s.reading.spelled (another s.reading.others) s.reading.numbers;
          name = s.name;
          numbers = s.numbers;
        }) ≡ rest_with true t s
    go true = refl
    go false = refl

pub rested-is : (s : Read) → rested s ≡ rest_with s.reading.inside (stores s) s
unfolding rested
rested-is s = go s.reading.inside
  where
    go : (i : Bool)
        → cond
        i
        (counted s)
        (record { reading = resting s.reading.spelled s.reading.others s.reading.numbers; name = s.name; numbers = s.numbers })
        ≡ rest_with i (stores s) s
    go true = counted_is s
    go false = refl

-- the bytes of a word, none of them a blank
abbrev pub letters : Read → List ℕ → Read
letters s [] = s
letters s (b ∷ w) = letters (letter s b) w

-- what a byte of a word leaves as it is, a word does
pub letters-keep : {A : Type 0} (f : Read → A) → ((s : Read) (b : ℕ) → f (letter s b) ≡ f s) → (s : Read) (w : List ℕ) → f (letters s w) ≡ f s
letters-keep f h s [] = refl
letters-keep f h s (b ∷ w) = letters-keep f h (letter s b) w ∙ h s b

module _ (s : Read) (w : List ℕ) where
  pub letters-others : (letters s w).reading.others ≡ s.reading.others
  letters-others = letters-keep (λ z. z.reading.others) (λ z b. ap (λ (y : Read). y.reading.others) (letter-is z b)) s w

  pub letters-count : (letters s w).reading.numbers ≡ s.reading.numbers
  letters-count = letters-keep (λ z. z.reading.numbers) (λ z b. ap (λ (y : Read). y.reading.numbers) (letter-is z b)) s w

  pub letters-numbers : (letters s w).numbers ≡ s.numbers
  letters-numbers = letters-keep (λ z. z.numbers) (λ z b. ap (λ (y : Read). y.numbers) (letter-is z b)) s w

pub letters-inside : (s : Read) (b : ℕ) (w : List ℕ) → (letters s (b ∷ w)).reading.inside ≡ true
letters-inside s b [] = ap (λ (y : Read). y.reading.inside) (letter-is s b)
letters-inside s b (c ∷ w) = letters-inside (letter s b) c w
