-- What a byte and a word's end do to what is kept, case by case, in the form in which the code does it.
use Prim.Native.Nat.{ℕ, suc, ◌+◌, ◌*◌, ◌-◌, ◌^◌, ◌≤◌, ◌<◌}
use mathlib.Core.Bool.{Bool, true, false, cond, ◌&&◌, and-false}
use mathlib.Core.Path.{◌≡◌, refl, sym, ap, ◌∙◌}
use mathlib.Core.List.{List}
use native.Mathlib.Omega.{arith}
use Rattle.std.proofs.Common.{Option, Some, None, SomeIff, is_some, unwrap_or}
use native.Mathlib.Numerals.{add-one}
use lib.Dec.{leb, ltb, eqb}
use lib.ListN.{length, set}
use borrow.Author.Tests.{lt-ltb, le-ltb, leb-true, le-leb, lt-leb, eq-eqb, ne_eqb}
use Rattle.words.proofs.All.{and_both}
use Rattle.lines.specs.declared.Reading.{Reading}
use Rattle.lines.specs.Lines.{is_blank, is_digit, top_number}
use Rattle.lines.specs.Reading.{Read, stays_number, word_read, spells, longer, letter, resting, another, counted, rested, step}
use Rattle.lines.specs.Promise.{read}

pub digit-least : (b : ℕ) → is_digit b ≡ true → 48 ≤ b
unfolding is_digit
digit-least b h = leb-true 48 b (and_both (leb 48 b) (leb b 57) h).0

-- whether a word stays a number
module _ (number : Bool) (value b : ℕ) where
  pub stays-other : number ≡ false → stays_number number value b ≡ false
  unfolding stays_number
  stays-other h = rw h

  pub stays-letter : is_digit b ≡ false → stays_number number value b ≡ false
  unfolding stays_number
  stays-letter h = rw (h, and-false number)

  pub stays-over : top_number < value * 10 + (b - 48) → stays_number number value b ≡ false
  unfolding stays_number
  stays-over h = rw (lt-leb _ _ h, and-false (is_digit b), and-false number)

  pub stays-number : number ≡ true → is_digit b ≡ true → value * 10 + (b - 48) ≤ top_number → stays_number number value b ≡ true
  unfolding stays_number
  stays-number n d h = rw (n, d, le-leb _ _ h)

-- the value of a word that is a number so far with a digit behind it, where it fits
pub value-added : (number : Bool) (value b m d : ℕ) (o : Option ℕ) → number ≡ true → is_digit b ≡ true → m ≡ value * 10 → d ≡ b - 48 → SomeIff o (m + d < 2 ^ 32) (m + d)
    → o ≡ cond (stays_number number value b) (Some (value * 10 + (b - 48))) None
value-added number value b m d None n h em ed none =
    let over : top_number < value * 10 + (b - 48) = omega arith in
    rw (stays-over number value b over) refl
value-added number value b m d (Some x) n h em ed some =
    let room : value * 10 + (b - 48) ≤ top_number = omega (arith, some.0) in
    let is : x ≡ value * 10 + (b - 48) = omega (arith, some.1) in
    rw (stays-number number value b n h room, is) refl

-- the word goes on with b: whether it has a value then, and which
module _ (r : Reading) (b : ℕ) where
  pub word-with : (o : Option ℕ) (n : Bool) (v : ℕ) → o ≡ cond (stays_number r.number r.value b) (Some (r.value * 10 + (b - 48))) None → n ≡ is_some o → v ≡ unwrap_or o r.value
      → record { begun = true; inside = true; number = n; value = v; others = r.others; numbers = r.numbers; spelled = r.spelled } ≡ word_read r b
  unfolding word_read
  word-with o n v e en ev =
      λ j.
      record {
        begun = true;
        inside = true;
        number = (en ∙ ap (λ (x : Option ℕ). is_some x) e ∙ known (stays_number r.number r.value b) (r.value * 10 + (b - 48))) j;
        value = (ev ∙ ap (λ (x : Option ℕ). unwrap_or x r.value) e ∙ taken (stays_number r.number r.value b) (r.value * 10 + (b - 48)) r.value) j;
        others = r.others;
        numbers = r.numbers;
        spelled = r.spelled;
      }
    where
      known : (t : Bool) (x : ℕ) → is_some (cond t (Some x) None) ≡ t
      known true x = refl
      known false x = refl

      taken : (t : Bool) (x y : ℕ) → unwrap_or (cond t (Some x) None) y ≡ cond t x y
      taken true x y = refl
      taken false x y = refl

-- whether a byte of the name is kept
module _ (r : Reading) (name : List ℕ) where
  pub spells-others : (r.others ≡ 0 → ⊥) → spells r name ≡ false
  unfolding spells
  spells-others h = rw (ne_eqb _ _ h)

  pub spells-numbers : (r.numbers ≡ 0 → ⊥) → spells r name ≡ false
  unfolding spells
  spells-numbers h = rw (ne_eqb _ _ h, and-false (eqb r.others 0))

  pub spells-full : length name ≤ r.spelled → spells r name ≡ false
  unfolding spells
  spells-full h = rw (le-ltb _ _ h, and-false (eqb r.numbers 0), and-false (eqb r.others 0))

  pub spells-room : r.others ≡ 0 → r.numbers ≡ 0 → r.spelled < length name → spells r name ≡ true
  unfolding spells
  spells-room o n h = rw (eq-eqb _ _ o, eq-eqb _ _ n, lt-ltb _ _ h)

-- a byte of a word, of which n is what the word then is
module _ (r n : Reading) (b : ℕ) (name numbers : List ℕ) (e : n ≡ word_read r b) where
  pub letter-full : spells r name ≡ false → read n name numbers ≡ letter (read r name numbers) b
  unfolding letter
  letter-full h =
      λ j.
      cond
      (sym h j)
      (record { reading = longer (word_read r b); name = set name r.spelled b; numbers = numbers })
      (record { reading = e j; name = name; numbers = numbers })

  pub letter-room : spells r name ≡ true → read (record { begun = n.begun; inside = n.inside; number = n.number; value = n.value; others = n.others; numbers = n.numbers; spelled = r.spelled + 1 }) (set name r.spelled b) numbers ≡ letter (read r name numbers) b
  unfolding letter longer word_read
  letter-room h =
      λ j.
      cond
      (sym h j)
      (record {
        reading = record {
          begun = (e j).begun;
          inside = (e j).inside;
          number = (e j).number;
          value = (e j).value;
          others = (e j).others;
          numbers = (e j).numbers;
          spelled = add-one r.spelled j;
        };
        name = set name r.spelled b;
        numbers = numbers;
      })
      (record { reading = word_read r b; name = name; numbers = numbers })

-- one word more that is no number
pub another-few : (spelled others numbers : ℕ) → others < 2 → resting spelled (others + 1) numbers ≡ resting spelled (another others) numbers
unfolding another
another-few spelled others numbers h = rw (lt-ltb _ _ h, add-one others)

pub another-many : (spelled others numbers : ℕ) → 2 ≤ others → resting spelled others numbers ≡ resting spelled (another others) numbers
unfolding another
another-many spelled others numbers h = rw (le-ltb _ _ h)

-- a word counts, of which n is what the line then is
module _ (r n : Reading) (name numbers : List ℕ) where
  counted-no : (r.number && ltb r.numbers (length numbers)) ≡ false → n ≡ resting r.spelled (another r.others) r.numbers → read n name numbers ≡ counted (read r name numbers)
  unfolding counted
  counted-no h e =
      λ j.
      cond
      (sym h j)
      (record {
        reading = resting r.spelled r.others (suc r.numbers);
        name = name;
        numbers = set numbers r.numbers r.value;
      })
      (record { reading = e j; name = name; numbers = numbers })

  pub counted-other : r.number ≡ false → n ≡ resting r.spelled (another r.others) r.numbers → read n name numbers ≡ counted (read r name numbers)
  counted-other h e = counted-no (ap (λ (t : Bool). t && ltb r.numbers (length numbers)) h) e

  pub counted-full : length numbers ≤ r.numbers → n ≡ resting r.spelled (another r.others) r.numbers → read n name numbers ≡ counted (read r name numbers)
  counted-full h e = counted-no (rw (le-ltb _ _ h, and-false r.number)) e

  pub counted-number : r.number ≡ true → r.numbers < length numbers → n ≡ resting r.spelled r.others (r.numbers + 1) → read n name (set numbers r.numbers r.value) ≡ counted (read r name numbers)
  unfolding counted
  counted-number t h e =
      let f : (r.number && ltb r.numbers (length numbers)) ≡ true = ap (λ (t : Bool). t && ltb r.numbers (length numbers)) t ∙ lt-ltb r.numbers (length numbers) h in
      let g : n ≡ resting r.spelled r.others (suc r.numbers) = e ∙ ap (resting r.spelled r.others) (add-one r.numbers) in
      λ j.
      cond
      (sym f j)
      (record { reading = g j; name = name; numbers = set numbers r.numbers r.value })
      (record { reading = resting r.spelled (another r.others) r.numbers; name = name; numbers = numbers })

-- a blank, or the line's end
module _ (r n : Reading) (name numbers : List ℕ) where
  pub rested-word : (numbers' : List ℕ) → r.inside ≡ true → read n name numbers' ≡ counted (read r name numbers) → read n name numbers' ≡ rested (read r name numbers)
  unfolding rested
  rested-word numbers' h e =
      λ j.
      cond
      (sym h j)
      (e j)
      (record { reading = resting r.spelled r.others r.numbers; name = name; numbers = numbers })

  pub rested-blank : r.inside ≡ false → n ≡ resting r.spelled r.others r.numbers → read n name numbers ≡ rested (read r name numbers)
  unfolding rested
  rested-blank h e = λ j. cond (sym h j) (counted (read r name numbers)) (record { reading = e j; name = name; numbers = numbers })

-- a byte of the line
module _ (s n : Read) (b : ℕ) where
  pub step-blank : is_blank b ≡ true → n ≡ rested s → n ≡ step s b
  unfolding step
  step-blank h e = λ j. cond (sym h j) (e j) (letter s b)

  pub step-letter : is_blank b ≡ false → n ≡ letter s b → n ≡ step s b
  unfolding step
  step-letter h e = λ j. cond (sym h j) (rested s) (e j)
