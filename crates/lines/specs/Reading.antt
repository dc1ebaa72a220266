-- A line read byte by byte, as the code reads it: what is kept of it is a few numbers, the first bytes of its first word, and its numbers. So a
-- line may be of any length. proofs/Lines shows that what is kept says all of the line that Lines.antt asks.
use Rattle.std.specs.Prelude.{ℕ, ◌+◌, ◌*◌, ◌-◌, suc, Bool, true, false, cond, ◌&&◌, List, [], ◌∷◌, leb, ltb, eqb, length, set, Option, None, Some}
use Rattle.words.specs.Words.{part}
use Rattle.drum.specs.declared.Description.{Description}
use Rattle.rules.specs.declared.Call.{Call}
use Rattle.lines.specs.declared.Reading.{Reading}
use Rattle.lines.specs.Lines.{is_blank, is_digit, top_number, named, carries, described, Parsed, no_call, a_call}

-- what is kept of the bytes read so far, with the words lent for the name and for the numbers
pub record Read : Type 0 where
  pub reading : Reading
  pub name : List ℕ
  pub numbers : List ℕ

-- a line of which nothing is read
unfoldable pub unread : Reading
unread = record { begun = false; inside = false; number = true; value = 0; others = 0; numbers = 0; spelled = 0 }

-- whether a word that is a number so far, of that value, is one with b behind it
unfoldable pub stays_number : Bool → ℕ → ℕ → Bool
stays_number number value b = number && (is_digit b && leb (value * 10 + (b - 48)) top_number)

-- the word goes on with b: whether it is a number still, and its value
unfoldable pub word_read : Reading → ℕ → Reading
word_read r b = record {
  begun = true;
  inside = true;
  number = stays_number r.number r.value b;
  value = cond (stays_number r.number r.value b) (r.value * 10 + (b - 48)) r.value;
  others = r.others;
  numbers = r.numbers;
  spelled = r.spelled;
}

-- whether no word of the line has ended yet, and there is room for a byte more of the name
unfoldable pub spells : Reading → List ℕ → Bool
spells r name = eqb r.others 0 && (eqb r.numbers 0 && ltb r.spelled (length name))

-- one byte more of the first word is kept
unfoldable pub longer : Reading → Reading
longer r = record {
  begun = r.begun;
  inside = r.inside;
  number = r.number;
  value = r.value;
  others = r.others;
  numbers = r.numbers;
  spelled = suc r.spelled;
}

-- a byte of a word; those of the first word are kept as far as there is room
unfoldable pub letter : Read → ℕ → Read
letter s b =
    cond
    (spells s.reading s.name)
    (record { reading = longer (word_read s.reading b); name = set s.name s.reading.spelled b; numbers = s.numbers })
    (record { reading = word_read s.reading b; name = s.name; numbers = s.numbers })

-- between words, so many of them numbers and so many not
unfoldable pub resting : ℕ → ℕ → ℕ → Reading
resting spelled others numbers = record {
  begun = true;
  inside = false;
  number = true;
  value = 0;
  others = others;
  numbers = numbers;
  spelled = spelled;
}

-- one word more that is no number: two are as good as more
unfoldable pub another : ℕ → ℕ
another others = cond (ltb others 2) (suc others) others

-- the word that was read counts as a number, its value kept, if it is one and there is room; else as another word
unfoldable pub counted : Read → Read
counted s =
    cond
    (s.reading.number && ltb s.reading.numbers (length s.numbers))
    (record {
      reading = resting s.reading.spelled s.reading.others (suc s.reading.numbers);
      name = s.name;
      numbers = set s.numbers s.reading.numbers s.reading.value;
    })
    (record {
      reading = resting s.reading.spelled (another s.reading.others) s.reading.numbers;
      name = s.name;
      numbers = s.numbers;
    })

-- a blank, or the line's end: the word, if one was being read, is over
unfoldable pub rested : Read → Read
rested s =
    cond
    s.reading.inside
    (counted s)
    (record { reading = resting s.reading.spelled s.reading.others s.reading.numbers; name = s.name; numbers = s.numbers })

-- a byte of the line
unfoldable pub step : Read → ℕ → Read
step s b = cond (is_blank b) (rested s) (letter s b)

-- all bytes of a line, or of a part of it
unfoldable pub steps : Read → List ℕ → Read
steps s [] = s
steps s (b ∷ l) = steps (step s b) l

-- a whole line
unfoldable pub read_line : Read → List ℕ → Read
read_line s l = rested (steps s l)

-- the bytes kept of the first word
unfoldable pub spelled_name : Read → List ℕ
spelled_name s = part 0 s.reading.spelled s.name

-- the call that a line of calls is, of what is kept of it: one word that is no number, which names it, and so many numbers
unfoldable pub call_in : Description → Reading → Option Call → Option Call
call_in p r None = None
call_in p r (Some c) = cond (eqb r.others 1 && eqb r.numbers (carries p c)) (Some c) None

-- the same, of the bytes kept of the first word
unfoldable pub call_of : Description → Reading → List ℕ → Option Call
call_of p r name = call_in p r (named (part 0 r.spelled name))

-- what a line of calls is, of that call and the numbers that are kept: "the key or record that kind carries" stands first in them
unfoldable pub parsed_as : Description → Option Call → List ℕ → Parsed
parsed_as p None numbers = no_call
parsed_as p (Some c) numbers = a_call c (part 0 (carries p c) numbers)

-- the parameters that a first line gives, of what is kept of it
unfoldable pub parameters_in : Reading → List ℕ → Option Description
parameters_in r numbers = cond (eqb r.others 0 && eqb r.numbers 6) (Some (described numbers)) None
