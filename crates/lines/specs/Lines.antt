-- Document 01, "One session, printed": what an input is. Its lines, their words, and the call that a line is. docs/DECISIONS.md, readings 7 to 11.
use Rattle.std.specs.Prelude.{ℕ, ◌+◌, ◌*◌, ◌-◌, Bool, true, cond, ◌&&◌, ◌||◌, List, [], ◌∷◌, leb, eqb, length, get_or, Option, None, Some}
use Rattle.words.specs.Keys.{same_key}
use Rattle.drum.specs.declared.Description.{Description}
use Rattle.rules.specs.declared.Call.{Call}
use Rattle.rules.specs.declared.Call.TheVariants.{Create, Open, Close, Seek, Adv, Nsert, Dlete, Updat, Xtend}
use Rattle.texts.specs.Results.{spelling}

-- what stands between words: space, tab, carriage return, form feed [O3]
unfoldable pub is_blank : ℕ → Bool
is_blank b = eqb b 32 || (eqb b 9 || (eqb b 13 || eqb b 12))

-- what ends a line [O2]
unfoldable pub is_line_feed : ℕ → Bool
is_line_feed b = eqb b 10

-- b in front of the first piece
unfoldable pub leading : ℕ → List (List ℕ) → List (List ℕ)
leading b [] = (b ∷ []) ∷ []
leading b (w ∷ ws) = (b ∷ w) ∷ ws

-- the pieces of l between the bytes that `ends` picks: one more than there are such bytes
unfoldable pub pieces : (ℕ → Bool) → List ℕ → List (List ℕ)
pieces ends [] = [] ∷ []
pieces ends (b ∷ l) = cond (ends b) ([] ∷ pieces ends l) (leading b (pieces ends l))

-- the pieces that are not empty
unfoldable pub filled : List (List ℕ) → List (List ℕ)
filled [] = []
filled ([] ∷ ws) = filled ws
filled ((b ∷ w) ∷ ws) = (b ∷ w) ∷ filled ws

-- "Words of a line are separated by one or more blanks", which may also stand before and after [O3]
unfoldable pub words_of : List ℕ → List (List ℕ)
words_of line = filled (pieces is_blank line)

-- "the line feed that ends the last line starts no new line; a last line without one counts" [O2]
unfoldable pub ended : List (List ℕ) → List (List ℕ)
ended [] = []
ended ([] ∷ []) = []
ended ((b ∷ l) ∷ []) = (b ∷ l) ∷ []
ended (l ∷ (m ∷ ls)) = l ∷ ended (m ∷ ls)

-- the lines of an input [O2]
unfoldable pub lines_of : List ℕ → List (List ℕ)
lines_of input = ended (pieces is_line_feed input)

-- a digit 0..9
unfoldable pub is_digit : ℕ → Bool
is_digit b = leb 48 b && leb b 57

-- a word of digits: "A number is one or more digits 0-9 .. no sign"; that a word has at least one byte is `filled`'s [O3]
unfoldable pub all_digits : List ℕ → Bool
all_digits [] = true
all_digits (b ∷ w) = is_digit b && all_digits w

-- the number whose decimal digits are those of v and then those of w
unfoldable pub value_from : ℕ → List ℕ → ℕ
value_from v [] = v
value_from v (b ∷ w) = value_from (v * 10 + (b - 48)) w

-- "decimal numbers": the number that a word of digits is [O3]
unfoldable pub value_of : List ℕ → ℕ
value_of w = value_from 0 w

-- "A number above 4294967295 makes its line a bad one" [O6]
abbrev pub top_number : ℕ
top_number = 4294967295

-- a good number: digits, and not above the greatest [O3, O6]
unfoldable pub is_number : List ℕ → Bool
is_number w = all_digits w && leb (value_of w) top_number

-- every word is a good number
unfoldable pub all_numbers : List (List ℕ) → Bool
all_numbers [] = true
all_numbers (w ∷ ws) = is_number w && all_numbers ws

-- the numbers that such words are
unfoldable pub values : List (List ℕ) → List ℕ
values [] = []
values (w ∷ ws) = value_of w ∷ values ws

-- the calls that a line may name, "nor is VIEW" one; a key or record begins at word 0 of the numbers beside [O1, O6]
unfoldable pub kinds : List Call
kinds = Create ∷ Open ∷ Close ∷ Seek 0 ∷ Adv ∷ Nsert 0 ∷ Dlete 0 ∷ Updat 0 ∷ Xtend 0 ∷ []

-- the first of some calls whose name the word is
unfoldable pub named_in : List Call → List ℕ → Option Call
named_in [] w = None
named_in (c ∷ cs) w = cond (same_key w (spelling c)) (Some c) (named_in cs w)

-- the call that a word names
unfoldable pub named : List ℕ → Option Call
named w = named_in kinds w

-- "the key or record that kind carries": so many numbers stand on its line [O4]
unfoldable pub carries : Description → Call → ℕ
carries p Create = 0
carries p Open = 0
carries p Close = 0
carries p (Seek at) = p.k
carries p Adv = 0
carries p (Nsert at) = p.wpr
carries p (Dlete at) = p.k
carries p (Updat at) = p.wpr
carries p (Xtend at) = p.wpr

-- what a line of calls is: "no such call", or a call with its numbers beside [O6]
pub data Parsed : Type 0 where
  no_call : Parsed
  a_call : Call → List ℕ → Parsed

-- a call of that kind, where the words behind its name are so many numbers
unfoldable pub with_numbers : Description → Option Call → List (List ℕ) → Parsed
with_numbers p None ws = no_call
with_numbers p (Some c) ws = cond (all_numbers ws && eqb (length ws) (carries p c)) (a_call c (values ws)) no_call

-- the first word names the call, the others are its numbers; no word at all is no call
unfoldable pub parsed_words : Description → List (List ℕ) → Parsed
parsed_words p [] = no_call
parsed_words p (w ∷ ws) = with_numbers p (named w) ws

-- "then a call a line" [O1]
unfoldable pub parse : Description → List ℕ → Parsed
parse p line = parsed_words p (words_of line)

-- with parameters out of range "every line whose first word names a call": that call [O7]
unfoldable pub first_named : List (List ℕ) → Option Call
first_named [] = None
first_named (w ∷ ws) = named w

-- "WPB WPR K SPACE CONTROL N": six numbers, which mean the first block form [O1, K1]
unfoldable pub described : List ℕ → Description
described v = record {
  wpb = get_or v 0 0;
  wpr = get_or v 1 0;
  k = get_or v 2 0;
  space = get_or v 3 0;
  control = get_or v 4 0;
  n = get_or v 5 0;
  form = 1;
}

-- "a first line not of six numbers, prints `BAD LINE`" [O6]
unfoldable pub parameters : List (List ℕ) → Option Description
parameters ws = cond (all_numbers ws && eqb (length ws) 6) (Some (described (values ws))) None
