-- Inputs and all that the program writes of them, by computation.
use Prim.Native.Nat.{ℕ}
use mathlib.Core.Path.{◌≡◌, refl}
use mathlib.Core.List.{List, [], ◌∷◌}
use Rattle.rules.proofs.Computing.{computing}
use Rattle.texts.specs.Texts.{bytes, digits, places, decimal, octal, listed}
use Rattle.texts.specs.Results.{spelling, result_text, refused_text, bad_line, too_large}
use Rattle.lines.specs.Lines.{is_blank, is_line_feed, leading, pieces, filled, words_of, ended, lines_of, is_digit, all_digits, value_from, value_of, is_number, all_numbers, values, kinds, named_in, named, carries, with_numbers, parsed_words, parse, first_named, described, parameters}
use Rattle.demands.specs.Formula.{of_nsert, of_xtend, share}
use Rattle.calls.specs.Session.{asks}
use Rattle.printed.specs.Rows.{asked_first, asked, octal_from, row_in, rows_in, rows, sum, of_named, counts, shares, M}
use Rattle.printed.specs.Formula.{SessionInput}
use Rattle.printed.specs.Output.{start_with, start_of, played, call_lines, refusal, refused_lines, start_text, following, output_of, output}

-- one name that opens every definition that `output` is made of
unfoldable printing : ℕ
unfolding computing bytes digits places decimal octal listed spelling result_text refused_text bad_line too_large is_blank is_line_feed leading pieces filled words_of ended lines_of is_digit all_digits value_from value_of is_number all_numbers values kinds named_in named carries with_numbers parsed_words parse first_named described parameters start_with start_of played call_lines refusal refused_lines start_text following output_of output
printing = 0

-- no first line at all
pub no_line : output [] ≡ bytes "BAD LINE\n"
unfolding printing
no_line = refl

-- parameters out of range: a name alone decides, whatever stands behind it; VIEW names no call
pub out_of_range : output (bytes "8 4 1 0 2 4\nSEEK x 99999999999\n CREATE\t7\r\nVIEW 1\nOPEN\n") ≡ bytes "SEEK 020007 0\nCREATE 020007 0\nBAD LINE\n"
unfolding printing
out_of_range = refl

-- a file above 8,192 words, and one of 8,192
pub too_large_lem : output (bytes "4096 3 1 0 2 2\nCREATE\n") ≡ bytes "TOO LARGE\n"
unfolding printing
too_large_lem = refl

pub most-words : output (bytes "8 3 1 0 2 1023\nCLOSE\n") ≡ bytes "CLOSE 020005 0\n"
unfolding printing
most-words = refl

-- the line feed at the end of the last line starts no other, and a last line without one counts
pub last_line : (output (bytes "8 3 1 0 2 4\nCREATE") ≡ bytes "CREATE 000000 0\n") × (output (bytes "8 3 1 0 2 4\nCREATE\n") ≡ bytes "CREATE 000000 0\n")
unfolding printing
last_line = (refl, refl)

-- a blank line, VIEW, a number above the greatest, two words for a record of three, five parameters: each ends the program
pub bad-lines : (output (bytes "8 3 1 0 2 4\n\nCREATE\n") ≡ bytes "BAD LINE\n")
    × (output (bytes "8 3 1 0 2 4\nCREATE\nVIEW 1\nOPEN\n") ≡ bytes "CREATE 000000 0\nBAD LINE\n")
    × (output (bytes "8 3 1 0 2 4\nOPEN\nSEEK 4294967295\nSEEK 4294967296\nOPEN\n") ≡ bytes "OPEN 070003 0\nSEEK 020005 0\nBAD LINE\n")
    × (output (bytes "8 3 1 0 2 4\nNSERT 10 1\n") ≡ bytes "BAD LINE\n")
    × (output (bytes "8 3 1 0 2\nCREATE\n") ≡ bytes "BAD LINE\n")
unfolding printing
bad-lines = (refl, refl, refl, refl, refl)

-- "One session, printed": the input and the fifteen lines
abbrev input : List ℕ
input = bytes "8 3 1 0 2 4\nCREATE\nOPEN\nNSERT 10 1 2\nNSERT 20 3 4\nNSERT 5 7 7\nNSERT 15 6 6\nNSERT 12 0 0\nDLETE 5\nDLETE 10\nXTEND 30 8 9\nXTEND 25 0 0\nSEEK 20\nADV\nADV\nCLOSE\n"

abbrev fifteen : List ℕ
fifteen =
    bytes "CREATE 000000 0\nOPEN 000000 0\nNSERT 000000 2\nNSERT 000000 7\nNSERT 070001 6\nNSERT 070001 2\nNSERT 070002 3\nDLETE 000000 2\nDLETE 000000 3\nXTEND 000000 3\nXTEND 000005 0\nSEEK 000000 3 20 3 4\nADV 000000 3 30 8 9\nADV 030002 0 262143 0 0\nCLOSE 000000 0\n"

pub fifteen-lines : output input ≡ fifteen
unfolding printing
fifteen-lines = refl

-- that input is one of those of which Formula.antt speaks; its 34 transfers stand against 53 for the calls, and 5 records were accepted
pub a-session : SessionInput input (record { wpb = 8; wpr = 3; k = 1; space = 0; control = 2; n = 4; form = 1 })
    (bytes "NSERT 10 1 2" ∷ bytes "NSERT 20 3 4" ∷ bytes "NSERT 5 7 7" ∷ bytes "NSERT 15 6 6" ∷ bytes "NSERT 12 0 0"
    ∷ bytes "DLETE 5" ∷ bytes "DLETE 10" ∷ bytes "XTEND 30 8 9" ∷ bytes "XTEND 25 0 0"
    ∷ bytes "SEEK 20" ∷ bytes "ADV" ∷ bytes "ADV" ∷ bytes "CLOSE" ∷ [])
unfolding printing asked asked_first
a-session = record {
  creating = bytes "CREATE";
  opening = bytes "OPEN";
  given = record { first = bytes "8 3 1 0 2 4"; lines = refl; good = refl };
  creates = refl;
  opens = refl;
  others = tt;
}

pub its-sums : (counts (rows fifteen) ≡ 34) × (shares (rows fifteen) ≡ 53) × (M (rows fifteen) ≡ 5)
unfolding printing octal_from row_in rows_in rows sum of_named counts shares M asks share of_nsert of_xtend
its-sums = (refl, refl, refl)
