-- Document 01, "One session, printed": what the program writes, of all that it reads.
use Rattle.std.specs.Prelude.{ℕ, Bool, true, false, cond, List, [], ◌∷◌, ◌++◌, ltb, Option, None, Some}
use Rattle.drum.specs.declared.Description.{Description}
use Rattle.drum.specs.Params.{good_params, file_size}
use Rattle.rules.specs.declared.Call.{Call}
use Rattle.rules.specs.State.{State, desc}
use Rattle.rules.specs.Run.{perform, line_of, begun}
use Rattle.texts.specs.Results.{result_text, refused_text, bad_line, too_large}
use Rattle.lines.specs.Lines.{Parsed, no_call, a_call, parse, words_of, lines_of, parameters, first_named}
use Rattle.printed.specs.declared.Start.{Start}
use Rattle.printed.specs.declared.Start.TheVariants.{BadLine, OutOfRange, TooLarge, Good}

-- "A file above 8,192 words gets the one line `TOO LARGE`" [O8]
abbrev pub most_words : ℕ
most_words = 8192

-- a first line of six numbers: "With parameters out of range no size is taken"; then the file's size [O7, O8]
unfoldable pub start_with : Description → Start
start_with p = cond (good_params p) (cond (ltb most_words (file_size p)) TooLarge (Good p)) OutOfRange

-- "a first line not of six numbers, prints `BAD LINE`" [O6]
unfoldable pub start_of : Option Description → Start
start_of None = BadLine
start_of (Some p) = start_with p

-- a line of calls: whether it ends the program, what it leaves, and what it prints
pub record Played : Type 0 where
  pub over : Bool
  pub after : State
  pub text : List ℕ

-- "a line that is no such call .. prints `BAD LINE`; either ends the program"; else the call is performed and its result printed [O5, O6]
unfoldable pub played : State → Parsed → Played
played st no_call = record { over = true; after = st; text = bad_line }
played st (a_call c numbers) =
    let o = perform numbers st c in record { over = false; after = o.after; text = result_text c (line_of c o) }

-- lines of calls, up to the first that ends the program [O6]
unfoldable pub call_lines : State → List (List ℕ) → List ℕ
call_lines st [] = []
call_lines st (l ∷ ls) = let o = played st (parse (desc st) l) in o.text ++ cond o.over [] (call_lines o.after ls)

-- a line with parameters out of range: whether it ends the program, and what it prints
pub record Refused : Type 0 where
  pub over : Bool
  pub text : List ℕ

-- "every line whose first word names a call but VIEW prints that name, then 020007 0" [O7]
unfoldable pub refusal : Option Call → Refused
refusal None = record { over = true; text = bad_line }
refusal (Some c) = record { over = false; text = refused_text c }

-- such lines, up to the first that ends the program
unfoldable pub refused_lines : List (List ℕ) → List ℕ
refused_lines [] = []
refused_lines (l ∷ ls) = let o = refusal (first_named (words_of l)) in o.text ++ cond o.over [] (refused_lines ls)

-- what the first line prints
unfoldable pub start_text : Start → List ℕ
start_text BadLine = bad_line
start_text TooLarge = too_large
start_text OutOfRange = []
start_text (Good p) = []

-- what the lines after it print: "either ends the program" [O6, O7, O8]
unfoldable pub following : Start → List (List ℕ) → List ℕ
following BadLine ls = []
following TooLarge ls = []
following OutOfRange ls = refused_lines ls
following (Good p) ls = call_lines (begun p) ls

-- "WPB WPR K SPACE CONTROL N, then a call a line"; no line at all is no first line of six numbers [O1, O6]
unfoldable pub output_of : List (List ℕ) → List ℕ
output_of [] = bad_line
output_of (l ∷ ls) = let s = start_of (parameters (words_of l)) in start_text s ++ following s ls

-- all that the program writes, of all that it reads [O1, O10]
unfoldable pub output : List ℕ → List ℕ
output input = output_of (lines_of input)
