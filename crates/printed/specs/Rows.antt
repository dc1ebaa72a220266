-- The program's lines taken as a run of calls, and the printed bytes read back as rows. Nothing is proved here.
use Rattle.std.specs.Prelude.{ℕ, ◌+◌, ◌*◌, ◌-◌, cond, List, [], ◌∷◌, ◌++◌, map, Option, None, Some}
use Rattle.numbers.specs.Numbers.{accepted}
use Rattle.drum.specs.declared.Description.{Description}
use Rattle.rules.specs.declared.Call.{Call}
use Rattle.rules.specs.State.{State, Outcome}
use Rattle.rules.specs.Run.{Line, perform, line_of}
use Rattle.rules.specs.Requests.{Request}
use Rattle.demands.specs.Formula.{of_nsert, of_xtend, share}
use Rattle.demands.specs.Lines.{as_request}
use Rattle.calls.specs.Session.{asks}
use Rattle.texts.specs.Texts.{decimal}
use Rattle.texts.specs.Results.{spelling, result_text, bad_line}
use Rattle.lines.specs.Lines.{Parsed, no_call, a_call, parse, words_of, lines_of, value_of, named}

-- ---- the calls that the lines are

-- a call with the numbers of its own line beside
pub record Asked : Type 0 where
  pub call : Call
  pub numbers : List ℕ

-- "a line that is no such call .. ends the program"
unfoldable pub asked_first : Parsed → List Asked → List Asked
asked_first no_call cs = []
asked_first (a_call c numbers) cs = record { call = c; numbers = numbers } ∷ cs

-- the calls that the lines are, up to the first that is none [O6]
unfoldable pub asked : Description → List (List ℕ) → List Asked
asked p [] = []
asked p (l ∷ ls) = asked_first (parse p l) (asked p ls)

-- and "prints `BAD LINE`"; where all lines are calls nothing is printed behind their results
unfoldable pub end_first : Parsed → List ℕ → List ℕ
end_first no_call text = bad_line
end_first (a_call c numbers) text = text

-- what is printed behind the results of the calls [O6]
unfoldable pub end_text : Description → List (List ℕ) → List ℕ
end_text p [] = []
end_text p (l ∷ ls) = end_first (parse p l) (end_text p ls)

-- ---- their run, "each given what the last left"

-- what a call with its own numbers does [O9]
unfoldable pub does : State → Asked → Outcome
does st a = perform a.numbers st a.call

-- a result: the call, and the line of it
pub record Result : Type 0 where
  pub call : Call
  pub line : Line

-- the results of a run of calls [O5]
unfoldable pub results : State → List Asked → List Result
results st [] = []
results st (a ∷ cs) = record { call = a.call; line = line_of a.call (does st a) } ∷ results (does st a).after cs

-- the state that it leaves
unfoldable pub leaves : State → List Asked → State
leaves st [] = st
leaves st (a ∷ cs) = leaves (does st a).after cs

-- the requests that they are
unfoldable pub requests : State → List Asked → List Request
requests st [] = []
requests st (a ∷ cs) = as_request a.numbers st a.call ∷ requests (does st a).after cs

-- "prints call, number as six octal digits, transfers, and .. the workspace": a line for each
unfoldable pub result_texts : List Result → List ℕ
result_texts [] = []
result_texts (r ∷ rs) = result_text r.call r.line ++ result_texts rs

-- ---- the printed bytes, read back

-- a printed line of at least three words: a name, a number in octal digits, a count in decimal ones, and the words behind them as they stand
pub record Row : Type 0 where
  pub name : List ℕ
  pub number : ℕ
  pub count : ℕ
  pub shown : List (List ℕ)

-- the number that octal digits are
unfoldable pub octal_from : ℕ → List ℕ → ℕ
octal_from v [] = v
octal_from v (b ∷ w) = octal_from (v * 8 + (b - 48)) w

-- BAD LINE, of two words, is no row
unfoldable pub row_in : List (List ℕ) → List Row
row_in [] = []
row_in (a ∷ []) = []
row_in (a ∷ (b ∷ [])) = []
row_in (a ∷ (b ∷ (c ∷ ws))) = record { name = a; number = octal_from 0 b; count = value_of c; shown = ws } ∷ []

-- the rows of some lines [O5]
unfoldable pub rows_in : List (List ℕ) → List Row
rows_in [] = []
rows_in (l ∷ ls) = row_in (words_of l) ++ rows_in ls

-- the rows of printed bytes [O5]
unfoldable pub rows : List ℕ → List Row
rows bytes = rows_in (lines_of bytes)

-- the row of a result
unfoldable pub row_of : Result → Row
row_of r = record { name = spelling r.call; number = r.line.number; count = r.line.count; shown = map decimal r.line.shown }

-- ---- what the session formula sums, of rows

-- a number of each row, summed
unfoldable pub sum : (Row → ℕ) → List Row → ℕ
sum value [] = 0
sum value (r ∷ rs) = value r + sum value rs

-- a number of the call that a row names, taken as a request
unfoldable pub of_named : (Request → ℕ) → Option Call → ℕ
of_named value None = 0
of_named value (Some c) = value (asks [] [] c)

-- "the sum of transfers"
unfoldable pub counts : List Row → ℕ
counts = sum λ r. r.count

-- "3·(SEEK+UPDAT+NSERT) + 5·ADV + 6·DLETE + 4·XTEND + CLOSE", with 6 for XTEND's 4, "calls counted whether refused or not" [F4, E6]
unfoldable pub shares : List Row → ℕ
shares = sum λ r. of_named share (named r.name)

-- "Let M be records accepted by NSERT and XTEND"
unfoldable pub M : List Row → ℕ
M = sum λ r. let n = cond (accepted r.number) 1 0 in of_named (λ q. of_nsert n q + of_xtend n q) (named r.name)
