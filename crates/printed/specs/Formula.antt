-- Demand 3 as a sentence about bytes: of an input that gives parameters, makes the file, opens it and goes on with calls, the counts that the
-- program prints keep to the session formula. Nothing is proved here.
use Rattle.std.specs.Prelude.{ℕ, ◌+◌, ◌*◌, ◌≤◌, ◌≡◌, List, [], ◌∷◌, ◌++◌, map}
use Rattle.drum.specs.declared.Description.{Description}
use Rattle.drum.specs.Params.{FD, FI}
use Rattle.rules.specs.declared.Call.TheVariants.{Create, Open}
use Rattle.rules.specs.Run.{begun}
use Rattle.rules.specs.Requests.{left}
use Rattle.demands.specs.Formula.{h_d, h_i, S, s, X, x, all_transfers}
use Rattle.demands.specs.Lines.{NoCreate}
use Rattle.lines.specs.Lines.{parameters, parse, a_call, words_of, lines_of}
use Rattle.printed.specs.declared.Start.TheVariants.{Good}
use Rattle.printed.specs.Output.{start_of, output}
use Rattle.printed.specs.Rows.{Asked, asked, end_text, results, leaves, requests, result_texts, Row, rows, row_of, counts, shares, M}

-- an input: a first line with good parameters of a file not "above 8,192 words", and the lines ls behind it
pub record Input (input : List ℕ) (p : Description) (ls : List (List ℕ)) : Type 0 where
  pub first : List ℕ
  pub lines : lines_of input ≡ first ∷ ls
  pub good : start_of (parameters (words_of first)) ≡ Good p

-- what is printed of it: a line for each call, up to the first bad line
abbrev pub PrintsResults : Type 0
PrintsResults =
    (input : List ℕ) (p : Description) (ls : List (List ℕ)) → Input input p ls
    → output input ≡ result_texts (results (begun p) (asked p ls)) ++ end_text p ls

-- CREATE and then OPEN, by themselves on their lines
abbrev pub making : List Asked
making = record { call = Create; numbers = [] } ∷ (record { call = Open; numbers = [] } ∷ [])

-- an input that begins so, and goes on with lines ls that are calls "with no new CREATE", or bad ones
pub record SessionInput (input : List ℕ) (p : Description) (ls : List (List ℕ)) : Type 0 where
  pub creating : List ℕ
  pub opening : List ℕ
  pub given : Input input p (creating ∷ (opening ∷ ls))
  pub creates : parse p creating ≡ a_call Create []
  pub opens : parse p opening ≡ a_call Open []
  pub others : NoCreate (map (λ (a : Asked). a.call) (asked p ls))

-- the printed bytes, read back, are the results of these calls
abbrev pub PrintsRows : Type 0
PrintsRows =
    (input : List ℕ) (p : Description) (ls : List (List ℕ)) → SessionInput input p ls
    → rows (output input) ≡ map row_of (results (begun p) (making ++ asked p ls))

-- "hD·S ≤ M, FD·X ≤ M, hI·s ≤ S+X, FI·x ≤ S+X, and the sum of transfers is at most 3·(SEEK+UPDAT+NSERT) + 5·ADV + 6·DLETE + 4·XTEND + CLOSE
-- + 4·(S+X) + s + x", with 6 for XTEND's 4 [E6]: with M, the sum and the calls as the rows have them
pub record KeepsFormula (p : Description) (printed : List Row) (S s X x : ℕ) : Type 0 where
  pub splits : h_d p * S ≤ M printed
  pub starts : FD p * X ≤ M printed
  pub index-splits : h_i p * s ≤ S + X
  pub index-starts : FI p * x ≤ S + X
  pub transfers : counts printed ≤ shares printed + 4 * (S + X) + s + x

-- the printed counts add up to the transfers of the run of requests, which leaves what the calls leave; and what is printed keeps to the formula
abbrev pub PrintedFormula : Type 0
PrintedFormula =
    (input : List ℕ) (p : Description) (ls : List (List ℕ)) → SessionInput input p ls
    → let st = leaves (begun p) making in
    let qs = requests st (asked p ls) in
    let printed = rows (output input) in
    (leaves st (asked p ls) ≡ left st qs) × (counts printed ≡ all_transfers st qs) × KeepsFormula p printed (S st qs) (s st qs) (X st qs) (x st qs)
