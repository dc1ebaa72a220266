-- Demand 2 as a sentence about bytes: what the line of a SEEK prints, of what the lines before it did. Nothing is proved here.
use Rattle.std.specs.Prelude.{ℕ, cond, ◌⊎◌, ◌≡◌, List, [], ◌∷◌, ◌++◌, map, eqb}
use Rattle.numbers.specs.Numbers.{done, not_found}
use Rattle.drum.specs.declared.Description.{Description}
use Rattle.layout.specs.Tree.{contents, fresh_tree}
use Rattle.rules.specs.declared.Call.TheVariants.{Seek}
use Rattle.rules.specs.Run.{begun}
use Rattle.demands.specs.History.{events, standing, with_key}
use Rattle.texts.specs.Texts.{decimal}
use Rattle.printed.specs.Output.{output}
use Rattle.printed.specs.Rows.{Asked, asked, results, leaves, requests, Row, rows, row_of}
use Rattle.printed.specs.Formula.{making, SessionInput}

-- a line SEEK with these numbers
abbrev pub seek_of : List ℕ → Asked
seek_of key = record { call = Seek 0; numbers = key }

-- the record that a row prints where its number is 000000, as decimal words; else nothing
unfoldable pub printed_record : Row → List (List (List ℕ))
printed_record r = cond (eqb r.number done) (r.shown ∷ []) []

-- the row behind those of the calls before it prints the record last put in under the key, or 000001 where none stands: "exactly when it stood
-- there or was put in, and was not taken out since"; of a new file its end record stood there
pub record Finds (p : Description) (printed : List Row) (before : List Asked) (key : List ℕ) : Type 0 where
  pub row : Row
  pub behind : List Row
  pub place : printed ≡ map row_of (results (begun p) (making ++ before)) ++ (row ∷ behind)
  pub found : (row.number ≡ done) ⊎ (row.number ≡ not_found)
      → let st = leaves (begun p) making in
      printed_record row ≡ map (map decimal) (standing p key (events st (requests st before)) (with_key p key (contents (fresh_tree p))))

-- of every SEEK in a session's input
abbrev pub PrintsFound : Type 0
PrintsFound =
    (input : List ℕ) (p : Description) (ls : List (List ℕ)) → SessionInput input p ls
    → (before after : List Asked) (key : List ℕ) → asked p ls ≡ before ++ (seek_of key ∷ after)
    → Finds p (rows (output input)) before key
