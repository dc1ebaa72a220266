-- What salvage carries, and what the fresh file then is. Nothing is proved here.
use Rattle.std.specs.Prelude.{ℕ, ◌+◌, ◌*◌, ◌≤◌, ◌≡◌, ◌⊎◌, false, cond, List, [], ◌∷◌, ◌++◌, map, length}
use Rattle.numbers.specs.Numbers.{done, accepted, not_found, none_free, no_room}
use Rattle.drum.specs.declared.Description.{Description}
use Rattle.layout.specs.Create.{end_record}
use Rattle.rules.specs.State.{Session, key_in, lent}
use Rattle.rules.specs.Requests.{opening, closing, answer}
use Rattle.demands.specs.History.{stored, with_key}
use Rattle.demands.specs.Contents.{changed, Contains}
use Rattle.demands.specs.Answers.{Inserted}
use Rattle.demands.specs.Formula.{S, s}
use Rattle.salvage.specs.Salvage.{salvage}
use Rattle.salvaged.specs.Spots.{spots_of, rows_of, inserts, started, tried_after, carried_of, Lent, EachSpot}

-- a call that is not refused: what it was lent, and its report has room
abbrev pub OfCall : (Description → List ℕ → List ℕ → List ℕ → List ℕ → Type 0) → Type 0
OfCall P = (p : Description) (copy fresh buffer report : List ℕ) → Lent p copy buffer → (salvage p copy fresh buffer report).number ≡ done
    → P p copy fresh buffer report

-- OPEN of a file answers 0, for any closed session with its parameters and any buffer, workspace and marks of the right lengths; and these are the file's
-- records [Z4]
abbrev pub OpensWith : Description → List ℕ → List (List ℕ) → Type 0
OpensWith p file rows = (session : Session) (b work marks : List ℕ) → session.desc ≡ p → session.opened ≡ false → length b ≡ p.wpb → length marks ≡ p.n
    → let again = answer (lent session file b work) (opening marks) in
    (again.number ≡ done) × Contains again.after rows

-- "Build a fresh file": it opens, and its records are the end record and those carried, each put in its place, one after the other. Nothing else stands
-- in it [Z4, Z8]
abbrev pub SalvageOpens : Type 0
SalvageOpens = OfCall λ p copy fresh buffer report.
    OpensWith p (salvage p copy fresh buffer report).fresh
    (changed p (map stored (rows_of (carried_of (started p buffer) (spots_of p copy)))) (end_record p ∷ []))

-- "a second copy (NSERT gave 1) or lacked room": where an earlier carried place has the key, NSERT gives 1; where none has, it gives 0 or 070001, and the
-- record is carried, or 070002. It gives no other number [Z5, Z9]
abbrev pub SecondCopy : Type 0
SecondCopy = EachSpot λ p st xs s ys. Inserted (with_key p (key_in p s.row) (rows_of (carried_of st xs))) (tried_after st xs s)

-- so each NSERT of the walk answers 1, 0, 070001 or 070002, and no other number [Z5]
abbrev pub OnlyNumbers : Type 0
OnlyNumbers = EachSpot λ p st xs s ys.
    let n = (tried_after st xs s).number in
    (n ≡ not_found) ⊎ ((n ≡ done) ⊎ ((n ≡ none_free) ⊎ (n ≡ no_room)))

-- "The first copy of a key is kept": of the first place with a key, either its record is carried and no other with that key; or none with that key is [Z9]
abbrev pub FirstKept : Type 0
FirstKept = EachSpot λ p st xs s ys.
    let key = key_in p s.row in
    with_key p key (rows_of xs) ≡ []
    → with_key p key (rows_of (carried_of st (xs ++ s ∷ ys))) ≡ cond (accepted (tried_after st xs s).number) (s.row ∷ []) []

-- demand 3 over this run: three for each NSERT, one for the CLOSE, four for each detail block and one for each index block split [Z7, F4]
abbrev pub SalvageCost : Type 0
SalvageCost = OfCall λ p copy fresh buffer report.
    let spots = spots_of p copy in
    let st = started p buffer in
    let calls = inserts spots ++ closing ∷ [] in
    (salvage p copy fresh buffer report).transfers ≤ 3 * length spots + 1 + 4 * S st calls + s st calls
