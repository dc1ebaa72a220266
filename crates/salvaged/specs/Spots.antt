-- Salvage told by the NSERTs that it makes: one for each ordinary record of a block that is not passed over, in the order of the walk.
use Rattle.std.specs.Prelude.{ℕ, ◌≡◌, true, cond, List, [], ◌∷◌, ◌++◌, map, length}
use Rattle.numbers.specs.Numbers.{accepted}
use Rattle.words.specs.Keys.{is_ones}
use Rattle.drum.specs.declared.Description.{Description}
use Rattle.drum.specs.Params.{good_params, file_size}
use Rattle.rules.specs.State.{State, Outcome, key_in, lent}
use Rattle.rules.specs.Requests.{Request, inserting, answer, left}
use Rattle.salvage.specs.Met.{Met, over, found, met}
use Rattle.salvage.specs.Salvage.{begun}

-- "Every ordinary record in a block not passed over": its block, its place there, its words [Z8]
pub record Spot : Type 0 where
  pub block : ℕ
  pub place : ℕ
  pub row : List ℕ

-- those of what the walk meets: "A record with key ONES is left" [Z3, Z8]
unfoldable pub spots : Description → List Met → List Spot
spots p [] = []
spots p (over b reason ∷ ms) = spots p ms
spots p (found b i r ∷ ms) = cond (is_ones (key_in p r)) (spots p ms) (record { block = b; place = i; row = r } ∷ spots p ms)

-- those of a copy [Z1, Z8]
abbrev pub spots_of : Description → List ℕ → List Spot
spots_of p copy = spots p (met p copy)

-- their words
abbrev pub rows_of : List Spot → List (List ℕ)
rows_of = map (λ (s : Spot). s.row)

-- "by NSERT": the calls that they come to [Z4]
abbrev pub inserts : List Spot → List Request
inserts ss = map inserting (rows_of ss)

-- "a fresh file", just created and opened [Z4]
unfoldable pub started : Description → List ℕ → State
started p buffer = let w = begun p buffer [] in lent w.session w.file w.buffer []

-- what the NSERT of s answers, after those of the spots xs
unfoldable pub tried_after : State → List Spot → Spot → Outcome
tried_after st xs s = answer (left st (inserts xs)) (inserting s.row)

-- "carried": those whose own NSERT answered 0 or 070001 [Z4, Z8]
unfoldable pub carried_of : State → List Spot → List Spot
carried_of st [] = []
carried_of st (s ∷ ss) =
    let o = answer st (inserting s.row) in
    cond (accepted o.number) (s ∷ carried_of o.after ss) (carried_of o.after ss)

-- what a call that is not refused was lent [Z6]
pub record Lent (p : Description) (copy buffer : List ℕ) : Type 0 where
  pub good : good_params p ≡ true
  pub copy_is : length copy ≡ file_size p
  pub buffer-is : length buffer ≡ p.wpb

-- P of each spot of any copy: of those before it, of itself and of those behind it
abbrev pub EachSpot : (Description → State → List Spot → Spot → List Spot → Type 0) → Type 0
EachSpot P = (p : Description) (copy buffer : List ℕ) → Lent p copy buffer → (xs ys : List Spot) (s : Spot) → spots_of p copy ≡ xs ++ s ∷ ys
    → P p (started p buffer) xs s ys
