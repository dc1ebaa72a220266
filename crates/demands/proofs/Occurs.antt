-- Each number that a call can answer is answered: one call for each, with the parameters 8 3 1 0 2 4. By computation.
use Prim.Native.Nat.{ℕ}
use mathlib.Core.Bool.{Bool, true, false}
use mathlib.Core.Path.{◌≡◌, refl}
use mathlib.Core.List.{List, [], ◌∷◌}
use Rattle.numbers.specs.Numbers.{wrong_size, already_open, is_closed, wrong_key, bad_file, not_found, out_of_sequence, no_room, none_free, at_end, done}
use Rattle.words.specs.Words.{zeros}
use Rattle.drum.specs.declared.Description.{Description}
use Rattle.layout.specs.Create.{created}
use Rattle.rules.specs.State.{Session, State, lent}
use Rattle.rules.specs.Requests.{Request, opening, closing, seeking, advancing, inserting, deleting, updating, extending, answer, left}
use Rattle.rules.proofs.Computing.{computing}

abbrev small : Description
small = record { wpb = 8; wpr = 3; k = 1; space = 0; control = 2; n = 4; form = 1 }

abbrev session : Bool → ℕ → Bool → Session
session opened current flag = record { desc = small; opened = opened; current = current; flag = flag; placed = false; position = zeros 63 }

abbrev over : Session → List ℕ → State
over s f = lent s f (zeros 8) (zeros 3)

-- what CREATE leaves, closed and open; a file of zeros, closed and open; a flagged buffer of a block that is not there
abbrev closed : State
closed = over (session false 0 false) (created small)

abbrev fresh : State
fresh = over (session true 0 false) (created small)

abbrev blank : State
blank = over (session false 0 false) (zeros 40)

abbrev broken : State
broken = over (session true 0 false) (zeros 40)

abbrev astray : State
astray = over (session true 9 true) (created small)

abbrev rec : ℕ → List ℕ
rec k = k ∷ 0 ∷ 0 ∷ []

-- two records; no block is free
abbrev two : State
two = left fresh (inserting (rec 20) ∷ inserting (rec 10) ∷ [])

abbrev full : State
full = left fresh (inserting (rec 10) ∷ inserting (rec 20) ∷ inserting (rec 5) ∷ inserting (rec 15) ∷ [])

unfoldable pub given_by : State → List Request → List ℕ
given_by st [] = []
given_by st (q ∷ qs) = (answer st q).number ∷ given_by st qs

pub occurs-open : (given_by closed (opening [] ∷ opening (zeros 4) ∷ []) ≡ wrong_size ∷ done ∷ []) × ((answer fresh (opening (zeros 4))).number ≡ already_open)
    × ((answer blank (opening (zeros 4))).number ≡ bad_file)
unfolding computing given_by
occurs-open = (refl, refl, refl)

pub occurs-close : ((answer fresh closing).number ≡ done) × ((answer closed closing).number ≡ is_closed) × ((answer astray closing).number ≡ bad_file)
    × ((answer (over (session true 0 false) []) closing).number ≡ wrong_size)
unfolding computing
occurs-close = (refl, refl, refl, refl)

-- SEEK, DLETE, UPDAT
abbrev asked : (List ℕ → Request) → List Request
asked q = q [] ∷ q (rec 262143) ∷ q (rec 7) ∷ q (rec 10) ∷ []

abbrev found : List ℕ
found = wrong_size ∷ wrong_key ∷ not_found ∷ done ∷ []

pub occurs-seek : (given_by two (asked seeking) ≡ found) × (given_by two (asked deleting) ≡ found) × (given_by two (asked updating) ≡ found)
unfolding computing given_by
occurs-seek = (refl, refl, refl)

abbrev keyed : List Request
keyed = seeking (rec 7) ∷ deleting (rec 7) ∷ updating (rec 7) ∷ inserting (rec 7) ∷ extending (rec 7) ∷ advancing (rec 7) ∷ []

pub occurs-refused : (given_by closed keyed ≡ is_closed ∷ is_closed ∷ is_closed ∷ is_closed ∷ is_closed ∷ is_closed ∷ [])
    × (given_by broken keyed ≡ bad_file ∷ bad_file ∷ bad_file ∷ bad_file ∷ bad_file ∷ bad_file ∷ [])
unfolding computing given_by
occurs-refused = (refl, refl)

pub occurs-adv : (given_by two (advancing [] ∷ advancing (rec 0) ∷ []) ≡ wrong_size ∷ done ∷ []) × ((answer fresh (advancing (rec 0))).number ≡ at_end)
unfolding computing given_by
occurs-adv = (refl, refl)

pub occurs-nsert : (given_by two (inserting [] ∷ inserting (rec 262143) ∷ inserting (rec 10) ∷ inserting (rec 5) ∷ [])
    ≡ wrong_size ∷ wrong_key ∷ not_found ∷ none_free ∷ [])
    × ((answer fresh (inserting (rec 10))).number ≡ done) × ((answer full (inserting (rec 12))).number ≡ no_room)
unfolding computing given_by
occurs-nsert = (refl, refl, refl)

pub occurs-xtend : (given_by full (extending [] ∷ extending (rec 262143) ∷ extending (rec 7) ∷ extending (rec 30) ∷ [])
    ≡ wrong_size ∷ wrong_key ∷ out_of_sequence ∷ none_free ∷ [])
    × ((answer fresh (extending (rec 10))).number ≡ done) × ((answer (left full (extending (rec 30) ∷ [])) (extending (rec 40))).number ≡ no_room)
unfolding computing given_by
occurs-xtend = (refl, refl, refl)
