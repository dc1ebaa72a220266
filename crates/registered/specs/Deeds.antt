-- A run of register calls, "each given what the last left", and the calls of the routine that it makes. OPEN and CLOSE, and whatever else is called of
-- the routine itself, stand in it as they are.
use Rattle.std.specs.Prelude.{ℕ, Bool, cond, List, [], ◌∷◌, ◌++◌, eqb}
use Rattle.numbers.specs.Numbers.{done}
use Rattle.numbers.specs.Checked.{Checked, passed, refused}
use Rattle.rules.specs.State.{State, Outcome, desc}
use Rattle.rules.specs.Requests.{Request, seeking, advancing, inserting, updating, lending, answer, left}
use Rattle.register.specs.Names.{raw, romanised, on_hold}
use Rattle.register.specs.Register.{has_state, name_ok, spelled_ok, raw_name, sought, spelled, turned, enter, ask, next, romanise, hold, free}

-- a register call with the words lent to it, the spelling behind the workspace; or a call of the routine itself
pub data Deed : Type 0 where
  entering asking listing holding freeing : List ℕ → Deed
  romanising : List ℕ → List ℕ → Deed
  calling : Request → Deed

-- what it does
unfoldable pub did : State → Deed → Outcome
did st (entering work) = enter (lending work st)
did st (asking work) = ask (lending work st)
did st (listing work) = next (lending work st)
did st (holding work) = hold (lending work st)
did st (freeing work) = free (lending work st)
did st (romanising work spelling) = romanise spelling (lending work st)
did st (calling q) = answer st q

-- the state that a run leaves
unfoldable pub left_by : State → List Deed → State
left_by st [] = st
left_by st (d ∷ ds) = left_by (did st d).after ds

-- none where the register refuses
abbrev pub if_passed : Checked Bool → List Request → List Request
if_passed (refused n) qs = []
if_passed (passed x) qs = qs

-- UPDAT with these words, or none
abbrev pub to_update : Checked (List ℕ) → List Request
to_update (refused n) = []
to_update (passed w) = updating w ∷ []

-- a move: SEEK, and UPDAT where the record found is in the right state
unfoldable pub moving : ℕ → (List ℕ → Checked (List ℕ)) → List ℕ → State → List Request
moving from made work st =
    let o = sought from (lending work st) in
    seeking work ∷ cond (eqb o.number done) (to_update (made o.after.work)) []

-- the calls of the routine that a register call makes [G1]
unfoldable pub requests_of : State → Deed → List Request
requests_of st (entering work) = if_passed (name_ok (lending work st)) (inserting (raw_name (desc st) work) ∷ [])
requests_of st (asking work) = if_passed (has_state (lending work st)) (seeking work ∷ [])
requests_of st (listing work) = if_passed (has_state (lending work st)) (advancing work ∷ [])
requests_of st (holding work) = if_passed (name_ok (lending work st)) (moving romanised (turned (desc st) on_hold) work st)
requests_of st (freeing work) = if_passed (name_ok (lending work st)) (moving on_hold (turned (desc st) romanised) work st)
requests_of st (romanising work spelling) = if_passed (spelled_ok spelling (lending work st)) (moving raw (spelled (desc st) spelling) work st)
requests_of st (calling q) = q ∷ []

-- the calls of the routine that a run makes
unfoldable pub requests : State → List Deed → List Request
requests st [] = []
requests st (d ∷ ds) = requests_of st d ++ requests (left st (requests_of st d)) ds
