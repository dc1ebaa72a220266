-- Demand 2 over a run of calls: a key is found exactly when it stood there at the OPEN or was put in, and was not taken out since; and what is
-- found is the record last stored under it. Nothing is proved here.
use Rattle.std.specs.Prelude.{ℕ, cond, ◌⊎◌, ◌≡◌, List, [], ◌∷◌, ◌++◌, eqb}
use Rattle.numbers.specs.Numbers.{done, not_found, accepted}
use Rattle.words.specs.Keys.{same_key}
use Rattle.drum.specs.declared.Description.{Description}
use Rattle.layout.specs.Tree.{Tree, contents}
use Rattle.layout.specs.Holds.{Holds}
use Rattle.rules.specs.State.{State, Outcome, desc, key_in}
use Rattle.rules.specs.Open.{open_file}
use Rattle.rules.specs.Requests.{Request, opening, closing, seeking, advancing, inserting, deleting, updating, extending, answer, left}

-- a record is put in, anew or in place of the one with its key; the record with a key is taken out
pub data Event : Type 0 where
  stored : List ℕ → Event
  removed : List ℕ → Event

-- what a call has done to the records: NSERT, UPDAT and XTEND put theirs in where they answer 0 or 070001, "stored"; DLETE takes out the record
-- with its key where it answers 0
unfoldable pub event_of : Description → Request → Outcome → List Event
event_of p (opening marks) o = []
event_of p closing o = []
event_of p (seeking work) o = []
event_of p (advancing work) o = []
event_of p (inserting work) o = cond (accepted o.number) (stored work ∷ []) []
event_of p (deleting work) o = cond (eqb o.number done) (removed (key_in p work) ∷ []) []
event_of p (updating work) o = cond (accepted o.number) (stored work ∷ []) []
event_of p (extending work) o = cond (accepted o.number) (stored work ∷ []) []

-- what the calls of a run have done, one after another
unfoldable pub events : State → List Request → List Event
events st [] = []
events st (q ∷ qs) = let o = answer st q in event_of (desc st) q o ++ events o.after qs

-- what stands under the key after the events, where `was` stood under it before them: nothing, or the record last put in
unfoldable pub standing : Description → List ℕ → List Event → List (List ℕ) → List (List ℕ)
standing p key [] was = was
standing p key (stored r ∷ es) was = standing p key es (cond (same_key (key_in p r) key) (r ∷ []) was)
standing p key (removed x ∷ es) was = standing p key es (cond (same_key x key) [] was)

-- the records with the key
unfoldable pub with_key : Description → List ℕ → List (List ℕ) → List (List ℕ)
with_key p key [] = []
with_key p key (r ∷ rs) = cond (same_key (key_in p r) key) (r ∷ with_key p key rs) (with_key p key rs)

-- what a SEEK hands out: the record where it answers 0, else nothing
unfoldable pub handed : Outcome → List (List ℕ)
handed o = cond (eqb o.number done) (o.after.work ∷ []) []

-- from an OPEN that answers 0, of a file in which the tree t stands, any calls, "each given what the last left": a SEEK that is not refused
-- hands out what stands under its key
abbrev pub FoundExactly : Type 0
FoundExactly =
    (st : State) (marks : List ℕ) → (open_file st marks).outcome.number ≡ done → (t : Tree) → Holds (desc st) st.file t → (qs : List Request) (work : List ℕ)
    → let opened = (open_file st marks).outcome.after in
    let o = answer (left opened qs) (seeking work) in
    let key = key_in (desc st) work in
    (o.number ≡ done) ⊎ (o.number ≡ not_found)
    → handed o ≡ standing (desc st) key (events opened qs) (with_key (desc st) key (contents t))
