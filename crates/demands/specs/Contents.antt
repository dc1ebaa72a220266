-- Demand 2, what a call makes of the contents, the ordered records, as plain operations on a sorted list. Nothing is proved here.
use Rattle.std.specs.Prelude.{ℕ, cond, ◌≡◌, List, [], ◌∷◌, ◌++◌}
use Rattle.words.specs.Keys.{key_lt}
use Rattle.drum.specs.declared.Description.{Description}
use Rattle.layout.specs.Tree.{Tree, contents}
use Rattle.layout.specs.Holds.{Holds}
use Rattle.rules.specs.State.{State, desc, key_in}
use Rattle.rules.specs.Requests.{Request, answer}
use Rattle.demands.specs.History.{Event, stored, removed, event_of}
use Rattle.demands.specs.Promises.{AfterOpen, put_back}

-- the records whose keys are below the key, and those whose keys are above it
unfoldable pub records_below : Description → List ℕ → List (List ℕ) → List (List ℕ)
records_below p key [] = []
records_below p key (r ∷ rs) = cond (key_lt (key_in p r) key) (r ∷ records_below p key rs) (records_below p key rs)

-- the records whose keys are above the key
unfoldable pub records_above : Description → List ℕ → List (List ℕ) → List (List ℕ)
records_above p key [] = []
records_above p key (r ∷ rs) = cond (key_lt key (key_in p r)) (r ∷ records_above p key rs) (records_above p key rs)

-- a record is put in its place between those below and those above, so that one with its key gives way; or the one with a key is taken out
unfoldable pub changed : Description → List Event → List (List ℕ) → List (List ℕ)
changed p [] rows = rows
changed p (stored r ∷ es) rows = changed p es (records_below p (key_in p r) rows ++ r ∷ records_above p (key_in p r) rows)
changed p (removed key ∷ es) rows = changed p es (records_below p key rows ++ records_above p key rows)

-- the file with the buffer put back holds these records
pub record Contains (st : State) (rows : List (List ℕ)) : Type 0 where
  pub tree : Tree
  pub held : Holds (desc st) (put_back st) tree
  pub are : contents tree ≡ rows

-- after each call of any run from an OPEN that answers 0: NSERT, UPDAT and XTEND that answer 0 or 070001 have put in their record, DLETE that
-- answers 0 has taken out the record with its key, and no other call has changed a record
abbrev pub CallContents : Type 0
CallContents = AfterOpen λ st. (rows : List (List ℕ)) → Contains st rows → (q : Request)
    → Contains (answer st q).after (changed (desc st) (event_of (desc st) q (answer st q)) rows)
