-- Demand 2, what a call answers, over the contents, the ordered records, as plain questions of a sorted list. Nothing is proved here.
use Rattle.std.specs.Prelude.{ℕ, true, false, cond, ◌⊎◌, ◌≡◌, List, [], ◌∷◌, length}
use Rattle.numbers.specs.Numbers.{done, not_found, out_of_sequence, no_room, none_free, at_end}
use Rattle.words.specs.Words.{part, all_words}
use Rattle.words.specs.Keys.{is_ones, key_lt}
use Rattle.drum.specs.declared.Description.{Description}
use Rattle.layout.specs.Create.{end_record}
use Rattle.layout.specs.Tree.{Leaf}
use Rattle.rules.specs.State.{Session, State, Outcome, desc, key_in, position_key}
use Rattle.rules.specs.Requests.{seeking, advancing, inserting, deleting, updating, extending, answer}
use Rattle.demands.specs.History.{with_key}
use Rattle.demands.specs.Promises.{AfterOpen}
use Rattle.demands.specs.Contents.{records_above, Contains}

-- the session is open and the workspace is of the right length
abbrev pub Lent : State → List ℕ → Type 0
Lent st work = (st.session.opened ≡ true) × (length work ≡ (desc st).wpr)

-- a keyed call that reads so many words: none of them is above 262143, and the key is not ONES
abbrev pub Keyed : State → ℕ → List ℕ → Type 0
Keyed st reads work = Lent st work × (all_words (part 0 reads work) ≡ true) × (is_ones (key_in (desc st) work) ≡ false)

-- the ordinary records: all but the end record, whose key is ONES
unfoldable pub ordinary : Description → List (List ℕ) → List (List ℕ)
ordinary p [] = []
ordinary p (r ∷ rs) = cond (is_ones (key_in p r)) (ordinary p rs) (r ∷ ordinary p rs)

-- the records whose keys are not below the key
unfoldable pub records_from : Description → List ℕ → List (List ℕ) → List (List ℕ)
records_from p key [] = []
records_from p key (r ∷ rs) = cond (key_lt (key_in p r) key) (records_from p key rs) (r ∷ records_from p key rs)

-- the records above the position; position none is below all
abbrev pub above_position : Session → List (List ℕ) → List (List ℕ)
above_position s rows = cond s.placed (records_above s.desc (position_key s) rows) rows

-- SEEK, of the records with its key: there is none, 1 and the workspace is kept; or one, 0 and the workspace is that record
abbrev pub Sought : List ℕ → List (List ℕ) → Outcome → Type 0
Sought work [] o = (o.number ≡ not_found) × (o.after.work ≡ work)
Sought work (r ∷ rs) o = (rs ≡ []) × (o.number ≡ done) × (o.after.work ≡ r)

-- UPDAT and DLETE, of the records with the key: there is none, 1; or one, 0
abbrev pub Met : List (List ℕ) → Outcome → Type 0
Met [] o = o.number ≡ not_found
Met (r ∷ rs) o = o.number ≡ done

-- NSERT, of the records with the key: there is none, and it is stored, 0 or 070001, or there is no room, 070002; or one, 1
abbrev pub Inserted : List (List ℕ) → Outcome → Type 0
Inserted [] o = (o.number ≡ done) ⊎ ((o.number ≡ none_free) ⊎ (o.number ≡ no_room))
Inserted (r ∷ rs) o = o.number ≡ not_found

-- ADV, of the ordinary records above the position: there is none, 030002 and the workspace is the end record; or 0 and it is the first
abbrev pub Advanced : Description → List (List ℕ) → Outcome → Type 0
Advanced p [] o = (o.number ≡ at_end) × (o.after.work ≡ end_record p)
Advanced p (r ∷ rs) o = (o.number ≡ done) × (o.after.work ≡ r)

-- the records of the last of a list of detail blocks
unfoldable pub last_block : List Leaf → List (List ℕ)
last_block [] = []
last_block (l ∷ []) = l.records
last_block (l ∷ m ∷ ls) = last_block (m ∷ ls)

-- XTEND, of the ordinary records not below the key: "5 is now given, on a file that opens, exactly when some ordinary key there is not below the
-- key"; where there is none, it is stored, 0 or 070001, or there is no room, 070002 [E1]
abbrev pub Extended : List (List ℕ) → Outcome → Type 0
Extended [] o = (o.number ≡ done) ⊎ ((o.number ≡ none_free) ⊎ (o.number ≡ no_room))
Extended (r ∷ rs) o = o.number ≡ out_of_sequence

-- what each call answers where these are the records
pub record Answered (st : State) (rows : List (List ℕ)) : Type 0 where
  pub seek : (work : List ℕ) → Keyed st (desc st).k work → Sought work (with_key (desc st) (key_in (desc st) work) rows) (answer st (seeking work))
  pub adv : (work : List ℕ) → Lent st work → Advanced (desc st) (ordinary (desc st) (above_position st.session rows)) (answer st (advancing work))
  pub nsert : (work : List ℕ) → Keyed st (desc st).wpr work → Inserted (with_key (desc st) (key_in (desc st) work) rows) (answer st (inserting work))
  pub dlete : (work : List ℕ) → Keyed st (desc st).k work → Met (with_key (desc st) (key_in (desc st) work) rows) (answer st (deleting work))
  pub updat : (work : List ℕ) → Keyed st (desc st).wpr work → Met (with_key (desc st) (key_in (desc st) work) rows) (answer st (updating work))
  pub xtend : (work : List ℕ) → Keyed st (desc st).wpr work
      → Extended (ordinary (desc st) (records_from (desc st) (key_in (desc st) work) rows)) (answer st (extending work))

-- after each call of any run from an OPEN that answers 0
abbrev pub CallAnswers : Type 0
CallAnswers = AfterOpen λ st. (rows : List (List ℕ)) → Contains st rows → Answered st rows
