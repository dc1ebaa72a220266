-- S, s, X and x of the session formula are what the calls plan: a detail or index block is put in use by an NSERT whose plan is to split, by an
-- XTEND whose plan is to split as NSERT does, or by an XTEND whose plan is to start one, and by no other call. Nothing is proved here.
use Rattle.std.specs.Prelude.{ℕ, ◌+◌, ◌≡◌, List}
use Rattle.numbers.specs.Numbers.{done}
use Rattle.numbers.specs.Checked.{Checked, passed, refused, ◌>>=◌, ◌>>◌}
use Rattle.rules.specs.declared.Insert.{Insert}
use Rattle.rules.specs.declared.Insert.TheVariants as insert-is
use Rattle.rules.specs.declared.Extend.{Extend}
use Rattle.rules.specs.declared.Extend.TheVariants as extend-is
use Rattle.rules.specs.State.{State, desc, texts, key_in, settle}
use Rattle.rules.specs.Checks.{sizes_ok, work_ok, is_open, key_ok}
use Rattle.rules.specs.Nsert.{insert_deed}
use Rattle.rules.specs.NsertDone.{insert_done, nsert}
use Rattle.rules.specs.Xtend.{extend_deed}
use Rattle.rules.specs.XtendDone.{extend_done, xtend}
use Rattle.rules.specs.Open.{open_file}
use Rattle.rules.specs.Requests.{Request, opening, closing, seeking, advancing, inserting, deleting, updating, extending, lending, answer, tally}
use Rattle.demands.specs.Formula.{new_details, new_indexes, S, s, X, x}
use Rattle.demands.specs.Promises.{AfterOpen}

-- "detail and index splits by NSERT": "Full: of D+1 records the lower (D+2)/2 .. stay; the rest go to a new block"; "A full index splits likewise"
unfoldable pub detail_splits : Insert → ℕ
detail_splits (insert-is.Stop way n) = 0
detail_splits (insert-is.Room w i n) = 0
detail_splits (insert-is.Split w i d n) = 1
detail_splits (insert-is.Both w i b x n) = 1

-- "A full index splits likewise" [C15, F2]
unfoldable pub index_splits : Insert → ℕ
index_splits (insert-is.Stop way n) = 0
index_splits (insert-is.Room w i n) = 0
index_splits (insert-is.Split w i d n) = 0
index_splits (insert-is.Both w i b x n) = 1

-- "detail and index blocks started by XTEND": "the end record starts a new block"; "the entry starts a new index block and section"
unfoldable pub detail_starts : Extend → ℕ
detail_starts (extend-is.Stop way x n) = 0
detail_starts (extend-is.Room way x n) = 0
detail_starts (extend-is.New way w d n) = 1
detail_starts (extend-is.Both way w b x n) = 1
detail_starts (extend-is.Before way w d) = 0

-- "the entry starts a new index block and section" [C29, F2]
unfoldable pub index_starts : Extend → ℕ
index_starts (extend-is.Stop way x n) = 0
index_starts (extend-is.Room way x n) = 0
index_starts (extend-is.New way w d n) = 0
index_starts (extend-is.Both way w b x n) = 1
index_starts (extend-is.Before way w d) = 0

-- "otherwise the record is stored as NSERT stores it", and "Such splits count in S and s": what XTEND splits, by NSERT's measure f [E5]
unfoldable pub extend_splits : (Insert → ℕ) → Extend → ℕ
extend_splits f (extend-is.Stop way x n) = 0
extend_splits f (extend-is.Room way x n) = 0
extend_splits f (extend-is.New way w d n) = 0
extend_splits f (extend-is.Both way w b x n) = 0
extend_splits f (extend-is.Before way w d) = f d

-- what NSERT and XTEND plan, where no number of the table before that refuses the call
unfoldable pub nsert_plan : State → Checked Insert
nsert_plan st = do
  sizes_ok st
  work_ok st
  is_open st
  key_ok (desc st).wpr st
  insert_deed (texts st) st.session.flag (key_in (desc st) st.work)

-- what XTEND plans [C23]
unfoldable pub xtend_plan : State → Checked Extend
xtend_plan st = do
  sizes_ok st
  work_ok st
  is_open st
  key_ok (desc st).wpr st
  extend_deed (texts st) st.session.flag (key_in (desc st) st.work)

-- a number of a plan; 0 where the call is refused
unfoldable pub of_plan : {A : Type 0} → (A → ℕ) → Checked A → ℕ
of_plan f (refused n) = 0
of_plan f (passed a) = f a

-- what a call splits and starts
unfoldable pub splits_of : (Insert → ℕ) → State → Request → ℕ
splits_of f st (opening marks) = 0
splits_of f st closing = 0
splits_of f st (seeking work) = 0
splits_of f st (advancing work) = 0
splits_of f st (inserting work) = of_plan f (nsert_plan (lending work st))
splits_of f st (deleting work) = 0
splits_of f st (updating work) = 0
splits_of f st (extending work) = of_plan (extend_splits f) (xtend_plan (lending work st))

-- what a call starts [F2]
unfoldable pub starts_of : (Extend → ℕ) → State → Request → ℕ
starts_of f st (opening marks) = 0
starts_of f st closing = 0
starts_of f st (seeking work) = 0
starts_of f st (advancing work) = 0
starts_of f st (inserting work) = 0
starts_of f st (deleting work) = 0
starts_of f st (updating work) = 0
starts_of f st (extending work) = of_plan f (xtend_plan (lending work st))

-- these are the plans that the calls carry out: of any state
pub record AsPlanned (st : State) : Type 0 where
  pub nsert-is : nsert st ≡ settle st (nsert_plan st >>= (λ d. insert_done (texts st) st.session.flag st.work d))
  pub xtend-is : xtend st ≡ settle st (xtend_plan st >>= (λ d. extend_done (texts st) st.session.flag st.work d))

-- a call puts as many more blocks in use as it splits and starts
pub record Counts (st : State) (q : Request) : Type 0 where
  pub details : new_details st (answer st q) ≡ splits_of detail_splits st q + starts_of detail_starts st q
  pub indexes : new_indexes st (answer st q) ≡ splits_of index_splits st q + starts_of index_starts st q

-- after each call of any run from an OPEN that answers 0 [F2]
abbrev pub CallCounts : Type 0
CallCounts = AfterOpen λ st. (q : Request) → Counts st q

-- "S, s detail and index splits by NSERT; X, x detail and index blocks started by XTEND", and "Such splits count in S and s", of any run from an
-- OPEN that answers 0 [F2, E5]
pub record Summed (st : State) (qs : List Request) : Type 0 where
  pub S-is : S st qs ≡ tally (λ before q o. splits_of detail_splits before q) st qs
  pub s-is : s st qs ≡ tally (λ before q o. splits_of index_splits before q) st qs
  pub X-is : X st qs ≡ tally (λ before q o. starts_of detail_starts before q) st qs
  pub x-is : x st qs ≡ tally (λ before q o. starts_of index_starts before q) st qs

-- of any run from an OPEN that answers 0 [F2]
abbrev pub RunCounts : Type 0
RunCounts = (st : State) (marks : List ℕ) → (open_file st marks).outcome.number ≡ done → (qs : List Request) → Summed (open_file st marks).outcome.after qs
