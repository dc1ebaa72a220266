-- Document 02, "How full is full": in a file that NSERT alone has changed since CREATE, blocks of a kind, where there is more than one, are at least
-- half full on the average. Nothing is proved here.
use Rattle.std.specs.Prelude.{ℕ, ◌+◌, ◌*◌, ◌≤◌, ◌<◌, ◌≡◌, List, [], ◌∷◌, ◌++◌, map, length}
use Rattle.numbers.specs.Numbers.{done}
use Rattle.drum.specs.Params.{D, I}
use Rattle.layout.specs.Tree.{Tree, contents}
use Rattle.layout.specs.Holds.{Holds}
use Rattle.rules.specs.State.{Session, State, Outcome, desc, lent}
use Rattle.rules.specs.Open.{create, open_file}
use Rattle.rules.specs.Requests.{Request, opening, closing, seeking, advancing, inserting, deleting, updating, extending, left, tally}
use Rattle.demands.specs.Formula.{h_d, h_i, detail_blocks, index_blocks, accepted_by, M, S, s, AfterCreate}
use Rattle.demands.specs.Contents.{Contains}

-- 1 for a DLETE or an XTEND that is accepted, and 0 for any other call [F5]
unfoldable pub other_change : Request → Outcome → ℕ
other_change (opening marks) o = 0
other_change closing o = 0
other_change (seeking work) o = 0
other_change (advancing work) o = 0
other_change (inserting work) o = 0
other_change (deleting work) o = accepted_by o
other_change (updating work) o = 0
other_change (extending work) o = accepted_by o

-- "changed only by NSERT since CREATE": of the calls of a run no DLETE and no XTEND is accepted. UPDAT, which leaves as many records as there were,
-- SEEK, ADV, CLOSE, OPEN and refused calls are any [F5]
abbrev pub OnlyNserts : State → List Request → Type 0
OnlyNserts st qs = tally (λ before q o. other_change q o) st qs ≡ 0

-- of a state and the number of its records, the end record counted [F6, F7]
pub record HalfFull (st : State) (records : ℕ) : Type 0 where
  -- "the number of detail blocks, if more than one, times hD is at most its records, the end record counted"
  pub details : 2 ≤ detail_blocks st → h_d (desc st) * detail_blocks st ≤ records
  -- "likewise index blocks, if more than one, times hI against detail blocks"
  pub indexes : 2 ≤ index_blocks st → h_i (desc st) * index_blocks st ≤ detail_blocks st

-- from a CREATE and then an OPEN that both answer 0, after any such calls, closing and reopening included: of the records of the file with the
-- buffer put back [F5, F6, F7]
abbrev pub HowFull : Type 0
HowFull = AfterCreate λ st qs. OnlyNserts st qs → (rows : List (List ℕ)) → Contains (left st qs) rows → HalfFull (left st qs) (length rows)

-- and of the file alone, whatever waits in the buffer: a lost buffer loses records, and the bounds hold all the same [F5, F6, F7]
abbrev pub HowFullAlone : Type 0
HowFullAlone = AfterCreate λ st qs. OnlyNserts st qs → let now = left st qs in
    (t : Tree) → Holds (desc now) now.file t → HalfFull now (length (contents t))

-- what such calls leave, exactly: CREATE's two blocks and one for each split, the end record and one for each NSERT accepted
pub record NsertsLeave (st : State) (qs : List Request) (records : ℕ) : Type 0 where
  pub details : detail_blocks (left st qs) ≡ 1 + S st qs
  pub indexes : index_blocks (left st qs) ≡ 1 + s st qs
  pub records-are : records ≡ 1 + M st qs

-- from a CREATE and then an OPEN that both answer 0 [F2, F5]
abbrev pub NsertsCounted : Type 0
NsertsCounted = AfterCreate λ st qs. OnlyNserts st qs → (rows : List (List ℕ)) → Contains (left st qs) rows → NsertsLeave st qs (length rows)

-- ---- by some run of calls

-- a run: CREATE and then OPEN, both of which answer 0, and calls after them
pub record Run : Type 0 where
  pub session : Session
  pub file : List ℕ
  pub buffer : List ℕ
  pub work : List ℕ
  pub marks : List ℕ
  pub creates : (create session.desc file).number ≡ done
  pub opens : (open_file (lent session (create session.desc file).file buffer work) marks).outcome.number ≡ done
  pub calls : List Request

-- the state after its OPEN
abbrev pub started : Run → State
started r = (open_file (lent r.session (create r.session.desc r.file).file r.buffer r.work) r.marks).outcome.after

-- the state after its last call
abbrev pub ended : Run → State
ended r = left (started r) r.calls

-- "each bound met with equality for D = 3 and I = 3 by some run of calls": one run, of NSERTs accepted, meets both [F8]
pub record JustFull : Type 0 where
  pub run : Run
  pub rows : List (List ℕ)
  pub stand : Contains (ended run) rows
  pub three-records : D run.session.desc ≡ 3
  pub three-entries : I run.session.desc ≡ 3
  pub only : OnlyNserts (started run) run.calls
  pub several : (2 ≤ detail_blocks (ended run)) × (2 ≤ index_blocks (ended run))
  pub details : h_d (desc (ended run)) * detail_blocks (ended run) ≡ length rows
  pub indexes : h_i (desc (ended run)) * index_blocks (ended run) ≡ detail_blocks (ended run)

-- more detail blocks than the bound allows
pub record NotFull (run : Run) : Type 0 where
  pub rows : List (List ℕ)
  pub stand : Contains (ended run) rows
  pub fewer : length rows < h_d (desc (ended run)) * detail_blocks (ended run)

-- "changed only by NSERT" is needed: NSERTs, and then one other call, break the bound on detail blocks, of which there are more than one [F5]
pub record Breaks (other : List ℕ → Request) : Type 0 where
  pub run : Run
  pub nserts : List (List ℕ)
  pub last : List ℕ
  pub calls_are : run.calls ≡ map inserting nserts ++ other last ∷ []
  pub several : 2 ≤ detail_blocks (ended run)
  pub broken : NotFull run

-- a DLETE breaks it, and so does an XTEND [F5]
abbrev pub OthersBreak : Type 0
OthersBreak = Breaks deleting × Breaks extending

-- "if more than one" is needed: a file just made breaks the bound [F6]
abbrev pub OneBreaks : Type 0
OneBreaks = (run : Run) × (run.calls ≡ []) × NotFull run
