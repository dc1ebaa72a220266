-- Document 01: "Demand 2 shuts out a routine that refuses everything, one with a constant answer, one that does nothing, one that stores in its
-- first call and feigns the rest, and a made-up count. Demand 3 alone would pass the first". And three that answer, store and count as they should,
-- each refused by one sentence of demand 2 alone: position, CLOSE, VIEW. Nothing is proved here.
use Rattle.std.specs.Prelude.{ℕ, true, false, cond, ◌&&◌, ◌≡◌, List, [], eqb, length}
use Rattle.numbers.specs.Numbers.{done, wrong_size, accepted}
use Rattle.numbers.specs.Checked.{between}
use Rattle.words.specs.Words.{zeros}
use Rattle.drum.specs.Params.{sized}
use Rattle.drum.specs.Blocks.{block_at}
use Rattle.rules.specs.State.{Session, State, Outcome, desc, lent, at_rest, unchanged}
use Rattle.rules.specs.Requests.{Request, opening, closing, seeking, advancing, inserting, deleting, updating, extending, lending, answer}
use Rattle.demands.specs.Durable.{ClosesBy}
use Rattle.demands.specs.Routines.{Routine, Viewing, AfterOpenBy, RightCalls, PositionsAre, ViewsAre, Demand3By}

-- ---- the five

-- "a routine that refuses everything": no NSERT is accepted, whatever becomes of the other calls
abbrev pub RefusesEverything : Routine → Type 0
RefusesEverything r = (st : State) (work : List ℕ) → accepted (r st (inserting work)).number ≡ true → ⊥

-- "one with a constant answer"
abbrev pub ConstantAnswer : Routine → Type 0
ConstantAnswer r = (n : ℕ) × ((st : State) (q : Request) → (r st q).number ≡ n)

-- file, buffer, current block and flag are as they were
abbrev pub Idle : State → State → Type 0
Idle st now = (now.file ≡ st.file) × (now.buffer ≡ st.buffer) × (now.session.current ≡ st.session.current) × (now.session.flag ≡ st.session.flag)

-- "one that does nothing": no NSERT does, whatever it answers and whatever becomes of the other calls
abbrev pub DoesNothing : Routine → Type 0
DoesNothing r = (st : State) (work : List ℕ) → Idle st (r st (inserting work)).after

-- "one that stores in its first call and feigns the rest": after an NSERT that was accepted no call does anything, whatever it answers
abbrev pub StoresOnce : Routine → Type 0
StoresOnce r = (st : State) (work : List ℕ) → accepted (r st (inserting work)).number ≡ true
    → (q : Request) → Idle (r st (inserting work)).after (r (r st (inserting work)).after q).after

-- "a made-up count": made up from the call alone
abbrev pub MadeUpCount : Routine → Type 0
MadeUpCount r = (c : Request → ℕ) × ((st : State) (q : Request) → length (r st q).transfers ≡ c q)

-- "Demand 2 shuts out ..": a routine is none of the five
pub record ShutsOut (r : Routine) : Type 0 where
  pub refuses-everything : RefusesEverything r → ⊥
  pub constant-answer : ConstantAnswer r → ⊥
  pub does-nothing : DoesNothing r → ⊥
  pub stores-once : StoresOnce r → ⊥
  pub made-up-count : MadeUpCount r → ⊥

-- a routine that opens what `answer` opens, and refuses every other call
unfoldable pub refuser : Routine
refuser st (opening marks) = answer st (opening marks)
refuser st closing = unchanged st wrong_size
refuser st (seeking work) = unchanged (lending work st) wrong_size
refuser st (advancing work) = unchanged (lending work st) wrong_size
refuser st (inserting work) = unchanged (lending work st) wrong_size
refuser st (deleting work) = unchanged (lending work st) wrong_size
refuser st (updating work) = unchanged (lending work st) wrong_size
refuser st (extending work) = unchanged (lending work st) wrong_size

-- "Demand 3 alone would pass the first": it refuses everything and meets demand 3; its calls are not right
pub record PassesAlone (r : Routine) : Type 0 where
  pub first : RefusesEverything r
  pub demand-3 : Demand3By r
  pub shut_out : RightCalls r → ⊥

-- ---- three that only one sentence refuses

-- the outcome of a call on st, but for position, which is as it was
unfoldable pub forgetting : State → Outcome → Outcome
forgetting st o =
    let s = o.after.session in
    let was = st.session in
    let kept : Session = record { desc = s.desc; opened = s.opened; current = s.current; flag = s.flag; placed = was.placed; position = was.position } in
    record { number = o.number; transfers = o.transfers; after = lent kept o.after.file o.after.buffer o.after.work }

-- NSERT, DLETE, UPDAT and XTEND forget to set position
unfoldable pub forgetful : Routine
forgetful st (opening marks) = answer st (opening marks)
forgetful st closing = answer st closing
forgetful st (seeking work) = answer st (seeking work)
forgetful st (advancing work) = answer st (advancing work)
forgetful st (inserting work) = forgetting st (answer st (inserting work))
forgetful st (deleting work) = forgetting st (answer st (deleting work))
forgetful st (updating work) = forgetting st (answer st (updating work))
forgetful st (extending work) = forgetting st (answer st (extending work))

-- `answer`, but for what CLOSE comes to
unfoldable pub closing_by : (State → Outcome) → Routine
closing_by close st (opening marks) = answer st (opening marks)
closing_by close st closing = close st
closing_by close st (seeking work) = answer st (seeking work)
closing_by close st (advancing work) = answer st (advancing work)
closing_by close st (inserting work) = answer st (inserting work)
closing_by close st (deleting work) = answer st (deleting work)
closing_by close st (updating work) = answer st (updating work)
closing_by close st (extending work) = answer st (extending work)

-- CLOSE's number and transfers, with another state left where the number is 0
unfoldable pub feigning : State → Outcome → Outcome
feigning left o = record { number = o.number; transfers = o.transfers; after = cond (eqb o.number done) left o.after }

-- CLOSE drops a flagged buffer: it counts the write, and the session is closed, but nothing is written
unfoldable pub dropping : Routine
dropping = closing_by λ st. feigning (lent (at_rest false st.session) st.file st.buffer st.work) (answer st closing)

-- CLOSE leaves the flagged buffer unwritten in an open session, position none: no call of that session misses a record, any other session does
unfoldable pub unwritten : Routine
unwritten = closing_by λ st.
    let s = st.session in
    let still : Session = record { desc = s.desc; opened = s.opened; current = s.current; flag = s.flag; placed = false; position = zeros 63 } in
    feigning (lent still st.file st.buffer st.work) (answer st closing)

-- VIEW shows the file's words of every block, the buffered one too
unfoldable pub stale : Viewing
stale st b =
    cond (st.session.opened && (sized (desc st) (length st.file) (length st.buffer) && between 1 (desc st).n b))
    (block_at (desc st) st.file b)
    []

-- refused for what it makes of position, and for nothing else
pub record ForPosition (r : Routine) (v : Viewing) : Type 0 where
  pub calls : RightCalls r
  pub closes : AfterOpenBy r (ClosesBy r)
  pub views : AfterOpenBy r (ViewsAre v)
  pub refused : AfterOpenBy r (PositionsAre r) → ⊥

-- refused for CLOSE, and for nothing else
pub record ForClose (r : Routine) (v : Viewing) : Type 0 where
  pub calls : RightCalls r
  pub positions : AfterOpenBy r (PositionsAre r)
  pub views : AfterOpenBy r (ViewsAre v)
  pub refused : AfterOpenBy r (ClosesBy r) → ⊥

-- refused for VIEW, and for nothing else
pub record ForView (r : Routine) (v : Viewing) : Type 0 where
  pub calls : RightCalls r
  pub positions : AfterOpenBy r (PositionsAre r)
  pub closes : AfterOpenBy r (ClosesBy r)
  pub refused : AfterOpenBy r (ViewsAre v) → ⊥
