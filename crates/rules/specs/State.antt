-- What a call is given and what it leaves. Document 01, "The session".
use Rattle.std.specs.Prelude.{ℕ, Bool, true, false, cond, List, []}
use Rattle.numbers.specs.Checked.{Checked, passed, refused}
use Rattle.words.specs.Words.{part, put, zeros}
use Rattle.drum.specs.declared.Description.{Description}
use Rattle.drum.specs.Blocks.{Transfer, Texts, seen}

-- "A value handed in and back: parameters, open or closed, current block (0 none), write flag, position (none, or a key)"; the position's
-- key is its first K words, and means nothing unless `placed` [S1]
pub record Session : Type 0 where
  pub desc : Description
  pub opened : Bool
  pub current : ℕ
  pub flag : Bool
  pub placed : Bool
  pub position : List ℕ

-- the session handed in and the words lent: at entry, or at exit [W2]
pub record State : Type 0 where
  pub session : Session
  pub file : List ℕ
  pub buffer : List ℕ
  pub work : List ℕ

-- what a call does: the number, the list of transfers ("Each result carries its count, which is the length of the list"), the state at exit [T3]
pub record Outcome : Type 0 where
  pub number : ℕ
  pub transfers : List Transfer
  pub after : State

-- a session with the words lent to it
abbrev pub lent : Session → List ℕ → List ℕ → List ℕ → State
lent s f b work = record { session = s; file = f; buffer = b; work = work }

-- its parameters
abbrev pub desc : State → Description
desc st = st.session.desc

-- what the steps of a call look at
abbrev pub texts : State → Texts
texts st = seen st.session.desc st.session.current st.file st.buffer

-- the key and the record in a workspace; the key that position is
abbrev pub key_in : Description → List ℕ → List ℕ
key_in p work = part 0 p.k work

-- the record in a workspace [P3]
abbrev pub record_in : Description → List ℕ → List ℕ
record_in p work = part 0 p.wpr work

-- the key that position is [S1]
abbrev pub position_key : Session → List ℕ
position_key s = part 0 s.desc.k s.position

-- a session like s, with another current block and flag
unfoldable pub holding : ℕ → Bool → Session → Session
holding b flag s =
    record { desc = s.desc; opened = s.opened; current = b; flag = flag; placed = s.placed; position = s.position }

-- a session like s, with "position = key" [C3, C33, C35]
unfoldable pub positioned : List ℕ → Session → Session
positioned key s =
    record { desc = s.desc; opened = s.opened; current = s.current; flag = s.flag; placed = true; position = put s.position 0 key }

-- "OPEN and CLOSE leave current 0, flag off, position none" [S2, C35]
unfoldable pub at_rest : Bool → Session → Session
at_rest opened s =
    record { desc = s.desc; opened = opened; current = 0; flag = false; placed = false; position = zeros 63 }

-- what the steps of a call come to: number, transfers, current block and flag, file, buffer and workspace, and whether position is set to
-- the key that stands first in that workspace
pub record Effect : Type 0 where
  pub number : ℕ
  pub transfers : List Transfer
  pub current : ℕ
  pub flag : Bool
  pub keyed : Bool
  pub file : List ℕ
  pub buffer : List ℕ
  pub work : List ℕ

-- the outcome of a call whose steps have this effect [C33]
unfoldable pub outcome : Session → Effect → Outcome
outcome s e =
    let held = holding e.current e.flag s in
    record {
      number = e.number;
      transfers = e.transfers;
      after = lent (cond e.keyed (positioned (key_in s.desc e.work) held) held) e.file e.buffer e.work;
    }

-- "all unchanged .. 0 transfers" [T7, N1]
abbrev pub unchanged : State → ℕ → Outcome
unchanged st n = record { number = n; transfers = []; after = st }

-- the first refusal, or what the call did [N1]
unfoldable pub settle : State → Checked Effect → Outcome
settle st (refused n) = unchanged st n
settle st (passed e) = outcome st.session e
