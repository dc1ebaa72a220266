-- Document 01, "The session": "While current is 0 no block is buffered, and every test of the buffer's keys below fails, whatever its
-- words". The law of it: with current 0 and the flag off, no call looks at the buffer's words.
use Rattle.std.specs.Prelude.{ℕ, ◌≡◌, false, List, length}
use Rattle.rules.specs.State.{Session, State, Outcome}
use Rattle.rules.specs.Open.{open_file}
use Rattle.rules.specs.Close.{view}
use Rattle.rules.specs.Requests.{Request, answer, left}

-- no block is buffered, and nothing waits to be written
pub record NoneBuffered (s : Session) : Type 0 where
  pub current : s.current ≡ 0
  pub flag : s.flag ≡ false

-- two buffers of one session that no later call can tell apart: they are equal, or of one length and no block is buffered
pub data Buffers (s : Session) (a b : List ℕ) : Type 0 where
  same : a ≡ b → Buffers s a b
  unused : NoneBuffered s → length a ≡ length b → Buffers s a b

-- two states alike but for the words of a buffer that is not used
pub record Alike (st su : State) : Type 0 where
  pub session : st.session ≡ su.session
  pub file : st.file ≡ su.file
  pub work : st.work ≡ su.work
  pub buffers : Buffers st.session st.buffer su.buffer

-- two outcomes that no caller can tell apart: number, list of transfers, session, file and workspace, and the buffers as above
pub record Indistinct (o u : Outcome) : Type 0 where
  pub number : o.number ≡ u.number
  pub transfers : o.transfers ≡ u.transfers
  pub after : Alike o.after u.after

-- every call, on all words: from two states alike but for a buffer that is not used, or wholly alike [S3]
abbrev pub Unbuffered : Type 0
Unbuffered = (st su : State) → Alike st su → (q : Request) → Indistinct (answer st q) (answer su q)

-- OPEN's marks too
abbrev pub UnbufferedMarks : Type 0
UnbufferedMarks = (st su : State) → Alike st su → (marks : List ℕ) → (open_file st marks).marks ≡ (open_file su marks).marks

-- and what VIEW lends back
abbrev pub UnbufferedView : Type 0
UnbufferedView = (st su : State) → Alike st su → (b : ℕ) → view st b ≡ view su b

-- so of a whole run of calls
abbrev pub UnbufferedRun : Type 0
UnbufferedRun = (st su : State) → Alike st su → (qs : List Request) → Alike (left st qs) (left su qs)
