-- The form of the public promises: one equation between what a method gives back, with the words it leaves, and document 01's outcome.
use Rattle.std.specs.Prelude.{ℕ, List, []}
use Rattle.rules.specs.State.{Session, State, Outcome, desc, lent}
use Rattle.rules.specs.Open.{create}
use Rattle.rules.specs.Run.{created_outcome}
pub use Rattle.face.specs.Counted.{Counted, counted, CountedOpen, counted_open, next}
use Rattle.searchfile.specs.declared.Session as code
use Rattle.searchfile.specs.Answers.{Answer}

-- a session of the code, field by field as "The session" names them [S1]
abbrev pub held : code.Session → Session
held s = record {
  desc = s.desc;
  opened = s.opened;
  current = s.current;
  flag = s.flag;
  placed = s.placed;
  position = s.position;
}

-- what a method is given: itself, and the words lent to it
abbrev pub given : code.Session → List ℕ → List ℕ → List ℕ → State
given s f b w = lent (held s) f b w

-- what a method gives back, with the words it leaves in file, buffer and workspace
abbrev pub answered : Answer → List ℕ → List ℕ → List ℕ → Counted
answered r f b w = record { number = r.number; transfers = r.transfers; after = given r.session f b w }

-- what OPEN gives back, with the marks it leaves
abbrev pub answered_open : Answer → List ℕ → List ℕ → List ℕ → CountedOpen
answered_open r f b m = record { outcome = answered r f b []; marks = m }

-- CREATE with the session's parameters: it "has no session", which stays as it is, and costs no transfer [S8, T2]
unfoldable pub creating : State → Outcome
creating st = created_outcome st (create (desc st) st.file)
