-- Document 02, "The reading set": which trees stand in the files that it opens, and that XTEND makes such files. Nothing is proved here.
use Rattle.std.specs.Prelude.{ℕ, ◌≡◌, true, false, List, [], length}
use Rattle.numbers.specs.Numbers.{done, bad_file}
use Rattle.words.specs.Words.{zeros}
use Rattle.drum.specs.declared.Description.{Description}
use Rattle.drum.specs.Params.{sized}
use Rattle.layout.specs.Tree.{Tree, leaves_of, marks_of}
use Rattle.layout.specs.Holds.{Holds}
use Rattle.rules.specs.State.{Session, State, desc, lent}
use Rattle.rules.specs.Open.{create, open_file}
use Rattle.rules.specs.Close.{close}
use Rattle.rules.specs.Requests.{Request, left}
use Rattle.demands.specs.Promises.{put_back}
use Rattle.demands.specs.Filled.{ButLast, OneInOrder, Full, Any, OnlyXtends}
use Rattle.reading.specs.declared.ReadingSession.{ReadingSession}
use Rattle.reading.specs.Reading.{given, read_open}

-- "a file in which every detail block but the last holds exactly FD records and block numbers follow key order" [V2, V3]
pub record Finished (p : Description) (t : Tree) : Type 0 where
  -- "CONTROL 1": one section
  pub one : length t.sections ≡ 1
  -- "index 1, details 2 upwards"
  pub order : OneInOrder t.sections
  -- "every detail block but the last holds exactly FD records"
  pub details : ButLast (Full p) Any (leaves_of t)
  -- "no free chain"
  pub chain : t.chain ≡ []

-- "opening answers 070003 for any other file": of a closed session with right sizes [V5]
pub record OpensFinished (s : ReadingSession) (f b w marks : List ℕ) : Type 0 where
  -- a finished file opens, with the marks of its tree
  pub opens : (t : Tree) → Holds s.desc f t → Finished s.desc t
      → ((read_open (given s f b w) marks).outcome.number ≡ done) × ((read_open (given s f b w) marks).marks ≡ marks_of t s.desc.n)
  -- what opens is finished
  pub only : (read_open (given s f b w) marks).outcome.number ≡ done → (t : Tree) × Holds s.desc f t × Finished s.desc t
  -- all else is 070003, the marks all 0
  pub refuses : ((read_open (given s f b w) marks).outcome.number ≡ done → ⊥)
      → ((read_open (given s f b w) marks).outcome.number ≡ bad_file) × ((read_open (given s f b w) marks).marks ≡ zeros s.desc.n)

-- for all words [V5]
abbrev pub ReadingOpens : Type 0
ReadingOpens =
    (s : ReadingSession) (f b w marks : List ℕ) → s.desc.control ≡ 1 → sized s.desc (length f) (length b) ≡ true → length marks ≡ s.desc.n
    → s.opened ≡ false → OpensFinished s f b w marks

-- the tree of the file with the buffer put back is finished while one section is in use
abbrev pub FinishedWhileOne : State → Type 0
FinishedWhileOne st = (t : Tree) × Holds (desc st) (put_back st) t × (length t.sections ≡ 1 → Finished (desc st) t)

-- "XTEND from a fresh file makes such a file while one section lasts": from a CREATE and then an OPEN that both answer 0, any calls of which no NSERT and no
-- DLETE is accepted [V8]
pub record ExtendedFinished (session : Session) (f buffer work marks : List ℕ) : Type 0 where
  pub lasts : let made = (open_file (lent session (create session.desc f).file buffer work) marks).outcome.after in
      (qs : List Request) → OnlyXtends made qs → FinishedWhileOne (left made qs)
  -- with CONTROL 1 that is for ever: after a CLOSE that answers 0 the reading set's OPEN answers 0
  pub opens : let made = (open_file (lent session (create session.desc f).file buffer work) marks).outcome.after in
      session.desc.control ≡ 1 → (qs : List Request) → OnlyXtends made qs → (close (left made qs)).number ≡ done
      → (r : ReadingSession) (b w ms : List ℕ) → r.desc ≡ session.desc → r.opened ≡ false → length b ≡ r.desc.wpb → length ms ≡ r.desc.n
      → (read_open (given r (close (left made qs)).after.file b w) ms).outcome.number ≡ done

-- of every fresh file [V8]
abbrev pub AllExtended : Type 0
AllExtended =
    (session : Session) (f buffer work marks : List ℕ) → (create session.desc f).number ≡ done
    → (open_file (lent session (create session.desc f).file buffer work) marks).outcome.number ≡ done → ExtendedFinished session f buffer work marks
