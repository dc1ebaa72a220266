-- A run of reading calls, "each given what the last left", and what it answers over the records of the file. Nothing is proved here.
use Rattle.std.specs.Prelude.{◌≡◌, List, [], ◌∷◌, ℕ}
use Rattle.numbers.specs.Numbers.{done}
use Rattle.layout.specs.Tree.{Tree, contents}
use Rattle.layout.specs.Holds.{Holds}
use Rattle.rules.specs.State.{State, Outcome, desc, key_in}
use Rattle.rules.specs.Requests.{lending}
use Rattle.demands.specs.History.{with_key}
use Rattle.demands.specs.Answers.{Lent, Keyed, ordinary, above_position, Sought, Advanced}
use Rattle.reading.specs.declared.ReadingSession.{ReadingSession}
use Rattle.reading.specs.Reading.{given, read_open, read_close, read_seek, read_adv, read_alter}

-- a call of a reading session, with the words lent to it: OPEN's marks, or the workspace; the four altering calls are one [V1, V6]
pub data Reading : Type 0 where
  opening : List ℕ → Reading
  closing : Reading
  seeking advancing altering : List ℕ → Reading

-- what it does
unfoldable pub read : State → Reading → Outcome
read st (opening marks) = (read_open st marks).outcome
read st closing = read_close st
read st (seeking work) = read_seek (lending work st)
read st (advancing work) = read_adv (lending work st)
read st (altering work) = read_alter (lending work st)

-- the state that a run leaves
unfoldable pub read_left : State → List Reading → State
read_left st [] = st
read_left st (q ∷ qs) = read_left (read st q).after qs

-- the file is f, and these are its records: SEEK finds a key exactly where one of them has it, ADV goes through them [V1, V7]
pub record ReadsRight (f : List ℕ) (rows : List (List ℕ)) (st : State) : Type 0 where
  pub file : st.file ≡ f
  pub seek : (work : List ℕ) → Keyed st (desc st).k work → Sought work (with_key (desc st) (key_in (desc st) work) rows) (read st (seeking work))
  pub adv : (work : List ℕ) → Lent st work → Advanced (desc st) (ordinary (desc st) (above_position st.session rows)) (read st (advancing work))

-- after each call of any run from an OPEN of the reading set that answers 0, closing and reopening included [V7, S7]
abbrev pub ReadingRun : Type 0
ReadingRun =
    (s : ReadingSession) (f b w marks : List ℕ) → (read_open (given s f b w) marks).outcome.number ≡ done
    → (t : Tree) × Holds s.desc f t
    × ((qs : List Reading) → ReadsRight f (contents t) (read_left (read_open (given s f b w) marks).outcome.after qs))
