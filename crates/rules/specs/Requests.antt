-- A run of calls, "each given what the last left": "its parameters, file, buffer and session, with no new CREATE". The workspace, and
-- OPEN's marks, are lent anew.
use Rattle.std.specs.Prelude.{ℕ, ◌+◌, List, [], ◌∷◌}
use Rattle.rules.specs.State.{State, Outcome, lent}
use Rattle.rules.specs.Open.{open_file}
use Rattle.rules.specs.Close.{close}
use Rattle.rules.specs.Seek.{seek, updat}
use Rattle.rules.specs.Adv.{adv}
use Rattle.rules.specs.NsertDone.{nsert}
use Rattle.rules.specs.Dlete.{dlete}
use Rattle.rules.specs.XtendDone.{xtend}

-- a call of a session, with the words lent to it: OPEN's marks, or the workspace [S7]
pub data Request : Type 0 where
  opening : List ℕ → Request
  closing : Request
  seeking advancing inserting deleting updating extending : List ℕ → Request

-- a state like st, with another workspace
unfoldable pub lending : List ℕ → State → State
lending work st = lent st.session st.file st.buffer work

-- what the call is given
unfoldable pub given : State → Request → State
given st (opening marks) = st
given st closing = st
given st (seeking work) = lending work st
given st (advancing work) = lending work st
given st (inserting work) = lending work st
given st (deleting work) = lending work st
given st (updating work) = lending work st
given st (extending work) = lending work st

-- what it does
unfoldable pub answer : State → Request → Outcome
answer st (opening marks) = (open_file st marks).outcome
answer st closing = close st
answer st (seeking work) = seek (lending work st)
answer st (advancing work) = adv (lending work st)
answer st (inserting work) = nsert (lending work st)
answer st (deleting work) = dlete (lending work st)
answer st (updating work) = updat (lending work st)
answer st (extending work) = xtend (lending work st)

-- the state that a run of calls leaves [S7]
unfoldable pub left : State → List Request → State
left st [] = st
left st (q ∷ qs) = left (answer st q).after qs

-- a number of each call of a run, summed: of the state it is given, the call, and what it does
unfoldable pub tally : (State → Request → Outcome → ℕ) → State → List Request → ℕ
tally value st [] = 0
tally value st (q ∷ qs) = let o = answer st q in value st q o + tally value o.after qs
