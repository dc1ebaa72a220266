-- What a caller can see of a call: one side of every public promise.
use Rattle.std.specs.Prelude.{ℕ, cond, List, length}
use Rattle.rules.specs.declared.Done.{Done}
use Rattle.rules.specs.State.{Session, State, Outcome, key_in, holding, positioned}
use Rattle.rules.specs.Open.{Opened}

-- an outcome as a caller can see it: "Each result carries its count, which is the length of the list" [T3]
pub record Counted : Type 0 where
  pub number : ℕ
  pub transfers : ℕ
  pub after : State

-- the outcome so seen [T3]
abbrev pub counted : Outcome → Counted
counted o = record { number = o.number; transfers = length o.transfers; after = o.after }

-- the same of OPEN, with its marks
pub record CountedOpen : Type 0 where
  pub outcome : Counted
  pub marks : List ℕ

-- OPEN's outcome so seen [T3]
abbrev pub counted_open : Opened → CountedOpen
counted_open o = record { outcome = counted o.outcome; marks = o.marks }

-- the session of an answer: with the current block and flag that the steps leave, and position the key that stands first in the workspace where
-- they say so [C33]
abbrev pub next : Session → Done → List ℕ → Session
next s d w =
    let here = holding d.current d.flag s in
    cond d.keyed (positioned (key_in s.desc w) here) here
