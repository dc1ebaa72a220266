-- The form of the turning call's promise, and that two results allowed by it are equal. Nothing is proved here.
use Rattle.std.specs.Prelude.{ℕ, ◌≡◌, List, []}
use Rattle.rules.specs.Turning.{TurnedFile}
use Rattle.searchfile.specs.Answers.{Answer}
use Rattle.searchfile.specs.Promise.{Counted, counted, answered}

-- what a caller can see of it: the outcome and the marks [K6]
pub record CountedTurn : Type 0 where
  pub outcome : Counted
  pub marks : List ℕ

-- the outcome so seen [T3]
abbrev pub counted_turn : TurnedFile → CountedTurn
counted_turn o = record { outcome = counted o.outcome; marks = o.marks }

-- what the method gives back, with the words it leaves in file and marks
abbrev pub answered_turn : Answer → List ℕ → List ℕ → CountedTurn
answered_turn r f m = record { outcome = answered r f [] []; marks = m }

-- "Two results allowed by one promise are proved equal": the answer with its session, and every word lent
abbrev pub OneTurned : Type 0
OneTurned =
    (o : TurnedFile) (r s : Answer) (f g m n : List ℕ) → answered_turn r f m ≡ counted_turn o → answered_turn s g n ≡ counted_turn o
    → (r ≡ s) × (f ≡ g) × (m ≡ n)
