-- The form of the copying call's promise, and that two results allowed by it are equal. Nothing is proved here.
use Rattle.std.specs.Prelude.{ℕ, ◌≡◌, List, []}
use Rattle.rules.specs.Copy.{Copying}
use Rattle.searchfile.specs.Answers.{Answer}
use Rattle.searchfile.specs.Promise.{Counted, counted, answered}

-- what a caller can see of it: the outcome, the second file and the marks [M5, M6]
pub record CountedCopy : Type 0 where
  pub outcome : Counted
  pub second : List ℕ
  pub marks : List ℕ

-- the outcome so seen [T3]
abbrev pub counted_copy : Copying → CountedCopy
counted_copy o = record { outcome = counted o.outcome; second = o.second; marks = o.marks }

-- what the method gives back, with the words it leaves in file, second file and marks
abbrev pub answered_copy : Answer → List ℕ → List ℕ → List ℕ → CountedCopy
answered_copy r f second m = record { outcome = answered r f [] []; second = second; marks = m }

-- "Two results allowed by one promise are proved equal": the answer with its session, and every word lent
abbrev pub OneCopied : Type 0
OneCopied =
    (o : Copying) (r s : Answer) (f g x y m n : List ℕ) → answered_copy r f x m ≡ counted_copy o → answered_copy s g y n ≡ counted_copy o
    → (r ≡ s) × (f ≡ g) × (x ≡ y) × (m ≡ n)
