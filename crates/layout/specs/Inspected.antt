-- How the inspector's functions answer, for what a step of the definition gives.
use Rattle.std.specs.Prelude.{ℕ, ◌+◌, ◌*◌, ◌≤◌, ◌≡◌, Bool, true, false, Result, Ok, Err, List, length}
use Rattle.numbers.specs.declared.Refusal.{Refusal}
use Rattle.drum.specs.declared.Description.{Description}
use Rattle.words.specs.Words.{zeros}
use Rattle.numbers.specs.Numbers.{bad_file}
use Rattle.drum.specs.Params.{good_params, file_size}
use Rattle.drum.specs.Blocks.{sections, lowest_unused}
use Rattle.numbers.specs.Checked.{Checked, passed, refused}

-- true, and the marks left are those of the step; false, and they mean nothing
abbrev pub flagged : Bool → List ℕ → Checked (List ℕ)
flagged true ms = passed ms
flagged false ms = refused bad_file

-- what a function of the walk finds; whatever it refuses, the file is bad
abbrev pub found : {A : Type 0} → Result A Refusal → Checked A
found (Ok a) = passed a
found (Err r) = refused bad_file

-- and of one that marks: Ok, and the marks left are those of the step; else they mean nothing
abbrev pub stepped : Result (Unit {0}) Refusal → List ℕ → Checked (List ℕ)
stepped (Ok _) ms = passed ms
stepped (Err r) ms = refused bad_file

-- good parameters, and the file's length
pub record Fit (p : Description) (f : List ℕ) : Type 0 where
  pub good : good_params p ≡ true
  pub size : length f ≡ file_size p

-- the master's numbers in range: "sections outside 1..CONTROL" are bad, and the lowest block never used is one of 1..N+1 [B1, L3]
pub record Ranged (p : Description) (f : List ℕ) : Type 0 where
  pub sections-least : 1 ≤ sections f
  pub sections-most : sections f ≤ p.control
  pub lowest-least : 1 ≤ lowest_unused f
  pub lowest-most : lowest_unused f ≤ p.n + 1

-- the marks that the inspector leaves: "answering 070003 it leaves all 0" [S6]
unfoldable pub left_marks : ℕ → Checked (List ℕ) → List ℕ
left_marks n (refused m) = zeros n
left_marks n (passed ms) = ms

-- a key at this place lies wherever the one at `low` and the n rows from place e on do
abbrev pub Lies : ℕ → ℕ → ℕ → ℕ → ℕ → Type 0
Lies low e stride n place = (k z : ℕ) → k ≤ stride → low + k ≤ z → e + n * stride ≤ z → place + k ≤ z
