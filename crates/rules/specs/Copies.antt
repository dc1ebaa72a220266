-- Document 02, "More sections": when the copying call answers which number and what it leaves, and that the copy opens. Nothing is proved here.
use Rattle.std.specs.Prelude.{ℕ, ◌≡◌, Bool, true, false, List, length}
use Rattle.numbers.specs.Numbers.{done, wrong_size, already_open, bad_file}
use Rattle.words.specs.Words.{zeros}
use Rattle.drum.specs.declared.Description.{Description}
use Rattle.layout.specs.Tree.{Tree, marks_of}
use Rattle.layout.specs.Holds.{Holds, WellFormed}
use Rattle.layout.specs.Copied.{under_control, copied}
use Rattle.rules.specs.State.{Session, lent}
use Rattle.rules.specs.Open.{Opened, open_file}
use Rattle.rules.specs.Copy.{copy_left, copy_sizes, copy}

-- of all words, which number comes and what it leaves: the four cases leave no other [M3, M4, M5, M6]
pub record CopyExact (p : Description) (opened : Bool) (c : ℕ) (f second marks : List ℕ) : Type 0 where
  pub sizes : copy_sizes p c f (length second) (length marks) ≡ false → copy p opened c f second marks ≡ copy_left wrong_size second marks
  pub open-already : copy_sizes p c f (length second) (length marks) ≡ true → opened ≡ true
      → copy p opened c f second marks ≡ copy_left already_open second marks
  pub not-layout : copy_sizes p c f (length second) (length marks) ≡ true → opened ≡ false → (WellFormed p f → ⊥)
      → copy p opened c f second marks ≡ copy_left bad_file second (zeros p.n)
  pub made : copy_sizes p c f (length second) (length marks) ≡ true → opened ≡ false → (t : Tree) → Holds p f t
      → copy p opened c f second marks ≡ copy_left done (copied c p f) (marks_of t p.n)
  -- answering 0, nothing was wrong
  pub only : (copy p opened c f second marks).number ≡ done
      → (copy_sizes p c f (length second) (length marks) ≡ true) × (opened ≡ false) × WellFormed p f

-- OPEN answers 0, with these marks
abbrev pub OpensWith : Opened → List ℕ → Type 0
OpensWith o marks = (o.outcome.number ≡ done) × (o.marks ≡ marks)

-- answering 0 it leaves the marks with which the first file opens under its own CONTROL, and the second under the new one, by any closed session, any buffer of
-- the right length and any workspace [M1, S6]
abbrev pub CopyOpens : Type 0
CopyOpens =
    (p : Description) (opened : Bool) (c : ℕ) (f second marks : List ℕ) → (copy p opened c f second marks).number ≡ done
    → (fresh : Session) (buffer work others : List ℕ) → fresh.opened ≡ false → length buffer ≡ p.wpb → length others ≡ p.n
    → let r = copy p opened c f second marks in
    (fresh.desc ≡ p → OpensWith (open_file (lent fresh f buffer work) others) r.marks)
    × (fresh.desc ≡ under_control c p → OpensWith (open_file (lent fresh r.second buffer work) others) r.marks)
