-- Document 02, "Blocks that say what they are": when the turning call answers which number and what it leaves, that what it left opens, and that it is turned
-- back without loss. Nothing is proved here.
use Rattle.std.specs.Prelude.{ℕ, ◌≡◌, Bool, true, false, List, length}
use Rattle.numbers.specs.Numbers.{done, wrong_size, already_open, bad_file}
use Rattle.words.specs.Words.{zeros}
use Rattle.drum.specs.declared.Description.{Description}
use Rattle.layout.specs.Tree.{Tree, marks_of}
use Rattle.layout.specs.Holds.{Holds, WellFormed}
use Rattle.layout.specs.Turned.{other_form, turned}
use Rattle.rules.specs.State.{Session, lent}
use Rattle.rules.specs.Open.{open_file}
use Rattle.rules.specs.Copies.{OpensWith}
use Rattle.rules.specs.Turning.{turn_left, turn_sizes, turning}

-- of all words, which number comes and what it leaves: the four cases leave no other [K5, K6]
pub record TurnExact (p : Description) (opened : Bool) (f marks : List ℕ) : Type 0 where
  pub sizes : turn_sizes p (length f) (length marks) ≡ false → turning p opened f marks ≡ turn_left wrong_size p f marks
  pub open-already : turn_sizes p (length f) (length marks) ≡ true → opened ≡ true → turning p opened f marks ≡ turn_left already_open p f marks
  pub not-layout : turn_sizes p (length f) (length marks) ≡ true → opened ≡ false → (WellFormed p f → ⊥)
      → turning p opened f marks ≡ turn_left bad_file p f (zeros p.n)
  pub made : turn_sizes p (length f) (length marks) ≡ true → opened ≡ false → (t : Tree) → Holds p f t
      → turning p opened f marks ≡ turn_left done (other_form p) (turned p (marks_of t p.n) f) (marks_of t p.n)
  -- answering 0, nothing was wrong
  pub only : (turning p opened f marks).number ≡ done → (turn_sizes p (length f) (length marks) ≡ true) × (opened ≡ false) × WellFormed p f

-- answering 0 it leaves the marks with which the file opened as it was, and with which it opens as it is, by any closed session with the parameters it
-- left, any buffer of the right length and any workspace [K5, S6]
abbrev pub TurnedOpens : Type 0
TurnedOpens =
    (p : Description) (opened : Bool) (f marks : List ℕ) → (turning p opened f marks).number ≡ done
    → (fresh : Session) (buffer work others : List ℕ) → fresh.opened ≡ false → length buffer ≡ p.wpb → length others ≡ p.n
    → let r = turning p opened f marks in
    (fresh.desc ≡ p → OpensWith (open_file (lent fresh f buffer work) others) r.marks)
    × (fresh.desc ≡ r.desc → OpensWith (open_file (lent fresh r.file buffer work) others) r.marks)

-- "and back without loss": called again on what it left, it answers 0 and leaves parameters and file as they were [K5]
abbrev pub TurnedBack : Type 0
TurnedBack =
    (p : Description) (opened : Bool) (f marks others : List ℕ) → (turning p opened f marks).number ≡ done → length others ≡ p.n
    → let r = turning p opened f marks in turning r.desc opened r.file others ≡ turn_left done p f r.marks
