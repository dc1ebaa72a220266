-- What the code of the register tests before it calls the routine, what its moves may rely on, and the form of their promises.
use Rattle.std.specs.Prelude.{ℕ, ◌+◌, ◌≤◌, ◌<◌, ◌≡◌, Bool, List, eqb, ltb, length}
use Rattle.numbers.specs.Numbers.{wrong_size, wrong_key}
use Rattle.numbers.specs.Checked.{Checked, ◌>>◌, require}
use Rattle.words.specs.Words.{all_words}
use Rattle.drum.specs.declared.Description.{Description}
use Rattle.rules.specs.State.{Outcome}
use Rattle.searchfile.specs.Answers.{Answer}
use Rattle.searchfile.specs.Promise.{Counted}
use Rattle.face.specs.Checks.{keyed_checks}
use Rattle.register.specs.Names.{spelling_size}

-- 020007, 020005, 030001: of a call on a name [G10, G12]
unfoldable pub name_checks : Description → Bool → ℕ → ℕ → List ℕ → Checked Bool
name_checks p opened file buffer work = do
  require (ltb p.k p.wpr) wrong_size
  keyed_checks p opened file buffer work p.k

-- the same where a spelling is given [G11, G12]
unfoldable pub spelled_checks : Description → Bool → ℕ → ℕ → List ℕ → List ℕ → Checked Bool
spelled_checks p opened file buffer work spelling = do
  require (eqb (length spelling) (spelling_size p)) wrong_size
  name_checks p opened file buffer work
  require (all_words spelling) wrong_key

-- the workspace is a record with a key of 1..63 words and a data word
pub record StateFits (p : Description) (work : List ℕ) : Type 0 where
  pub key-few : p.k ≤ 63
  pub data-word : p.k < p.wpr
  pub whole : length work ≡ p.wpr

-- and the spelling is as long as the record's
pub record SpellingFits (p : Description) (work spelling : List ℕ) : Type 0 where
  pub state : StateFits p work
  pub as_long : length spelling ≡ spelling_size p

-- another number for an answer
abbrev pub stopped_by : ℕ → Answer → Answer
stopped_by n a = record { number = n; transfers = a.transfers; session = a.session }

-- an outcome as a caller can see it after so many transfers [T3]
abbrev pub after : ℕ → Outcome → Counted
after n o = record { number = o.number; transfers = n + length o.transfers; after = o.after }
