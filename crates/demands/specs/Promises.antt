-- Demand 2's sentences about the file and its blocks, over any calls from an OPEN that answers 0. Nothing is proved here.
use Rattle.std.specs.Prelude.{ℕ, ◌≤◌, true, false, ◌⊎◌, ◌≡◌, List}
use Rattle.numbers.specs.Numbers.{done, bad_file, at_end}
use Rattle.words.specs.Words.{all_words}
use Rattle.drum.specs.Blocks.{Block, block_at, written, writes}
use Rattle.layout.specs.Holds.{WellFormed}
use Rattle.rules.specs.State.{State, desc, texts}
use Rattle.rules.specs.Lookup.{flush_moves}
use Rattle.rules.specs.Open.{open_file}
use Rattle.rules.specs.Requests.{Request, seeking, advancing, answer, left}

-- P holds after each call of any run, "closing and reopening included", from an OPEN that answers 0: the calls qs may end anywhere [S7]
abbrev pub AfterOpen : (State → Type 0) → Type 0
AfterOpen P = (st : State) (marks : List ℕ) → (open_file st marks).outcome.number ≡ done → (qs : List Request) → P (left (open_file st marks).outcome.after qs)

-- the file with the buffer put back: "write the buffer if flagged" [T6]
abbrev pub put_back : State → List ℕ
put_back st = written (desc st) (flush_moves (texts st) st.session.flag) st.file

-- "no block is ever lost": the file with the buffer put back is as under Layout, so "Every block 1..N is reached once from the master, or on the
-- chain once, or at or above word 2, and only one of these"; and so is the file alone: a lost buffer loses records, never the file [L16]
abbrev pub EachBlockOnce : Type 0
EachBlockOnce = AfterOpen λ st. WellFormed (desc st) (put_back st) × WellFormed (desc st) st.file

-- no call finds the file bad: none answers 070003, open or closed [N5]
abbrev pub NoBadFile : Type 0
NoBadFile = AfterOpen λ st. (q : Request) → (answer st q).number ≡ bad_file → ⊥

-- "and none is above 262143": of the file's words; of the buffer's where a block is in it; of what SEEK answering 0 and ADV answering 0 or 030002
-- put into the workspace, whatever was lent
pub record Small (st : State) : Type 0 where
  pub file : all_words st.file ≡ true
  pub buffer : 1 ≤ st.session.current → all_words st.buffer ≡ true
  pub seek : (work : List ℕ) → (answer st (seeking work)).number ≡ done → all_words (answer st (seeking work)).after.work ≡ true
  pub adv : (work : List ℕ) → ((answer st (advancing work)).number ≡ done) ⊎ ((answer st (advancing work)).number ≡ at_end)
      → all_words (answer st (advancing work)).after.work ≡ true

-- after each call of any run from an OPEN that answers 0 [L9, W1]
abbrev pub WordsSmall : Type 0
WordsSmall = AfterOpen Small

-- a block that the list of transfers does not write is as it was: of any call on any words [T4]
abbrev pub OnlyWritten : Type 0
OnlyWritten = (st : State) (q : Request) (b : ℕ) → Block (desc st) b → writes (answer st q).transfers b ≡ false
    → block_at (desc st) (answer st q).after.file b ≡ block_at (desc st) st.file b
