-- What salvage reports. Nothing is proved here.
use Rattle.std.specs.Prelude.{ℕ, ◌+◌, ◌≡◌, cond, ◌&&◌, List, [], ◌∷◌, ◌++◌, eqb, length}
use Rattle.numbers.specs.Numbers.{accepted}
use Rattle.words.specs.Words.{put}
use Rattle.words.specs.Keys.{is_ones}
use Rattle.drum.specs.declared.Description.{Description}
use Rattle.drum.specs.Blocks.{Block, block_at}
use Rattle.rules.specs.State.{State, key_in}
use Rattle.rules.specs.Requests.{inserting, answer}
use Rattle.salvage.specs.Met.{Met, over, found, missed, met}
use Rattle.salvage.specs.Salvage.{why_not, salvage}
use Rattle.salvaged.specs.Spots.{Spot, spots_of, started, tried_after, carried_of}
use Rattle.salvaged.specs.Carried.{OfCall}

-- a line: "block, place" and the reason [Z5]
pub record Line : Type 0 where
  pub block : ℕ
  pub place : ℕ
  pub reason : ℕ

-- the lines of what is met, from the state st on: "one line per block passed over, with its reason, and one per record not carried" [Z5]
unfoldable pub lines_by : Description → State → List Met → List Line
lines_by p st [] = []
lines_by p st (over b reason ∷ ms) = record { block = b; place = 0; reason = reason } ∷ lines_by p st ms
lines_by p st (found b i r ∷ ms) =
    let o = answer st (inserting r) in
    cond (is_ones (key_in p r)) (lines_by p st ms)
    (cond (accepted o.number) (lines_by p o.after ms) (record { block = b; place = i; reason = why_not o.number } ∷ lines_by p o.after ms))

-- the lines of a call [Z5]
abbrev pub lines_of : Description → List ℕ → List ℕ → List Line
lines_of p copy buffer = lines_by p (started p buffer) (met p copy)

-- their words: three each [Z5]
unfoldable pub line_words : List Line → List ℕ
line_words [] = []
line_words (l ∷ ls) = l.block ∷ l.place ∷ l.reason ∷ line_words ls

-- the lines with this block and place
unfoldable pub lines_at : ℕ → ℕ → List Line → List Line
lines_at b i [] = []
lines_at b i (l ∷ ls) = cond (eqb l.block b && eqb l.place i) (l ∷ lines_at b i ls) (lines_at b i ls)

-- the report is these lines, and then its old words; the call tells how many they are [Z5]
abbrev pub ReportIs : Type 0
ReportIs = OfCall λ p copy fresh buffer report.
    let o = salvage p copy fresh buffer report in
    (o.report ≡ put report 0 (line_words (lines_of p copy buffer))) × (o.lines ≡ length (lines_of p copy buffer))

-- the blocks passed over among what is met
unfoldable pub passed_over : List Met → ℕ
passed_over [] = 0
passed_over (over b reason ∷ ms) = 1 + passed_over ms
passed_over (found b i r ∷ ms) = passed_over ms

-- "Every ordinary record in a block not passed over is carried or reported, never both", by place; each block passed over has its line [Z8]
pub record Reported (p : Description) (copy buffer : List ℕ) : Type 0 where
  -- a record whose own NSERT is accepted has no line with its block and place; any other has one, with the reason
  pub records : (xs ys : List Spot) (s : Spot) → spots_of p copy ≡ xs ++ s ∷ ys
      → let n = (tried_after (started p buffer) xs s).number in
      lines_at s.block s.place (lines_of p copy buffer)
      ≡ cond (accepted n) [] (record { block = s.block; place = s.place; reason = why_not n } ∷ [])
  -- the line with place 0 of each block that is passed over, with the first test missed; no other block has one
  pub blocks : (b : ℕ) → Block p b
      → let m = missed p (block_at p copy b) in
      lines_at b 0 (lines_of p copy buffer) ≡ cond (eqb m 0) [] (record { block = b; place = 0; reason = m } ∷ [])
  -- and there is no other line
  pub count : length (lines_of p copy buffer) + length (carried_of (started p buffer) (spots_of p copy)) ≡ length (spots_of p copy) + passed_over (met p copy)

-- of every copy
abbrev pub CarriedOrReported : Type 0
CarriedOrReported = (p : Description) (copy buffer : List ℕ) → Reported p copy buffer
