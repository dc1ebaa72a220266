-- For the code's contracts: where a record lies that is to be written or read.
use Rattle.std.specs.Prelude.{◌≡◌, true, ℕ, ◌+◌, ◌≤◌, ◌<◌}
use Rattle.sequential.specs.declared.Layout.{Layout}
use Rattle.sequential.specs.declared.Place.{Place}
use Rattle.sequential.specs.declared.Row.{Row}
use Rattle.sequential.specs.Rows.{area, good_layout, whole, blocks}

-- a good layout
pub record Fine (l : Layout) : Type 0 where
  pub good : good_layout l ≡ true

-- a place in a block of a file of so many words
pub record InBlock (l : Layout) (q : Place) (file : ℕ) : Type 0 where
  pub sized : whole l file ≡ true
  pub block : q.block < blocks l file

-- a word of the data area, for a file of so many words
pub record InArea (l : Layout) (q : Place) (file : ℕ) : Type 0 where
  pub sized : whole l file ≡ true
  pub word : q.at < area l

-- a place in the data area of a block of a file of so many words
pub record Inside (l : Layout) (q : Place) (file : ℕ) : Type 0 where
  pub sized : whole l file ≡ true
  pub block : q.block < blocks l file
  pub word : q.at < area l

-- a record that lies in the data area of a block of a file of so many words
pub record LiesIn (l : Layout) (r : Row) (file : ℕ) : Type 0 where
  pub sized : whole l file ≡ true
  pub block : r.place.block < blocks l file
  pub least : 1 ≤ r.words
  pub most : r.place.at + r.words ≤ area l
