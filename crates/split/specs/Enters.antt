-- What the code asks of a table before an entry of it becomes two.
use Rattle.std.specs.Prelude.{ℕ, ◌+◌, ◌≤◌, ◌<◌, List, length}
use Rattle.table.specs.declared.Shape.{Shape}
use Rattle.table.specs.Tables.{count, place}
use Rattle.drum.specs.declared.Description.{Description}
use Rattle.drum.specs.Params.{I, index_shape}
use Rattle.drum.specs.Blocks.{block_at}
use Rattle.drum.specs.Inside.{HasBlock}

-- a table with room, whose entry i can become two [C13]
pub record Enters (h : Shape) (i : ℕ) (t : List ℕ) : Type 0 where
  pub counted : 1 ≤ h.base
  pub key-within : h.width < h.stride
  pub room : place h (count h t) + h.stride ≤ length t
  pub below : i < count h t
  pub count_most : h.tag + count h t < 262143

-- an index block with room, of the file, whose entry i can become two [C13, L5]
pub record EntersIn (p : Description) (f : List ℕ) (x i : ℕ) : Type 0 where
  pub held : HasBlock p f x
  pub below : i < count (index_shape p) (block_at p f x)
  pub room : count (index_shape p) (block_at p f x) < I p
