-- What a change of a block where it lies asks.
use Rattle.std.specs.Prelude.{ℕ, ◌+◌, ◌≤◌, ◌<◌, ◌≡◌, true, List, length}
use Rattle.table.specs.declared.Shape.{Shape}
use Rattle.table.specs.Tables.{count, place}
use Rattle.drum.specs.declared.Description.{Description}
use Rattle.drum.specs.Params.{file_size, good_params}

-- a file of the right length, and the number of one of its blocks [P8, P10]
pub record HasBlock (p : Description) (f : List ℕ) (b : ℕ) : Type 0 where
  pub good : good_params p ≡ true
  pub file-is : length f ≡ file_size p
  pub least : 1 ≤ b
  pub most : b ≤ p.n

-- a table with room for one row more, which can be put in at place i
pub record Takes (h : Shape) (i : ℕ) (t : List ℕ) : Type 0 where
  pub counted : 1 ≤ h.base
  pub room : place h (count h t) + h.stride ≤ length t
  pub place-most : i ≤ count h t
  pub count_most : h.tag + count h t < 262143
