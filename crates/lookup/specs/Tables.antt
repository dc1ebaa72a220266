-- What the code asks of a table before it takes an entry of it.
use Rattle.std.specs.Prelude.{ℕ, ◌+◌, ◌≤◌, ◌≡◌, List, length}
use Rattle.table.specs.declared.Shape.{Shape}
use Rattle.table.specs.Tables.{count, place}
use Rattle.drum.specs.declared.Description.{Description}

-- the table t of at most `most` entries, each a bound of K words and a block, and a key [L4, L5]
pub record Entries (p : Description) (h : Shape) (most : ℕ) (t key : List ℕ) : Type 0 where
  pub base-least : 1 ≤ h.base
  pub width_is : h.width ≡ p.k
  pub stride-is : h.stride ≡ p.k + 1
  pub room : place h most ≤ length t
  pub key-long : p.k ≤ length key

-- the table t of n rows, and a key
pub record CountedRows (h : Shape) (t : List ℕ) (n : ℕ) (key : List ℕ) : Type 0 where
  pub counted : n ≡ count h t
  pub some : 1 ≤ n
  pub room : place h n ≤ length t
  pub width-least : h.width ≤ h.stride
  pub key-long : h.width ≤ length key
