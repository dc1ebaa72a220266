-- Rows of words, and tables with 0 behind their rows: the laws of table, under the names that are used here.
use Prim.Native.Nat.{ℕ}
use mathlib.Core.List.{List, ◌∷◌, ◌++◌}
use lib.ListN.{length}
use Rattle.words.specs.Words.{zeros}
unfoldable pub use Rattle.table.specs.Rows.{cat}
pub use Rattle.table.proofs.Rows.{Each, cat-append, length-cat, take-cat, drop-cat}
unfoldable pub use Rattle.table.proofs.RowSearch.{first_in}
pub use Rattle.table.proofs.RowSearch.{None, Found, nowhere, at, found}

-- the words of a table: the count, the other words of the front, the rows, z words 0, and what is behind
unfoldable pub tab : List ℕ → List (List ℕ) → ℕ → List ℕ → List ℕ
tab front rows z rest = length rows ∷ (front ++ (cat rows ++ (zeros z ++ rest)))
