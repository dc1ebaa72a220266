-- A table as what it is made of: the words before its rows, the rows, and what stands behind them.
use Rattle.std.specs.Prelude.{ℕ, ◌+◌, List, [], ◌∷◌, ◌++◌, length}
use Rattle.table.specs.declared.Shape.{Shape}
use Rattle.table.specs.Tables.{laid}

-- the words of rows, one row after the other
unfoldable pub cat : List (List ℕ) → List ℕ
cat [] = []
cat (r ∷ rows) = r ++ cat rows

-- the words of a table: of a master the three words before its entries, of a block its count, then the rows, then what is behind
unfoldable pub encode : List ℕ → List (List ℕ) → List ℕ → List ℕ
encode front rows pad = front ++ (cat rows ++ pad)

-- a block of w words that holds the rows: "word 0 count", after its tag, the rows, "All other words are 0" [L5, L6, L8]
unfoldable pub table : Shape → ℕ → List (List ℕ) → List ℕ
table h w rows = laid w (h.tag + length rows) (cat rows)
