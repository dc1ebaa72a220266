-- The blocks that a list of transfers names. Document 01, "Bad .. are: .. a new block equal to any other block in the call's list of
-- transfers".
use Rattle.std.specs.Prelude.{ℕ, Bool, false, cond, not, ◌||◌, List, [], ◌∷◌, eqb}
use Rattle.drum.specs.Blocks.{Transfer, Read, Write}

-- the block that is read or written
abbrev pub block_of : Transfer → ℕ
block_of (Read b) = b
block_of (Write b t) = b

-- whether a transfer of the list is of block b [B5]
unfoldable pub names : List Transfer → ℕ → Bool
names [] b = false
names (m ∷ l) b = eqb b (block_of m) || names l b

-- whether one transfer of the list is of block b, and no other
unfoldable pub once : List Transfer → ℕ → Bool
once [] b = false
once (m ∷ l) b = cond (eqb b (block_of m)) (not (names l b)) (once l b)
