-- Salvage of a copy that is not broken. Nothing is proved here.
use Rattle.std.specs.Prelude.{ℕ, ◌≡◌, ◌⊎◌, List}
use Rattle.drum.specs.declared.Description.{Description}
use Rattle.layout.specs.Tree.{Tree, contents}
use Rattle.layout.specs.Holds.{All, Holds}
use Rattle.salvage.specs.Met.{not_marked}
use Rattle.salvage.specs.Salvage.{salvage}
use Rattle.salvaged.specs.Spots.{Lent}
use Rattle.salvaged.specs.Carried.{OfCall, OpensWith}
use Rattle.salvaged.specs.Reported.{Line, lines_of}

-- of a copy that is well-formed in the second form no line has a reason of 2..5: each says that a block is not "marked detail", as no index block, free block
-- and block never used is, or that a record "lacked room" [Z2, Z5, K2]
abbrev pub NoFaults : Type 0
NoFaults =
    (p : Description) (copy buffer : List ℕ) (t : Tree) → Lent p copy buffer → p.form ≡ 2 → Holds p copy t
    → All (λ (l : Line). (l.reason ≡ not_marked) ⊎ (l.reason ≡ 6)) (lines_of p copy buffer)

-- and where no record lacked room either, the fresh file opens with the records of the copy: all of them, and no other [Z4, Z8]
abbrev pub GoodFileWhole : Type 0
GoodFileWhole = OfCall λ p copy fresh buffer report. (t : Tree) → p.form ≡ 2 → Holds p copy t
    → All (λ (l : Line). l.reason ≡ 6 → ⊥) (lines_of p copy buffer)
    → OpensWith p (salvage p copy fresh buffer report).fresh (contents t)
