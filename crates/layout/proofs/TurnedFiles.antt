-- A file in both forms, and what OPEN's test says of wrong kinds, by computation, at WPB 8, WPR 3, K 1, SPACE 0, CONTROL 2, N 6.
use Prim.Native.Nat.{ℕ}
use mathlib.Core.Path.{◌≡◌, refl}
use mathlib.Core.List.{List, [], ◌∷◌, ◌++◌}
use Rattle.words.specs.Words.{zeros, top_word}
use Rattle.numbers.specs.Numbers.{bad_file}
use Rattle.numbers.specs.Checked.{passed, refused}
use Rattle.table.specs.Tables.{count, block_in, laid}
use Rattle.drum.specs.Params.{master_shape}
use Rattle.drum.specs.Blocks.{free_text}
use Rattle.layout.specs.Inspect.{layout_marks}
use Rattle.layout.specs.Turned.{other_form, index_marked, turned_index, turned_detail, turned_free, turned_text, turned_blocks, turned}
use Rattle.layout.proofs.Refused.{small, testing, file, master, index, end, record20}

-- opens the definitions that turning is made of
unfoldable turning : ℕ
unfolding testing count block_in laid master_shape free_text other_form index_marked turned_index turned_detail turned_free turned_text turned_blocks turned
turning = 0

-- the good file of the first form in the second: block 1 an index block, 2 chained, 3 and 4 detail blocks, 5 and 6 never used
abbrev index₂ : List ℕ
index₂ = 4098 ∷ 20 ∷ 4 ∷ top_word ∷ 3 ∷ 0 ∷ 0 ∷ 0 ∷ []

abbrev end₂ : List ℕ
end₂ = 8193 ∷ top_word ∷ 0 ∷ 0 ∷ 0 ∷ 0 ∷ 0 ∷ 0 ∷ []

abbrev record₂ : List ℕ
record₂ = 8193 ∷ 20 ∷ 3 ∷ 4 ∷ 0 ∷ 0 ∷ 0 ∷ 0 ∷ []

abbrev free₂ : List ℕ
free₂ = 12288 ∷ zeros 7

abbrev marks : List ℕ
marks = 1 ∷ 2 ∷ 1 ∷ 1 ∷ 0 ∷ 0 ∷ []

pub turned-there : turned small marks (file master index (zeros 8) end record20) ≡ file master index₂ free₂ end₂ record₂
unfolding turning
turned-there = refl

pub turned-again : turned (other_form small) marks (file master index₂ free₂ end₂ record₂) ≡ file master index (zeros 8) end record20
unfolding turning
turned-again = refl

pub second-passes : layout_marks (other_form small) (file master index₂ free₂ end₂ record₂) ≡ passed marks
unfolding turning
second-passes = refl

-- a chained block of the wrong kind, one with a count, one never used that says it is free, a detail block that says it is an index block
pub wrong-kinds : (layout_marks (other_form small) (file master index₂ (zeros 8) end₂ record₂) ≡ refused bad_file)
    × (layout_marks (other_form small) (file master index₂ (12289 ∷ zeros 7) end₂ record₂) ≡ refused bad_file)
    × (layout_marks (other_form small) (master ++ (index₂ ++ (free₂ ++ (end₂ ++ (record₂ ++ (free₂ ++ zeros 8)))))) ≡ refused bad_file)
    × (layout_marks (other_form small) (file master index₂ free₂ (4097 ∷ top_word ∷ zeros 6) record₂) ≡ refused bad_file)
unfolding turning
wrong-kinds = (refl, refl, refl, refl)
