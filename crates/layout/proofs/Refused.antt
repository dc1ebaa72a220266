-- Files that a wrong routine left, and what OPEN's test says of them, by computation, at WPB 8, WPR 3, K 1, SPACE 0, CONTROL 2, N 6.
use Prim.Native.Nat.{ℕ}
use mathlib.Core.Path.{◌≡◌, refl}
use mathlib.Core.Bool.{true}
use mathlib.Core.List.{List, [], ◌∷◌, ◌++◌}
use lib.ListN.{length}
use Rattle.words.specs.Words.{part, zeros, top_word, all_are, none_is, all_words}
use Rattle.words.specs.Keys.{is_ones, key_lt, key_le, same_key}
use Rattle.numbers.specs.Numbers.{bad_file}
use Rattle.numbers.specs.Checked.{passed, refused}
use Rattle.drum.specs.declared.Description.{Description}
use Rattle.drum.specs.Params.{D, I, master_size, file_size, start, every, good_params, tag_of, index_shape, detail_shape}
use Rattle.drum.specs.Blocks.{block_at, link_place, link_in, is_free}
use Rattle.layout.specs.Inspect.{key_held, above, ascends, end_ok, records_ok, rows_in, marked, through, detail_held, index_held, chain_held, rest_ok, master_ok}
use Rattle.layout.specs.Inspect.{walked, layout_marks}

abbrev pub small : Description
small = record { wpb = 8; wpr = 3; k = 1; space = 0; control = 2; n = 6; form = 1 }

-- opens every definition that the test is made of
unfoldable pub testing : ℕ
unfolding part all_are none_is all_words is_ones key_lt key_le same_key D I master_size file_size start every good_params tag_of index_shape detail_shape
    block_at link_place link_in is_free
    key_held above ascends end_ok records_ok rows_in marked through detail_held index_held chain_held rest_ok master_ok walked layout_marks
testing = 0

-- a master and four blocks; blocks 5 and 6 were never used. The master names index block 1
abbrev pub file : List ℕ → List ℕ → List ℕ → List ℕ → List ℕ → List ℕ
file master b₁ b₂ b₃ b₄ = master ++ (b₁ ++ (b₂ ++ (b₃ ++ (b₄ ++ zeros 16))))

abbrev pub master : List ℕ
master = 1 ∷ 2 ∷ 5 ∷ top_word ∷ 1 ∷ 0 ∷ 0 ∷ 0 ∷ []

abbrev pub index : List ℕ
index = 2 ∷ 20 ∷ 4 ∷ top_word ∷ 3 ∷ 0 ∷ 0 ∷ 0 ∷ []

abbrev pub end : List ℕ
end = 1 ∷ top_word ∷ 0 ∷ 0 ∷ 0 ∷ 0 ∷ 0 ∷ 0 ∷ []

abbrev pub record20 : List ℕ
record20 = 1 ∷ 20 ∷ 3 ∷ 4 ∷ 0 ∷ 0 ∷ 0 ∷ 0 ∷ []

-- the good file: record 20 in block 4, the end record in block 3, block 2 emptied and chained
pub good-passes : (good_params small ≡ true)
    × (length (file master index (zeros 8) end record20) ≡ file_size small)
    × (layout_marks small (file master index (zeros 8) end record20) ≡ passed (1 ∷ 2 ∷ 1 ∷ 1 ∷ 0 ∷ 0 ∷ []))
unfolding testing
good-passes = (refl, refl, refl)

-- a wrong key in an index entry: 15, over a block that holds 20
pub wrong-key : layout_marks small (file master (2 ∷ 15 ∷ 4 ∷ top_word ∷ 3 ∷ 0 ∷ 0 ∷ 0 ∷ []) (zeros 8) end record20) ≡ refused bad_file
unfolding testing
wrong-key = refl

-- a block missing from the chain: block 2 was emptied, but the chain's head is 0
pub not-chained : layout_marks small (file (1 ∷ 0 ∷ 5 ∷ top_word ∷ 1 ∷ 0 ∷ 0 ∷ 0 ∷ []) index (zeros 8) end record20) ≡ refused bad_file
unfolding testing
not-chained = refl

-- a block reached twice: both entries name block 3
pub reached-twice : layout_marks small (file master (2 ∷ 20 ∷ 3 ∷ top_word ∷ 3 ∷ 0 ∷ 0 ∷ 0 ∷ []) (zeros 8) end record20) ≡ refused bad_file
unfolding testing
reached-twice = refl

-- a block both reached and chained: block 4 was made the chain's head, but its entry was left
pub chained-and-reached : layout_marks small (file (1 ∷ 4 ∷ 5 ∷ top_word ∷ 1 ∷ 0 ∷ 0 ∷ 0 ∷ []) index (zeros 8) end (2 ∷ zeros 7)) ≡ refused bad_file
unfolding testing
chained-and-reached = refl

-- a stale word behind the last record: record 25 was taken out of block 4, but its words were left
pub stale-word : layout_marks small (file master index (zeros 8) end (1 ∷ 20 ∷ 3 ∷ 4 ∷ 25 ∷ 0 ∷ 0 ∷ 0 ∷ [])) ≡ refused bad_file
unfolding testing
stale-word = refl

-- two sections, index blocks 1 and 5: a bound lowered "on DLETE in the index only", 10 in block 1 and still 20 in the master
abbrev sections : ℕ → List ℕ
sections bound =
    (2 ∷ 4 ∷ 6 ∷ 20 ∷ 1 ∷ top_word ∷ 5 ∷ 0 ∷ [])
    ++ ((1 ∷ bound ∷ 2 ∷ 0 ∷ 0 ∷ 0 ∷ 0 ∷ 0 ∷ [])
    ++ ((1 ∷ 10 ∷ 1 ∷ 2 ∷ 0 ∷ 0 ∷ 0 ∷ 0 ∷ [])
    ++ (end ++ (zeros 8 ++ ((1 ∷ top_word ∷ 3 ∷ 0 ∷ 0 ∷ 0 ∷ 0 ∷ 0 ∷ []) ++ zeros 8)))))

pub lowered-in-index : (layout_marks small (sections 20) ≡ passed (1 ∷ 1 ∷ 1 ∷ 2 ∷ 1 ∷ 0 ∷ [])) × (layout_marks small (sections 10) ≡ refused bad_file)
unfolding testing
lowered-in-index = (refl, refl)
