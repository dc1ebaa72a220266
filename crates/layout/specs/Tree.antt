-- What stands in a file. Document 01, "Layout": sections and the detail blocks under them, the free chain, the blocks never used.
use Rattle.std.specs.Prelude.{ℕ, zero, suc, ◌+◌, cond, List, [], ◌∷◌, ◌++◌, leb, eqb}
use Rattle.words.specs.Keys.{ones}
use Rattle.drum.specs.declared.Description.{Description}
use Rattle.layout.specs.Create.{end_record}

-- "Detail block: word 0 count, then records", with what its entry says of it, "An entry's key is a bound" and "detail block" [L6]
pub record Leaf : Type 0 where
  pub bound : List ℕ
  pub block : ℕ
  pub records : List (List ℕ)

-- "Index block: word 0 count, then entries": its number, and the detail blocks that the entries name, in their order [L5]
pub record Section : Type 0 where
  pub block : ℕ
  pub leaves : List Leaf

-- "Master: word 0 sections in use, word 1 head of the free chain (0 none), word 2 lowest block never used": the chain from its head on [L1, L2, L3]
pub record Tree : Type 0 where
  pub sections : List Section
  pub chain : List ℕ
  pub lowest : ℕ

-- "The last record": of a list of records [L14]
unfoldable pub last_in : List (List ℕ) → List ℕ
last_in [] = []
last_in (r ∷ []) = r
last_in (r ∷ s ∷ rs) = last_in (s ∷ rs)

-- "An index block's last bound", "The last bound": of a list of detail blocks [L11, L12]
unfoldable pub bound_of : List Leaf → List ℕ
bound_of [] = []
bound_of (l ∷ []) = l.bound
bound_of (l ∷ m ∷ ls) = bound_of (m ∷ ls)

-- "Index block: .. then entries": all detail blocks under a list of sections
abbrev pub leaves_in : List Section → List Leaf
leaves_in [] = []
leaves_in (s ∷ ss) = s.leaves ++ leaves_in ss

-- "Detail block: .. then records": all records of a list of detail blocks
abbrev pub records_in : List Leaf → List (List ℕ)
records_in [] = []
records_in (l ∷ ls) = l.records ++ records_in ls

-- "entries: key and detail block": the numbers of a list of detail blocks
unfoldable pub leaf_blocks : List Leaf → List ℕ
leaf_blocks [] = []
leaf_blocks (l ∷ ls) = l.block ∷ leaf_blocks ls

-- "entries: key and index block": the numbers of the index blocks, after each the detail blocks under it
unfoldable pub blocks_in : List Section → List ℕ
blocks_in [] = []
blocks_in (s ∷ ss) = s.block ∷ (leaf_blocks s.leaves ++ blocks_in ss)

-- "An entry's key is a bound: its block's ..": all detail blocks of the file, in the order of their bounds
abbrev pub leaves_of : Tree → List Leaf
leaves_of t = leaves_in t.sections

-- "The last record of the file is the end record": all records of the file, in the order of their keys
abbrev pub contents : Tree → List (List ℕ)
contents t = records_in (leaves_of t)

-- "Every block 1..N is reached once from the master, ..": the blocks reached [L16]
abbrev pub reached_blocks : Tree → List ℕ
reached_blocks t = blocks_in t.sections

-- "head of the free chain (0 none)", and in a free block "the next free block or 0" [L2, L7]
unfoldable pub head_of : List ℕ → ℕ
head_of [] = 0
head_of (b ∷ bs) = b

-- "reached once", "on the chain once": how often block b stands in a list [L16]
unfoldable pub times : ℕ → List ℕ → ℕ
times b [] = 0
times b (c ∷ cs) = cond (eqb b c) 1 0 + times b cs

-- OPEN's mark of block b: "1 for a block reached from the master, 2 for a chained one, 0 for one never used" [S6]
unfoldable pub mark_of : Tree → ℕ → ℕ
mark_of t b = cond (leb 1 (times b (reached_blocks t))) 1 (cond (leb 1 (times b t.chain)) 2 0)

-- the marks of n blocks, from block b on
unfoldable pub marks_from : Tree → ℕ → ℕ → List ℕ
marks_from t b zero = []
marks_from t b (suc n) = mark_of t b ∷ marks_from t (suc b) n

-- "OPEN is also lent N marks": the marks of blocks 1..n [P12, S6]
abbrev pub marks_of : Tree → ℕ → List ℕ
marks_of t n = marks_from t 1 n

-- what CREATE writes: "block 2: 1 and the end record", under the bound ONES [L17]
unfoldable pub fresh_leaf : Description → Leaf
fresh_leaf p = record { bound = ones p.k; block = 2; records = end_record p ∷ [] }

-- "block 1: 1, ONES, 2" [L17]
unfoldable pub fresh_section : Description → Section
fresh_section p = record { block = 1; leaves = fresh_leaf p ∷ [] }

-- "master 1, 0, 3, ONES, 1" [L17]
unfoldable pub fresh_tree : Description → Tree
fresh_tree p = record { sections = fresh_section p ∷ []; chain = []; lowest = 3 }
