-- Document 01, "Layout", sentence by sentence: the tree t stands in the file f. No walk is in it; what OPEN does is in Inspect.
use Rattle.std.specs.Prelude.{ℕ, suc, ◌+◌, ◌-◌, ◌≤◌, ◌≡◌, Bool, true, cond, ◌&&◌, leb, length, take}
use mathlib.Core.List.{List, [], ◌∷◌, ◌++◌, map, flatten}
use Rattle.words.specs.Words.{part, zeros, all_words}
use Rattle.words.specs.Keys.{ones, key_lt, key_le}
use Rattle.table.specs.Tables.{laid}
use Rattle.drum.specs.declared.Description.{Description}
use Rattle.drum.specs.Params.{D, I, master_size, file_size, index_shape, detail_shape}
use Rattle.drum.specs.Blocks.{block_at, free_text, Block}
use Rattle.layout.specs.Create.{end_record}
use Rattle.layout.specs.Tree.{Leaf, Section, Tree, last_in, bound_of, leaves_of, contents, reached_blocks, head_of, times}

-- P holds of each in a list
unfoldable pub All : {A : Type 0} → (A → Type 0) → List A → Type 0
All P [] = Unit {0}
All P (x ∷ xs) = P x × All P xs

-- n is one of 1..most
abbrev pub OneTo : ℕ → ℕ → Type 0
OneTo most n = (1 ≤ n) × (n ≤ most)

-- "Index block: .. entries: key and detail block": the words of the entries [L5]
unfoldable pub index_entries : List Leaf → List ℕ
index_entries [] = []
index_entries (l ∷ ls) = l.bound ++ (l.block ∷ index_entries ls)

-- "Master: .. entries: key and index block", and "An index block's last bound equals its master entry's.": the words of the entries [L4, L11]
unfoldable pub master_entries : List Section → List ℕ
master_entries [] = []
master_entries (s ∷ ss) = bound_of s.leaves ++ (s.block ∷ master_entries ss)

-- "word 0 sections in use, word 1 head of the free chain (0 none), word 2 lowest block never used .. Then entries .. All other words are 0"
-- [L1, L2, L3, L4, L8]
unfoldable pub master_text : Description → Tree → List ℕ
master_text p t =
    let es = master_entries t.sections in
    length t.sections ∷ head_of t.chain ∷ t.lowest ∷ (es ++ zeros (master_size p - 3 - length es))

-- "Index block: word 0 count, then entries .. All other words are 0"; in the second form word 0 is "4096 plus the count" [L5, L8, K2]
abbrev pub IndexIn : Description → List ℕ → Section → Type 0
IndexIn p f s = block_at p f s.block ≡ laid p.wpb ((index_shape p).tag + length s.leaves) (index_entries s.leaves)

-- "Detail block: word 0 count, then records .. All other words are 0"; in the second form word 0 is "8192 plus the count" [L6, L8, K2]
abbrev pub DetailIn : Description → List ℕ → Leaf → Type 0
DetailIn p f l = block_at p f l.block ≡ laid p.wpb ((detail_shape p).tag + length l.records) (flatten l.records)

-- "Free block: word 0 the next free block or 0. All other words are 0": each block of a chain [L7, L8]
unfoldable pub ChainIn : Description → List ℕ → List ℕ → Type 0
ChainIn p f [] = Unit {0}
ChainIn p f (b ∷ bs) = (block_at p f b ≡ free_text p (head_of bs)) × ChainIn p f bs

-- "all are strictly ascending": each key is below the next [L13]
unfoldable pub ascending : List (List ℕ) → Bool
ascending [] = true
ascending (a ∷ []) = true
ascending (a ∷ b ∷ ks) = key_lt a b && ascending (b ∷ ks)

-- "K, key words": the keys of a list of records, their first K words
abbrev pub keys_of : Description → List (List ℕ) → List (List ℕ)
keys_of p rs = map (take p.k) rs

-- one detail block under its bound; `before` has the bound before it, if there is one [L6, L10, L13, L15]
pub record LeafOk (p : Description) (before : List (List ℕ)) (l : Leaf) : Type 0 where
  -- "No block in use is empty.", and a block has room for D records
  pub counted : OneTo (D p) (length l.records)
  -- "K, key words"
  pub width : length l.bound ≡ p.k
  -- "WPR, words per record"
  pub widths : All (λ r. length r ≡ p.wpr) l.records
  -- "and above the bound before it", "all are strictly ascending"
  pub order : ascending (before ++ keys_of p l.records) ≡ true
  -- "An entry's key is a bound: its block's keys are at most that"
  pub bounded : All (λ key. key_le key l.bound ≡ true) (keys_of p l.records)

-- "the bound before it": detail blocks in order, the bound of each before the next [L10]
unfoldable pub LeavesOk : Description → List (List ℕ) → List Leaf → Type 0
LeavesOk p before [] = Unit {0}
LeavesOk p before (l ∷ ls) = LeafOk p before l × LeavesOk p (l.bound ∷ []) ls

-- "Such a file opens.": what it is that opens [L1, L9, L12, L14, L15, L16]
pub record Holds (p : Description) (f : List ℕ) (t : Tree) : Type 0 where
  -- "The file is exactly the master, .. then N blocks"
  pub size : length f ≡ file_size p
  -- "and none is above 262143."
  pub words : all_words f ≡ true
  -- "Master: word 0 sections in use, word 1 head of the free chain (0 none), word 2 lowest block never used (N+1 when none). Then
  -- entries: key and index block."
  pub master : part 0 (master_size p) f ≡ master_text p t
  -- "Index block: word 0 count, then entries: key and detail block."
  pub indexes : All (IndexIn p f) t.sections
  -- "Detail block: word 0 count, then records."
  pub details : All (DetailIn p f) (leaves_of t)
  -- "Free block: word 0 the next free block or 0."
  pub chained : ChainIn p f t.chain
  -- "All other words are 0": those of the blocks never used
  pub unused : (b : ℕ) → t.lowest ≤ b → b ≤ p.n → block_at p f b ≡ zeros p.wpb
  -- "CONTROL, sections": 1..CONTROL are in use
  pub control : OneTo p.control (length t.sections)
  -- "No block in use is empty.", and an index block has room for I entries
  pub counted : All (λ (s : Section). OneTo (I p) (length s.leaves)) t.sections
  -- "An entry's key is a bound: its block's keys are at most that, and above the bound before it.", "all are strictly ascending"
  pub leaves : LeavesOk p [] (leaves_of t)
  -- "The last bound is ONES."
  pub last : bound_of (leaves_of t) ≡ ones p.k
  -- "The last record of the file is the end record: key ONES, data 0."
  pub end : last_in (contents t) ≡ end_record p
  -- "Every block 1..N is reached once from the master, or on the chain once, or at or above word 2, and only one of these."
  pub once : (b : ℕ) → Block p b → times b (reached_blocks t) + times b t.chain + cond (leb t.lowest b) 1 0 ≡ 1
  -- "block 1..N": nothing else is reached
  pub reached : All (Block p) (reached_blocks t)
  -- "block 1..N": nothing else is on the chain
  pub linked : All (Block p) t.chain
  -- "word 2 lowest block never used (N+1 when none)"
  pub lowest : OneTo (suc p.n) t.lowest

-- "Such a file opens.": the file is as under Layout [L16]
unfoldable pub WellFormed : Description → List ℕ → Type 0
WellFormed p f = (t : Tree) × Holds p f t
