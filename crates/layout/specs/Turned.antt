-- "A call, free of transfers, turns a closed file from one form to the other and back without loss": the words of the file in the other form, and what is
-- claimed of them. Nothing is proved here.
use Rattle.std.specs.Prelude.{ℕ, zero, suc, ◌+◌, ◌-◌, ◌/◌, ◌≡◌, true, cond, List, [], ◌∷◌, ◌++◌, leb, eqb, length, get_or, take, drop, set}
use Rattle.table.specs.Tables.{count, block_in}
use Rattle.numbers.specs.Checked.{passed}
use Rattle.drum.specs.declared.Description.{Description}
use Rattle.drum.specs.Params.{master_size, file_size, good_params, master_shape, index_shape, detail_shape}
use Rattle.drum.specs.Blocks.{sections, block_at, free_text, link_in, Block}
use Rattle.layout.specs.Inspect.{layout_marks}
use Rattle.layout.specs.Tree.{Section, Tree, leaf_blocks, leaves_of, times, marks_of}
use Rattle.layout.specs.Holds.{Holds, WellFormed}

-- "from one form to the other": the description of the turned file; all else is the file's own [K5]
unfoldable pub other_form : Description → Description
other_form p = record { wpb = p.wpb; wpr = p.wpr; k = p.k; space = p.space; control = p.control; n = p.n; form = 3 - p.form }

-- OPEN's marks, with 3 for each index block: those that the first n entries of the master name [L4]
unfoldable pub index_marked : Description → List ℕ → ℕ → List ℕ → List ℕ
index_marked p f zero marks = marks
index_marked p f (suc n) marks = set (index_marked p f n marks) (block_in (master_shape p) f n - 1) 3

-- OPEN's marks again: 1 for each index block [S6]
unfoldable pub index_unmarked : List ℕ → List ℕ
index_unmarked [] = []
index_unmarked (m ∷ ms) = cond (eqb m 3) 1 m ∷ index_unmarked ms

-- the text t of an index block with its count in the other form [K2, K5]
unfoldable pub turned_index : Description → List ℕ → List ℕ
turned_index p t = set t 0 ((index_shape (other_form p)).tag + count (index_shape p) t)

-- of a detail block [K2, K5]
unfoldable pub turned_detail : Description → List ℕ → List ℕ
turned_detail p t = set t 0 ((detail_shape (other_form p)).tag + count (detail_shape p) t)

-- of a chained one: its kind, and its link where the other form has it [K2, K3, K5]
unfoldable pub turned_free : Description → List ℕ → List ℕ
turned_free p t = free_text (other_form p) (link_in p t)

-- by its mark: 3 an index block, 1 a detail block, 2 a chained one; "A block never used stays zero." [K5]
unfoldable pub turned_text : Description → ℕ → List ℕ → List ℕ
turned_text p m t = cond (eqb m 3) (turned_index p t) (cond (eqb m 1) (turned_detail p t) (cond (eqb m 2) (turned_free p t) t))

-- block after block, each by its mark
unfoldable pub turned_blocks : Description → List ℕ → List ℕ → List ℕ
turned_blocks p [] ws = ws
turned_blocks p (m ∷ ms) ws = turned_text p m (take p.wpb ws) ++ turned_blocks p ms (drop p.wpb ws)

-- the whole file: the master stays, "The master has no kind" [K5]
unfoldable pub turned : Description → List ℕ → List ℕ → List ℕ
turned p marks f = take (master_size p) f ++ turned_blocks p (index_marked p f (sections f) marks) (drop (master_size p) f)

-- one tree: the turned file holds the tree that the file holds, so entries, bounds, records, block numbers, chain and word 2 are the same
abbrev pub TurnHolds : Type 0
TurnHolds =
    (p : Description) (f : List ℕ) (t : Tree) → good_params p ≡ true → Holds p f t
    → Holds (other_form p) (turned p (marks_of t p.n) f) t

-- "and back without loss": turned twice it is the file, word for word
abbrev pub TurnBack : Type 0
TurnBack =
    (p : Description) (f : List ℕ) (t : Tree) → good_params p ≡ true → Holds p f t
    → turned (other_form p) (marks_of t p.n) (turned p (marks_of t p.n) f) ≡ f

-- the turned file opens, with the same marks
abbrev pub TurnOpens : Type 0
TurnOpens =
    (p : Description) (f marks : List ℕ) → good_params p ≡ true → length f ≡ file_size p → layout_marks p f ≡ passed marks
    → layout_marks (other_form p) (turned p marks f) ≡ passed marks

-- no file is good in both forms
abbrev pub OneForm : Type 0
OneForm = (p : Description) (f : List ℕ) → good_params p ≡ true → WellFormed p f → WellFormed (other_form p) f → ⊥

-- "entries: key and index block": the numbers of the index blocks of a list of sections
unfoldable pub indexes_in : List Section → List ℕ
indexes_in [] = []
indexes_in (s ∷ ss) = s.block ∷ indexes_in ss

-- "Blocks that say what they are": 1 an index block, 2 a detail block, 3 a chained one, 0 one never used [K2]
unfoldable pub kind_of : Tree → ℕ → ℕ
kind_of t b =
    cond (leb 1 (times b (indexes_in t.sections))) 1
    (cond (leb 1 (times b (leaf_blocks (leaves_of t)))) 2 (cond (leb 1 (times b t.chain)) 3 0))

-- a block says what it is: in the second form word 0 over 4096 is its kind, of each block of a file that holds a tree
abbrev pub KindsTold : Type 0
KindsTold =
    (p : Description) (f : List ℕ) (t : Tree) (b : ℕ) → good_params p ≡ true → p.form ≡ 2 → Holds p f t → Block p b
    → get_or (block_at p f b) 0 0 / 4096 ≡ kind_of t b
