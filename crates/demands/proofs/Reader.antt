-- The reader's tree (layout's Holds, sentence by sentence) and the cells' tree are the same words: texts, entries and counts of the one are those of the other.
use Prim.Native.Nat.{ℕ, zero, suc, ◌+◌, ◌-◌, ◌*◌, ◌≤◌}
use mathlib.Core.Bool.{cond, ◌&&◌}
use mathlib.Core.Path.{◌≡◌, refl, sym, ap, ap₂, ◌∙◌}
use mathlib.Core.List.{List, [], ◌∷◌, ◌++◌, map, flatten, append_assoc, append-nil}
use native.Mathlib.Omega.{arith}
use native.Mathlib.Decide.{dec_le, ℕ_discrete}
use lib.Dec.{leb, eqb}
use lib.ListN.{length, length-map}
use borrow.Author.Tests.{eq-eqb, ne_eqb, le-leb, lt-leb}
use Rattle.words.specs.Words.{zeros}
use Rattle.table.specs.Tables.{laid}
use Rattle.drum.specs.declared.Description.{Description}
use Rattle.drum.specs.Params.{master_size, detail_shape, index_shape}
use Rattle.layout.specs.Tree.{Leaf, Section, Tree, bound_of, leaf_blocks, blocks_in, head_of, times}
use Rattle.layout.specs.Holds.{index_entries, master_entries, master_text}
use Rattle.demands.proofs.Rows.{cat, tab}
use Rattle.demands.proofs.Cells as cells
use Rattle.demands.proofs.Trees.{table, entry, leaf_cell, index_text, cells_of}
use Rattle.demands.proofs.Holds as held

-- the free blocks of a tree
abbrev pub free_of : Description → Tree → held.Free
free_of p t = record { chain = t.chain; lowest = t.lowest; spare = suc p.n - t.lowest }

pub cat-flat : (rows : List (List ℕ)) → flatten rows ≡ cat rows
unfolding cat flatten
cat-flat [] = refl
cat-flat (r ∷ rows) = ap (λ (z : List ℕ). r ++ z) (cat-flat rows)

pub entries-flat : (ls : List Leaf) → index_entries ls ≡ cat (map entry ls)
unfolding index_entries cat entry
entries-flat [] = refl
entries-flat (l ∷ ls) = ap (λ (z : List ℕ). l.bound ++ (l.block ∷ z)) (entries-flat ls) ∙ sym (append_assoc l.bound (l.block ∷ []) (cat (map entry ls)))

bound-from : (d : List ℕ) (l : Leaf) (ls : List Leaf) → bound_of (l ∷ ls) ≡ held.last_bound d (l ∷ ls)
unfolding bound_of
bound-from d l [] = refl
bound-from d l (m ∷ ls) = bound-from l.bound m ls

pub bound-last : (ls : List Leaf) → bound_of ls ≡ held.last_bound [] ls
unfolding bound_of
bound-last [] = refl
bound-last (l ∷ ls) = bound-from [] l ls

pub masters-flat : (p : Description) (ss : List Section) → master_entries ss ≡ cat (map (held.master_entry p) ss)
unfolding master_entries cat held.master_entry
masters-flat p [] = refl
masters-flat p (s ∷ ss) =
    ap₂ (λ (b z : List ℕ). b ++ (s.block ∷ z)) (bound-last s.leaves) (masters-flat p ss)
    ∙ sym (append_assoc (held.last_bound [] s.leaves) (s.block ∷ []) (cat (map (held.master_entry p) ss)))

pub head-same : (cs : List ℕ) → head_of cs ≡ held.head_or cs 0
unfolding head_of
head-same [] = refl
head-same (c ∷ cs) = refl

-- ---- texts

pub index_same : (p : Description) (ls : List Leaf) → laid p.wpb ((index_shape p).tag + length ls) (index_entries ls) ≡ index_text p ls
unfolding index_text table
index_same p ls = rw (entries-flat ls, length-map ls entry)

pub detail-same : (p : Description) (rows : List (List ℕ)) → laid p.wpb ((detail_shape p).tag + length rows) (flatten rows) ≡ table (detail_shape p) p.wpb rows
unfolding table
detail-same p rows = rw (cat-flat rows)

pub master-same : (p : Description) (t : Tree)
    → length (cat (map (held.master_entry p) t.sections)) ≡ length (map (held.master_entry p) t.sections) * (p.k + 1)
    → master_text p t ≡ held.master_for p t.sections (free_of p t)
unfolding master_text held.master_for held.master_words tab
master-same p t e =
    let rows : List (List ℕ) = map (held.master_entry p) t.sections in
    let n : master_size p - 3 - length (cat rows) ≡ master_size p - (3 + length rows * (p.k + 1)) = rw e (omega arith) in
    rw (masters-flat p t.sections, head-same t.chain, n, append-nil (zeros (master_size p - (3 + length rows * (p.k + 1)))))
    (ap (λ (m : ℕ). m ∷ (held.head_or t.chain 0 ∷ (t.lowest ∷ (cat rows ++ zeros (master_size p - (3 + length rows * (p.k + 1)))))))
    (sym (length-map t.sections (held.master_entry p))))

-- ---- how often a block stands there

one_same : (b c : ℕ) → cond (eqb b c) 1 0 ≡ cells.is c b
unfolding cells.is
one_same b c = go (ℕ_discrete b c)
  where
    go : Dec (b ≡ c) → cond (eqb b c) 1 0 ≡ cells.bit (eqb c b)
    go (yes e) = rw (eq-eqb b c e, eq-eqb c b (sym e))
    go (no n) = rw (ne_eqb b c n, ne_eqb c b (λ e. n (sym e)))

times-append : (b : ℕ) (xs ys : List ℕ) → times b (xs ++ ys) ≡ times b xs + times b ys
unfolding times
times-append b [] ys = omega arith
times-append b (x ∷ xs) ys = rw (times-append b xs ys) (omega arith)

leaf-times : (b : ℕ) (p : Description) (ls : List Leaf) → times b (leaf_blocks ls) ≡ cells.cell_times b (map (leaf_cell p) ls)
unfolding times leaf_blocks cells.cell_times cells.weigh leaf_cell
leaf-times b p [] = refl
leaf-times b p (l ∷ ls) = ap₂ (λ (x y : ℕ). x + y) (one_same b l.block) (leaf-times b p ls)

pub tree-times : (b : ℕ) (p : Description) (ss : List Section) → times b (blocks_in ss) ≡ cells.cell_times b (cells_of p ss)
unfolding times blocks_in cells_of
tree-times b p [] = unfold cells.cell_times cells.weigh in refl
tree-times b p (s ∷ ss) =
    rw (times-append b (leaf_blocks s.leaves) (blocks_in ss), one_same b s.block, leaf-times b p s.leaves, tree-times b p ss)
    (sym (cell-times b (s.block, index_text p s.leaves) (map (leaf_cell p) s.leaves) (cells_of p ss)))
  where
    cell-times : (b : ℕ) (c : cells.Cell) (xs ys : List cells.Cell)
        → cells.cell_times b ((c ∷ xs) ++ ys) ≡ cells.is c.0 b + (cells.cell_times b xs + cells.cell_times b ys)
    cell-times b c xs ys = unfold cells.cell_times in
        (cells.weigh-append (λ x. cells.is x.0 b) (c ∷ xs) ys ∙ ap (λ (n : ℕ). n + cells.weigh (λ x. cells.is x.0 b) ys)
        (cells.weigh-cons (λ x. cells.is x.0 b) c xs) ∙ omega arith)

pub chain-times : (b : ℕ) (p : Description) (cs : List ℕ) → times b cs ≡ cells.cell_times b (held.chain_cells p cs)
unfolding times cells.cell_times cells.weigh
chain-times b p [] = refl
chain-times b p (c ∷ cs) = ap₂ (λ (x y : ℕ). x + y) (one_same b c) (chain-times b p cs)

-- the blocks never used: from u on, s of them
pub fresh-times : (b : ℕ) (p : Description) (u s : ℕ) → cells.cell_times b (held.fresh_cells p u s) ≡ cond (leb u b && leb (suc b) (u + s)) 1 0
unfolding cells.cell_times cells.weigh
fresh-times b p u zero = go (dec_le u b)
  where
    go : Dec (u ≤ b) → ◌≡◌ {A = ℕ} 0 (cond (leb u b && leb (suc b) (u + 0)) 1 0)
    go (yes l) = rw (le-leb u b l, lt-leb (suc b) (u + 0) (omega arith))
    go (no n) = rw (lt-leb u b (omega arith))
fresh-times b p u (suc s) = rw (fresh-times b p (u + 1) s) (go (ℕ_discrete u b) (dec_le (u + 1) b) (dec_le (suc b) (u + suc s)))
  where
    go : Dec (u ≡ b) → Dec (u + 1 ≤ b) → Dec (suc b ≤ u + suc s)
        → cells.is u b + cond (leb (u + 1) b && leb (suc b) (u + 1 + s)) 1 0 ≡ cond (leb u b && leb (suc b) (u + suc s)) 1 0
    go (yes e) d d₂ = rw (cells.is_same u b e, lt-leb (u + 1) b (omega arith), le-leb u b (omega arith), le-leb (suc b) (u + suc s) (omega arith))
    go (no n) (yes l) (yes m) =
        rw (cells.is-not u b n, le-leb (u + 1) b l, le-leb u b (omega arith), le-leb (suc b) (u + 1 + s) (omega arith), le-leb (suc b) (u + suc s) m)
    go (no n) (yes l) (no m) =
        rw
        (cells.is-not u b n, le-leb (u + 1) b l, le-leb u b (omega arith), lt-leb (suc b) (u + 1 + s) (omega arith), lt-leb (suc b) (u + suc s) (omega arith))
    go (no n) (no l) d₂ = rw (cells.is-not u b n, lt-leb (u + 1) b (omega arith), lt-leb u b (omega arith))
