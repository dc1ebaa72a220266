-- "none is above 262143": the words of a file that holds a tree.
use Prim.Native.Nat.{ℕ, zero, suc, ◌+◌, ◌-◌, ◌*◌, ◌≤◌, ◌<◌, ◌/◌}
use mathlib.Core.Bool.{true}
use mathlib.Core.Path.{◌≡◌, sym, ap, ◌∙◌, subst}
use mathlib.Core.List.{List, [], ◌∷◌, ◌++◌, map}
use native.Mathlib.Omega.{arith}
use native.Mathlib.Decide.{dec_le, dec_lt, ℕ_discrete}
use lib.ListN.{length, take, length-map, get_or}
use lib.Seq.{get_or-take}
use borrow.Author.Tests.{le-leb}
use Rattle.words.specs.Words.{part, zeros, all_words, top_word}
use Rattle.words.proofs.All.{cons-all_words, append-all_words, all_words-none, all_words-replicate, all_words-get_or, all_words-set}
use Rattle.table.specs.Tables.{laid}
use Rattle.table.specs.declared.Shape.{Shape}
use Rattle.drum.proofs.Forms.{index-tag, detail-tag, tag-most}
use Rattle.drum.specs.declared.Description.{Description}
use Rattle.drum.specs.Params.{master_size, good_params, file_size, start, index_shape, detail_shape, tag_of, free_kind}
use Rattle.drum.specs.Blocks.{block_at, free_text, Block, link_place}
use Rattle.drum.proofs.Good.{good-facts, caps}
use Rattle.layout.specs.Tree.{Leaf, Section}
use Rattle.demands.proofs.Lists.{All, all_append, all_left, all_right}
use Rattle.demands.proofs.Cells as cells
use Rattle.demands.proofs.Rows.{cat, tab}
use Rattle.demands.proofs.Trees.{table, entry, leaf_cell, index_text, cells_of}
use Rattle.demands.proofs.Holds as held
use Rattle.demands.proofs.Blocks.{master_of}
use Rattle.demands.proofs.Entries.{last-bounded}
use native.Mathlib.Nat.{mul-le-mul_right, div-mul-le_self, lt-div-mul-add}
use Rattle.words.proofs.Parts.{get_d_part}
use Rattle.demands.proofs.Places.{inside-low}

pub words-from : (l : List ℕ) → ((i : ℕ) → i < length l → get_or l i 0 ≤ top_word) → all_words l ≡ true
words-from [] h = all_words-none
words-from (x ∷ l) h = cons-all_words x l (h 0 (omega arith)) (words-from l (λ i k. h (suc i) (omega arith)))

pub rows_words : (rows : List (List ℕ)) → All (λ r. all_words r ≡ true) rows → all_words (cat rows) ≡ true
unfolding cat
rows_words [] h = all_words-none
rows_words (r ∷ rows) h = append-all_words r (cat rows) h.0 (rows_words rows h.1)

pub table-words : (s : Shape) (wpb : ℕ) (rows : List (List ℕ)) → s.tag + length rows ≤ top_word → All (λ r. all_words r ≡ true) rows → all_words (table s wpb rows) ≡ true
unfolding table laid
table-words s wpb rows l h =
    cons-all_words (s.tag + length rows) _ l
    (append-all_words (cat rows) (zeros (wpb - 1 - length (cat rows))) (rows_words rows h) (all_words-replicate (wpb - 1 - length (cat rows)) 0 (omega arith)))

pub free-words : (p : Description) (b : ℕ) → b ≤ top_word → all_words (free_text p b) ≡ true
unfolding free_text laid
free-words p b l =
    all_words-set _ (link_place p) b
    (cons-all_words (tag_of p free_kind) _ (omega (arith, tag-most p free_kind)) (all_words-replicate (p.wpb - 1 - 0) 0 (omega arith))) l

module _ (p : Description) (g : good_params p ≡ true) (f : List ℕ) (size : length f ≡ file_size p) (ss : List Section) (fr : held.Free)
    (h : held.HoldsCells p (master_of p f) (block_at p f) ss fr) where
  abbrev T : cells.Cell → Type 0
  T c = block_at p f c.0 ≡ c.1

  abbrev Num : cells.Cell → Type 0
  Num c = c.0 ≤ p.n

  abbrev Words : cells.Cell → Type 0
  Words c = all_words c.1 ≡ true

  numbers : All Num (cells_of p ss ++ held.free_cells p fr)
  numbers = go (cells_of p ss ++ held.free_cells p fr) (λ b l. (inside-low p.n b (omega (arith, h.once b))).1)
    where
      go : (cs : List cells.Cell) → ((b : ℕ) → 1 ≤ cells.cell_times b cs → b ≤ p.n) → All Num cs
      go [] q = tt
      go (c ∷ cs) q = (q c.0 (first c cs), go cs (λ b l. q b (rest b c cs l)))
        where
          first : (c : cells.Cell) (cs : List cells.Cell) → 1 ≤ cells.cell_times c.0 (c ∷ cs)
          first c cs = unfold cells.cell_times cells.weigh in omega (arith, cells.is-self c.0)

          rest : (b : ℕ) (c : cells.Cell) (cs : List cells.Cell) → 1 ≤ cells.cell_times b cs → 1 ≤ cells.cell_times b (c ∷ cs)
          rest b c cs l = unfold cells.cell_times cells.weigh in omega arith

  topped : p.n + 1 ≤ top_word
  topped = omega (arith, (good-facts p g).n-most)

  entries-words : (ls : List Leaf) → All (held.LeafFits p) ls → All Num (map (leaf_cell p) ls) → All (λ r. all_words r ≡ true) (map entry ls)
  unfolding entry leaf_cell
  entries-words [] ok n = tt
  entries-words (l ∷ ls) ok n = (
    append-all_words l.bound (l.block ∷ []) ok.0.wide (cons-all_words l.block [] (omega (arith, n.0, topped)) all_words-none),
    entries-words ls
        ok.1 n.1,
  )

  details-words : (ls : List Leaf) → All (held.LeafFits p) ls → All Words (map (leaf_cell p) ls)
  unfolding leaf_cell
  details-words [] ok = tt
  details-words (l ∷ ls) ok =
      (table-words (detail_shape p) p.wpb l.records (omega (arith, ok.0.room, (caps p g).d-most, detail-tag p g)) (rows l.records ok.0.rows), details-words ls ok.1)
    where
      rows : (rs : List (List ℕ)) → All (held.RowOk p) rs → All (λ r. all_words r ≡ true) rs
      rows [] q = tt
      rows (r ∷ rs) q = (q.0.1, rows rs q.1)

  tree-words : (zs : List Section) → All (held.SectionOk p) zs → All Num (cells_of p zs) → All Words (cells_of p zs)
  unfolding cells_of index_text
  tree-words [] ok n = tt
  tree-words (s ∷ zs) ok n = (
    table-words (index_shape p) p.wpb (map entry s.leaves) (rw (length-map s.leaves entry) (omega (arith, ok.0.room, (caps p g).i-most, index-tag p g)))
        (entries-words s.leaves ok.0.leaves (all_left Num (map (leaf_cell p) s.leaves) _ n.1)),
    all_append Words (map (leaf_cell p) s.leaves) (cells_of p zs) (details-words s.leaves ok.0.leaves)
        (tree-words zs ok.1 (all_right Num (map (leaf_cell p) s.leaves) _ n.1)),
  )

  head_in : (cs : List ℕ) → All Num (held.chain_cells p cs) → held.head_or cs 0 ≤ top_word
  head_in [] n = omega arith
  head_in (c ∷ cs) n = omega (arith, n.0, topped)

  chain-words : (cs : List ℕ) → All Num (held.chain_cells p cs) → All Words (held.chain_cells p cs)
  chain-words [] n = tt
  chain-words (c ∷ cs) n = (free-words p (held.head_or cs 0) (head_in cs n.1), chain-words cs n.1)

  fresh-words : (u s : ℕ) → All Words (held.fresh_cells p u s)
  fresh-words u zero = tt
  fresh-words u (suc s) = (all_words-replicate p.wpb 0 (omega arith), fresh-words (u + 1) s)

  chain-numbers : All Num (held.chain_cells p fr.chain)
  unfolding held.free_cells
  chain-numbers = all_left Num (held.chain_cells p fr.chain) _ (all_right Num (cells_of p ss) _ numbers)

  cell-words : All Words (cells_of p ss ++ held.free_cells p fr)
  unfolding held.free_cells
  cell-words =
      all_append Words (cells_of p ss) _ (tree-words ss h.sized (all_left Num (cells_of p ss) _ numbers))
      (all_append Words (held.chain_cells p fr.chain) _ (chain-words fr.chain chain-numbers) (fresh-words fr.lowest fr.spare))

  block_words : (b : ℕ) → Block p b → all_words (block_at p f b) ≡ true
  block_words b i = pick (cells_of p ss ++ held.free_cells p fr) h.agree cell-words (rw (h.once b) (inside-yes b i))
    where
      inside-yes : (b : ℕ) → Block p b → 1 ≤ held.inside p.n b
      inside-yes b i = unfold held.inside in rw (le-leb 1 b i.0, le-leb b p.n i.1) (omega arith)

      pick : (cs : List cells.Cell) → All T cs → All Words cs → 1 ≤ cells.cell_times b cs → all_words (block_at p f b) ≡ true
      pick [] a w l = absurd (none l)
        where
          none : 1 ≤ cells.cell_times b [] → ⊥
          none l = unfold cells.cell_times cells.weigh in omega arith
      pick (c ∷ cs) a w l = go (ℕ_discrete c.0 b) (pick cs a.1 w.1)
        where
          more : (c : cells.Cell) (cs : List cells.Cell) → cells.is c.0 b ≡ 0 → 1 ≤ cells.cell_times b (c ∷ cs) → 1 ≤ cells.cell_times b cs
          more c cs e l = unfold cells.cell_times cells.weigh in omega arith

          go : Dec (c.0 ≡ b) → (1 ≤ cells.cell_times b cs → all_words (block_at p f b) ≡ true) → all_words (block_at p f b) ≡ true
          go (yes e) k = ap (λ (x : ℕ). all_words (block_at p f x)) (sym e) ∙ ap all_words a.0 ∙ w.0
          go (no n) k = k (more c cs (cells.is-not c.0 b n) l)

  master-words : all_words (master_of p f) ≡ true
  unfolding held.master_for held.master_words tab
  master-words =
      let rows : List (List ℕ) = map (held.master_entry p) ss in
      ap all_words h.master-is
      ∙ cons-all_words (length rows) _ (rw (length-map ss (held.master_entry p)) (omega (arith, h.sections, (good-facts p g).control-most)))
      (cons-all_words (held.head_or fr.chain 0) _ (head_in fr.chain chain-numbers) (cons-all_words fr.lowest _ (omega (arith, h.numbers, topped))
      (append-all_words (cat rows) _ (rows_words rows (entries ss h.sized (all_left Num (cells_of p ss) _ numbers)))
      (append-all_words (zeros (master_size p - (3 + length rows * (p.k + 1)))) []
      (all_words-replicate (master_size p - (3 + length rows * (p.k + 1))) 0 (omega arith)) all_words-none))))
    where
      entries : (zs : List Section) → All (held.SectionOk p) zs → All Num (cells_of p zs) → All (λ r. all_words r ≡ true) (map (held.master_entry p) zs)
      entries [] ok n = tt
      entries (s ∷ zs) ok n =
          let m : (s.block ≤ p.n) × All Num (cells_of p zs) = unfold cells_of in
          (n.0, all_right Num (map (leaf_cell p) s.leaves) _ n.1) in (
            unfold held.master_entry in append-all_words (held.last_bound [] s.leaves) (s.block ∷ [])
                (last-bounded p [] s.leaves ok.0.some ok.0.leaves).1 (cons-all_words s.block [] (omega (arith, m.0, topped)) all_words-none),
            entries zs ok.1 m.1,
          )

  pub words : all_words f ≡ true
  unfolding master_of block_at start file_size
  words = words-from f (λ i l. go i l (dec_lt i (master_size p)))
    where
      go : (i : ℕ) → i < length f → Dec (i < master_size p) → get_or f i 0 ≤ top_word
      go i l (yes m) = subst (λ (x : ℕ). x ≤ top_word) (get_or-take (master_size p) f i 0 m) (all_words-get_or (take (master_size p) f) i master-words)
      go i l (no m) =
          let q : ℕ = (i - master_size p) / p.wpb in
          let w : 6 ≤ p.wpb = (good-facts p g).wpb-least in
          let a : q * p.wpb ≤ i - master_size p = div-mul-le_self (i - master_size p) p.wpb in
          let b : i - master_size p < q * p.wpb + p.wpb = lt-div-mul-add {a = i - master_size p} {b = p.wpb} (omega arith) in
          let x : ℕ = i - master_size p - q * p.wpb in
          let e : master_size p + (q + 1 - 1) * p.wpb + x ≡ i = at q (omega arith) in
          let less : q < p.n = below q a l in
          subst (λ (y : ℕ). y ≤ top_word) (get_d_part (master_size p + (q + 1 - 1) * p.wpb) p.wpb x f (omega arith) ∙ ap (λ (y : ℕ). get_or f y 0) e)
          (all_words-get_or (part (master_size p + (q + 1 - 1) * p.wpb) p.wpb f) x (block_words (q + 1) (omega arith, omega arith)))
        where
          at : (q : ℕ) → q * p.wpb ≤ i - master_size p → master_size p + (q + 1 - 1) * p.wpb + (i - master_size p - q * p.wpb) ≡ i
          at q h = let e : q + 1 - 1 ≡ q = omega arith in rw e (omega arith)

          below : (q : ℕ) → q * p.wpb ≤ i - master_size p → i < length f → q < p.n
          below q a l = big (dec_le p.n q)
            where
              big : Dec (p.n ≤ q) → q < p.n
              big (yes h) = absurd (omega (arith, mul-le-mul_right p.wpb h, a, l, size))
              big (no h) = omega arith
