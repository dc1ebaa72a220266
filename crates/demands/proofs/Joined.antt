-- A file in which a tree stands (layout's Holds) holds the tree's cells, so that an OPEN which answers 0 leaves a sound state.
use Prim.Native.Nat.{ℕ, zero, suc, ◌+◌, ◌-◌, ◌≤◌, ◌<◌}
use mathlib.Core.Bool.{Bool, true, false, cond, ◌&&◌, and-false}
use mathlib.Core.Logic.{◌⊎◌, inl, inr}
use mathlib.Core.Path.{◌≡◌, refl, sym, ap, ◌∙◌, subst}
use mathlib.Core.List.{List, [], ◌∷◌, ◌++◌, map, flatten}
use native.Mathlib.Omega.{arith}
use native.Mathlib.Decide.{dec_le}
use lib.Dec.{leb}
use lib.ListN.{length, take, length-append}
use borrow.Author.Tests.{le-leb, lt-leb, ltb-false, ne_eqb}
use Rattle.words.specs.Words.{part, zeros, all_words}
use Rattle.words.specs.Keys.{key_lt, key_le, val}
use Rattle.words.proofs.Keys.{key_le-true}
use Rattle.words.proofs.All.{and_both, all_words-cons, all_words-append, all_words-part}
use Rattle.words.proofs.Values.{key_lt-val, key_lt-val-lt}
use Rattle.table.specs.Tables.{laid}
use Rattle.drum.specs.declared.Description.{Description}
use Rattle.drum.specs.Params.{I, good_params, index_shape, detail_shape}
use Rattle.drum.specs.Blocks.{block_at, Block}
use Rattle.drum.proofs.Good.{good-facts}
use Rattle.layout.specs.Create.{end_record}
use Rattle.layout.specs.Tree.{Leaf, Section, Tree, last_in, leaves_in, records_in, blocks_in, head_of, times}
use Rattle.layout.specs.Holds as lay
use Rattle.layout.proofs.Lists.{last-right}
use Rattle.demands.proofs.Records.{WideKey, key-long}
use Rattle.demands.proofs.Lists.{All, all_append, all_left, all_right, from_end}
use Rattle.demands.proofs.Order.{Asc}
use Rattle.demands.proofs.Cells as cells
use Rattle.demands.proofs.Rows.{length-cat}
use Rattle.demands.proofs.Trees.{key, bd, Ranged, leaf_cell, cells_of}
use Rattle.demands.proofs.Holds as held
use Rattle.demands.proofs.Locate.{reach-last}
use Rattle.demands.proofs.Blocks.{master_of}
use Rattle.demands.proofs.Entries.{master-rows}
use Rattle.demands.proofs.Sound.{Ended}
use Rattle.demands.proofs.Reader.{free_of, bound-last, index_same, detail-same, master-same, tree-times, chain-times, fresh-times}

-- layout's "each" is ours
all_same : {A : Type 0} (P : A → Type 0) (xs : List A) → lay.All P xs → All P xs
unfolding lay.All
all_same P [] h = tt
all_same P (x ∷ xs) h = (h.0, all_same P xs h.1)

-- ---- words of rows and of entries

rows-wide : (rows : List (List ℕ)) → all_words (flatten rows) ≡ true → All (λ r. all_words r ≡ true) rows
unfolding flatten
rows-wide [] h = tt
rows-wide (r ∷ rows) h = let q = and_both (all_words r) (all_words (flatten rows)) (sym (all_words-append r (flatten rows)) ∙ h) in (q.0, rows-wide rows q.1)

bounds-wide : (ls : List Leaf) → all_words (lay.index_entries ls) ≡ true → All (λ (l : Leaf). all_words l.bound ≡ true) ls
unfolding lay.index_entries
bounds-wide [] h = tt
bounds-wide (l ∷ ls) h =
    let q
    = and_both (all_words l.bound) (all_words (l.block ∷ lay.index_entries ls)) (sym (all_words-append l.bound (l.block ∷ lay.index_entries ls)) ∙ h) in
    (q.0, bounds-wide ls (all_words-cons l.block (lay.index_entries ls) q.1).1)

laid-wide : (w n : ℕ) (ws : List ℕ) → all_words (laid w n ws) ≡ true → all_words ws ≡ true
unfolding laid
laid-wide w n ws h =
    let q = (all_words-cons n (ws ++ zeros (w - 1 - length ws)) h).1 in
    (and_both (all_words ws) (all_words (zeros (w - 1 - length ws))) (sym (all_words-append ws (zeros (w - 1 - length ws))) ∙ q)).0

-- ---- one detail block: its keys as numbers

module _ (p : Description) (kr : p.k ≤ p.wpr) where
  abbrev K : List ℕ → ℕ
  K = key p.k

  lt-num : (a b : List ℕ) → WideKey p a → WideKey p b → key_lt a b ≡ true → val a < val b
  lt-num a b ha hb e = key_lt-val-lt a b ha.1 hb.1 (ha.0 ∙ sym hb.0) e

  le-num : (a b : List ℕ) → WideKey p a → WideKey p b → key_le a b ≡ true → val a ≤ val b
  le-num a b ha hb e = ltb-false (val b) (val a) (sym (key_lt-val b a hb.1 ha.1 (hb.0 ∙ sym ha.0)) ∙ key_le-true a b e)

  -- keys that ascend from b on, up to the bound
  asc-after : (b bound : List ℕ) → WideKey p b → WideKey p bound → (rs : List (List ℕ)) → All (held.RowOk p) rs → lay.ascending (b ∷ lay.keys_of p rs) ≡ true
      → lay.All (λ k. key_le k bound ≡ true) (lay.keys_of p rs) → (1 ≤ length rs) ⊎ (val b ≤ val bound) → Asc K (suc (val b)) rs (suc (val bound))
  unfolding lay.ascending lay.All key
  asc-after b bound hb hd [] ok up le (inl s) = absurd (omega arith)
  asc-after b bound hb hd [] ok up le (inr s) = omega arith
  asc-after b bound hb hd (r ∷ rs) ok up le s =
      let q = and_both (key_lt b (take p.k r)) (lay.ascending (take p.k r ∷ lay.keys_of p rs)) up in (
        lt-num b (take p.k r) hb (key-long p kr r ok.0) q.0,
        asc-after (take p.k r) bound (key-long p kr r ok.0) hd rs ok.1 q.1 le.1
            (inr (le-num (take p.k r) bound (key-long p kr r ok.0) hd le.0)),
      )

  asc-first : (bound : List ℕ) → WideKey p bound → (rs : List (List ℕ)) → All (held.RowOk p) rs → lay.ascending (lay.keys_of p rs) ≡ true
      → lay.All (λ k. key_le k bound ≡ true) (lay.keys_of p rs) → Asc K 0 rs (suc (val bound))
  unfolding lay.All key
  asc-first bound hd [] ok up le = omega arith
  asc-first bound hd (r ∷ rs) ok up le = (
    omega arith,
    asc-after (take p.k r) bound (key-long p kr r ok.0) hd rs ok.1 up le.1
        (inr (le-num (take p.k r) bound (key-long p kr r ok.0) hd le.0)),
  )

  -- what is known of the words of a leaf
  abbrev Words : Leaf → Type 0
  Words l = (all_words l.bound ≡ true) × All (λ r. all_words r ≡ true) l.records

  rows_ok : (rs : List (List ℕ)) → lay.All (λ r. length r ≡ p.wpr) rs → All (λ r. all_words r ≡ true) rs → All (held.RowOk p) rs
  unfolding lay.All
  rows_ok [] h q = tt
  rows_ok (r ∷ rs) h q = ((h.0, q.0), rows_ok rs h.1 q.1)

  leaf-held : (before : List (List ℕ)) (l : Leaf) → lay.LeafOk p before l → Words l → held.LeafFits p l
  leaf-held before l h q = record { some = h.counted.0; room = h.counted.1; rows = rows_ok l.records h.widths q.1; bound = h.width; wide = q.0 }

  leaves-held : (before : List (List ℕ)) (ls : List Leaf) → lay.LeavesOk p before ls → All Words ls → All (held.LeafFits p) ls
  unfolding lay.LeavesOk
  leaves-held before [] h q = tt
  leaves-held before (l ∷ ls) h q = (leaf-held before l h.0 q.0, leaves-held (l.bound ∷ []) ls h.1 q.1)

  ranged-after : (b : List ℕ) → WideKey p b → (ls : List Leaf) → lay.LeavesOk p (b ∷ []) ls → All Words ls → Ranged p.k (suc (val b)) ls
  unfolding lay.LeavesOk bd
  ranged-after b hb [] h q = tt
  ranged-after b hb (l ∷ ls) h q = (
    asc-after b l.bound hb (h.0.width, q.0.0) l.records (rows_ok l.records h.0.widths q.0.1) h.0.order h.0.bounded
        (inl h.0.counted.0),
    ranged-after l.bound (h.0.width, q.0.0) ls h.1 q.1,
  )

  ranged-first : (ls : List Leaf) → lay.LeavesOk p [] ls → All Words ls → Ranged p.k 0 ls
  unfolding lay.LeavesOk bd
  ranged-first [] h q = tt
  ranged-first (l ∷ ls) h q = (
    asc-first l.bound (h.0.width, q.0.0) l.records (rows_ok l.records h.0.widths q.0.1) h.0.order h.0.bounded,
    ranged-after
        l.bound (h.0.width, q.0.0) ls h.1 q.1,
  )

-- ---- the file

module _ (p : Description) (g : good_params p ≡ true) (f : List ℕ) (t : Tree) (h : lay.Holds p f t) where
  abbrev ss : List Section
  ss = t.sections

  kr : p.k ≤ p.wpr
  kr = (good-facts p g).key

  block-wide : (b : ℕ) → all_words (block_at p f b) ≡ true
  unfolding block_at
  block-wide b = all_words-part _ p.wpb f h.words

  index-words : (zs : List Section) → lay.All (lay.IndexIn p f) zs → All (λ (l : Leaf). all_words l.bound ≡ true) (leaves_in zs)
  unfolding lay.All
  index-words [] q = tt
  index-words (s ∷ zs) q =
      all_append (λ (l : Leaf). all_words l.bound ≡ true) s.leaves (leaves_in zs)
      (bounds-wide s.leaves (laid-wide p.wpb ((index_shape p).tag + length s.leaves) (lay.index_entries s.leaves) (ap all_words (sym q.0) ∙ block-wide s.block)))
      (index-words zs q.1)

  detail-words : (ls : List Leaf) → lay.All (lay.DetailIn p f) ls → All (λ (l : Leaf). all_words l.bound ≡ true) ls → All (Words p kr) ls
  unfolding lay.All
  detail-words [] q b = tt
  detail-words (l ∷ ls) q b = (
    (b.0, rows-wide l.records (laid-wide p.wpb ((detail_shape p).tag + length l.records) (flatten l.records) (ap all_words (sym q.0) ∙ block-wide l.block))),
    detail-words ls q.1 b.1,
  )

  words : All (Words p kr) (leaves_in ss)
  words = detail-words (leaves_in ss) h.details (index-words ss h.indexes)

  order : lay.LeavesOk p [] (leaves_in ss)
  order = h.leaves

  leaves-are : All (held.LeafFits p) (leaves_in ss)
  leaves-are = leaves-held p kr [] (leaves_in ss) order words

  sections-are : (zs : List Section) → lay.All (λ (s : Section). lay.OneTo (I p) (length s.leaves)) zs → All (held.LeafFits p) (leaves_in zs)
      → All (held.SectionOk p) zs
  unfolding lay.All
  sections-are [] c q = tt
  sections-are (s ∷ zs) c q = (
    record { some = c.0.0; room = c.0.1; leaves = all_left (held.LeafFits p) s.leaves _ q },
    sections-are zs c.1
        (all_right (held.LeafFits p) s.leaves _ q),
  )

  sized : All (held.SectionOk p) ss
  sized = sections-are ss h.counted leaves-are

  some-leaf : 1 ≤ length (leaves_in ss)
  some-leaf = go ss sized h.control.0
    where
      go : (zs : List Section) → All (held.SectionOk p) zs → 1 ≤ length zs → 1 ≤ length (leaves_in zs)
      go [] q l = absurd (omega arith)
      go (s ∷ zs) q l = rw (length-append s.leaves (leaves_in zs)) (omega (arith, q.0.some))

  -- ---- the cells agree

  agree-leaves : (ls : List Leaf) → lay.All (lay.DetailIn p f) ls → cells.Agree (block_at p f) (map (leaf_cell p) ls)
  unfolding lay.All leaf_cell
  agree-leaves [] q = tt
  agree-leaves (l ∷ ls) q = (q.0 ∙ detail-same p l.records, agree-leaves ls q.1)

  agree-tree : (zs : List Section) → lay.All (lay.IndexIn p f) zs → lay.All (lay.DetailIn p f) (leaves_in zs) → cells.Agree (block_at p f) (cells_of p zs)
  unfolding lay.All cells_of
  agree-tree [] i d = tt
  agree-tree (s ∷ zs) i d =
      let P : cells.Cell → Type 0 = λ c. block_at p f c.0 ≡ c.1 in (
        i.0 ∙ index_same p s.leaves,
        all_append P (map (leaf_cell p) s.leaves) (cells_of p zs)
            (agree-leaves s.leaves (left s.leaves (leaves_in zs) d)) (agree-tree zs i.1 (right s.leaves (leaves_in zs) d)),
      )
    where
      left : (xs ys : List Leaf) → lay.All (lay.DetailIn p f) (xs ++ ys) → lay.All (lay.DetailIn p f) xs
      left [] ys q = unfold lay.All in tt
      left (x ∷ xs) ys q = unfold lay.All in (q.0, left xs ys q.1)

      right : (xs ys : List Leaf) → lay.All (lay.DetailIn p f) (xs ++ ys) → lay.All (lay.DetailIn p f) ys
      right [] ys q = q
      right (x ∷ xs) ys q = unfold lay.All in right xs ys q.1

  agree-chain : (cs : List ℕ) → lay.ChainIn p f cs → cells.Agree (block_at p f) (held.chain_cells p cs)
  unfolding lay.ChainIn head_of
  agree-chain [] q = tt
  agree-chain (c ∷ []) q = (q.0, tt)
  agree-chain (c ∷ (d ∷ cs)) q = (q.0, agree-chain (d ∷ cs) q.1)

  agree_fresh : (u s : ℕ) → t.lowest ≤ u → u + s ≤ suc p.n → cells.Agree (block_at p f) (held.fresh_cells p u s)
  agree_fresh u zero l e = tt
  agree_fresh u (suc s) l e = (h.unused u l (omega arith), agree_fresh (u + 1) s (omega arith) (omega arith))

  agrees : cells.Agree (block_at p f) (cells_of p ss ++ held.free_cells p (free_of p t))
  unfolding held.free_cells
  agrees =
      let P : cells.Cell → Type 0 = λ c. block_at p f c.0 ≡ c.1 in
      all_append P (cells_of p ss) _ (agree-tree ss h.indexes h.details)
      (all_append P (held.chain_cells p t.chain) _ (agree-chain t.chain h.chained)
      (agree_fresh t.lowest (suc p.n - t.lowest) (omega arith) (omega (arith, h.lowest.1))))

  -- ---- each block once

  outside : (b : ℕ) (cs : List ℕ) → lay.All (Block p) cs → (Block p b → ⊥) → times b cs ≡ 0
  unfolding times lay.All
  outside b [] q n = refl
  outside b (c ∷ cs) q n = rw (ne_eqb b c (λ e. n (subst (Block p) (sym e) q.0))) (omega (arith, outside b cs q.1 n))

  counts : (b : ℕ) → cells.cell_times b (cells_of p ss ++ held.free_cells p (free_of p t))
      ≡ times b (blocks_in ss) + times b t.chain + cond (leb t.lowest b && leb (suc b) (t.lowest + (suc p.n - t.lowest))) 1 0
  unfolding held.free_cells cells.cell_times
  counts b =
      let w : cells.Cell → ℕ = λ c. cells.is c.0 b in
      cells.weigh-append w (cells_of p ss) (held.chain_cells p t.chain ++ held.fresh_cells p t.lowest (suc p.n - t.lowest))
      ∙ ap (λ (n : ℕ). cells.weigh w (cells_of p ss) + n)
      (cells.weigh-append w (held.chain_cells p t.chain) (held.fresh_cells p t.lowest (suc p.n - t.lowest)))
      ∙ omega (arith, tree-times b p ss, chain-times b p t.chain, fresh-times b p t.lowest (suc p.n - t.lowest))

  once : (b : ℕ) → cells.cell_times b (cells_of p ss ++ held.free_cells p (free_of p t)) ≡ held.inside p.n b
  unfolding held.inside
  once b = counts b ∙ go (dec_le 1 b) (dec_le b p.n)
    where
      go : Dec (1 ≤ b) → Dec (b ≤ p.n)
          → times b (blocks_in ss) + times b t.chain + cond (leb t.lowest b && leb (suc b) (t.lowest + (suc p.n - t.lowest))) 1 0
          ≡ cells.bit (leb 1 b && leb b p.n)
      go (yes l) (yes u) = rw (
        le-leb 1 b l,
        le-leb b p.n u,
        le-leb (suc b) (t.lowest + (suc p.n - t.lowest)) (omega (arith, h.lowest.1)),
        and_right
            (leb t.lowest b),
      ) (h.once b (l, u))
        where
          and_right : (x : Bool) → (x && true) ≡ x
          and_right true = refl
          and_right false = refl
      go (no n) d =
          rw (
            outside b (blocks_in ss) h.reached (λ q. n q.0),
            outside b t.chain h.linked (λ q. n q.0),
            lt-leb 1 b (omega arith),
            lt-leb
                t.lowest b (omega (arith, h.lowest.0)),
          )
      go (yes l) (no n) =
          rw (
            outside b (blocks_in ss) h.reached (λ q. n q.1),
            outside b t.chain h.linked (λ q. n q.1),
            lt-leb b p.n (omega arith),
            le-leb 1 b l,
            lt-leb (suc b) (t.lowest + (suc p.n - t.lowest)) (omega (arith, h.lowest.1)),
            and-false (leb t.lowest b),
          )

  -- ---- together

  pub cells-held : held.HoldsCells p (master_of p f) (block_at p f) t.sections (free_of p t)
  cells-held = record {
    master-is = master ∙ master-same p t (length-cat (p.k + 1) (map (held.master_entry p) ss) (master-rows p ss sized));
    agree = agrees;
    once = once;
    ranged = ranged-first p kr (leaves_in ss) order words;
    top = reach-last p.k 0 [] (leaves_in ss) some-leaf ∙ ap (λ (b : List ℕ). suc (val b)) (sym (bound-last (leaves_in ss)) ∙ h.last);
    sized = sized;
    sections = h.control.1;
    numbers = omega (arith, h.lowest.1);
  }
    where
      master : master_of p f ≡ lay.master_text p t
      master = unfold master_of part in h.master

  pub contents-ended : Ended p (records_in (leaves_in t.sections))
  contents-ended = go (from_end (records_in (leaves_in ss)))
    where
      e : last_in (records_in (leaves_in ss)) ≡ end_record p
      e = h.end

      some : (ls : List Leaf) → All (held.LeafFits p) ls → 1 ≤ length ls → 1 ≤ length (records_in ls)
      some [] q l = absurd (omega arith)
      some (m ∷ ls) q l = rw (length-append m.records (records_in ls)) (omega (arith, q.0.some))

      go : (records_in (leaves_in ss) ≡ []) ⊎ ((xs : List (List ℕ)) × (y : List ℕ) × (records_in (leaves_in ss) ≡ xs ++ y ∷ [])) → Ended p (records_in (leaves_in ss))
      go (inl z) = absurd (omega (arith, some (leaves_in ss) leaves-are some-leaf, ap length z))
      go (inr (xs, y, z)) =
          let ly : y ≡ end_record p = sym (last-right xs (y ∷ []) (omega arith) ∙ last_one y) ∙ ap last_in (sym z) ∙ e in
          record { front = xs; is = z ∙ ap (λ (r : List ℕ). xs ++ r ∷ []) ly }
        where
          last_one : (y : List ℕ) → last_in (y ∷ []) ≡ y
          last_one y = unfold last_in in refl
