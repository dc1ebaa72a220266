-- A file that holds a tree's cells is one in which the tree stands (layout's Holds): the way back.
use Prim.Native.Nat.{ℕ, zero, suc, ◌+◌, ◌≤◌, ◌<◌}
use mathlib.Core.Bool.{Bool, true, false, cond, ◌&&◌}
use mathlib.Core.Path.{◌≡◌, refl, sym, ap, ap₂, ◌∙◌}
use mathlib.Core.List.{List, [], ◌∷◌, ◌++◌, map}
use native.Mathlib.Omega.{arith}
use native.Mathlib.Decide.{ℕ_discrete}
use lib.Dec.{leb}
use lib.ListN.{length, length-replicate}
use borrow.Author.Tests.{le-leb, eq-eqb}
use Rattle.words.specs.Words.{part, zeros, top_word}
use Rattle.words.specs.Keys.{ones, val}
use Rattle.words.proofs.All.{all_words-replicate}
use Rattle.words.proofs.Values.{val_inj}
use Rattle.drum.specs.declared.Description.{Description}
use Rattle.drum.specs.Params.{I, master_size, good_params, file_size}
use Rattle.drum.specs.Blocks.{block_at, Block}
use Rattle.drum.proofs.Good.{good-facts}
use Rattle.layout.specs.Create.{end_record}
use Rattle.layout.specs.Tree.{Leaf, Section, Tree, last_in, leaves_in, records_in, blocks_in, head_of, times}
use Rattle.layout.specs.Holds as lay
use Rattle.layout.proofs.Lists.{last-right}
use Rattle.demands.proofs.Lists.{All, all_append, all_left, all_right}
use Rattle.demands.proofs.Cells as cells
use Rattle.demands.proofs.Rows.{length-cat}
use Rattle.demands.proofs.Trees.{reach, leaf_cell, cells_of}
use Rattle.demands.proofs.Holds as held
use Rattle.demands.proofs.Locate.{reach-last}
use Rattle.demands.proofs.Blocks.{master_of}
use Rattle.demands.proofs.Entries.{master-rows, last-bounded}
use Rattle.demands.proofs.Places.{inside-low}
use Rattle.demands.proofs.Sound.{Ended}
use Rattle.demands.proofs.Reader.{bound-last, index_same, detail-same, master-same, tree-times, chain-times, fresh-times}
use Rattle.demands.proofs.Ascends.{told-first}
use Rattle.demands.proofs.Words.{words}

module _ (p : Description) (g : good_params p ≡ true) (f : List ℕ) (size : length f ≡ file_size p) (ss : List Section) (fr : held.Free)
    (h : held.HoldsCells p (master_of p f) (block_at p f) ss fr) (z : Ended p (records_in (leaves_in ss))) where
  -- the tree
  abbrev pub tree : Tree
  tree = record { sections = ss; chain = fr.chain; lowest = fr.lowest }

  kr : p.k ≤ p.wpr
  kr = (good-facts p g).key

  leaves-ok : (zs : List Section) → All (held.SectionOk p) zs → All (held.LeafFits p) (leaves_in zs)
  leaves-ok [] q = tt
  leaves-ok (s ∷ zs) q = all_append (held.LeafFits p) s.leaves _ q.0.leaves (leaves-ok zs q.1)

  oks : All (held.LeafFits p) (leaves_in ss)
  oks = leaves-ok ss h.sized

  some-section : 1 ≤ length ss
  some-section = go ss h.top
    where
      go : (zs : List Section) → reach p.k 0 (leaves_in zs) ≡ suc (val (ones p.k)) → 1 ≤ length zs
      go [] e = absurd (omega (arith, e))
      go (s ∷ zs) e = omega arith

  some-leaf : 1 ≤ length (leaves_in ss)
  some-leaf = go (leaves_in ss) h.top
    where
      go : (ls : List Leaf) → reach p.k 0 ls ≡ suc (val (ones p.k)) → 1 ≤ length ls
      go [] e = absurd (omega (arith, e))
      go (l ∷ ls) e = omega arith

  -- ---- texts

  agree-leaves : (ls : List Leaf) → cells.Agree (block_at p f) (map (leaf_cell p) ls) → lay.All (lay.DetailIn p f) ls
  unfolding lay.All leaf_cell
  agree-leaves [] q = tt
  agree-leaves (l ∷ ls) q = (q.0 ∙ sym (detail-same p l.records), agree-leaves ls q.1)

  join : (xs ys : List Leaf) → lay.All (lay.DetailIn p f) xs → lay.All (lay.DetailIn p f) ys → lay.All (lay.DetailIn p f) (xs ++ ys)
  unfolding lay.All
  join [] ys a b = b
  join (x ∷ xs) ys a b = (a.0, join xs ys a.1 b)

  texts : (zs : List Section) → cells.Agree (block_at p f) (cells_of p zs) → lay.All (lay.IndexIn p f) zs × lay.All (lay.DetailIn p f) (leaves_in zs)
  unfolding lay.All cells_of
  texts [] q = (tt, tt)
  texts (s ∷ zs) q =
      let P : cells.Cell → Type 0 = λ c. block_at p f c.0 ≡ c.1 in
      let rest = texts zs (all_right P (map (leaf_cell p) s.leaves) _ q.1) in (
        (q.0 ∙ sym (index_same p s.leaves), rest.0),
        join s.leaves (leaves_in zs)
            (agree-leaves s.leaves (all_left P (map (leaf_cell p) s.leaves) _ q.1)) rest.1,
      )

  chain-texts : (cs : List ℕ) → cells.Agree (block_at p f) (held.chain_cells p cs) → lay.ChainIn p f cs
  unfolding lay.ChainIn head_of
  chain-texts [] q = tt
  chain-texts (c ∷ []) q = (q.0, tt)
  chain-texts (c ∷ (d ∷ cs)) q = (q.0, chain-texts (d ∷ cs) q.1)

  fresh-text : (u s b : ℕ) → u ≤ b → b < u + s → cells.Agree (block_at p f) (held.fresh_cells p u s) → block_at p f b ≡ zeros p.wpb
  fresh-text u zero b l m q = absurd (omega arith)
  fresh-text u (suc s) b l m q = go (ℕ_discrete u b) (λ x y. fresh-text (u + 1) s b x y q.1)
    where
      go : Dec (u ≡ b) → (u + 1 ≤ b → b < u + 1 + s → block_at p f b ≡ zeros p.wpb) → block_at p f b ≡ zeros p.wpb
      go (yes e) k = ap (block_at p f) (sym e) ∙ q.0
      go (no n) k = k (omega arith) (omega arith)

  abbrev T : cells.Cell → Type 0
  T c = block_at p f c.0 ≡ c.1

  in_tree : cells.Agree (block_at p f) (cells_of p ss)
  in_tree = all_left T (cells_of p ss) _ h.agree

  in-free : cells.Agree (block_at p f) (held.chain_cells p fr.chain) × cells.Agree (block_at p f) (held.fresh_cells p fr.lowest fr.spare)
  unfolding held.free_cells
  in-free =
      let q = all_right T (cells_of p ss) _ h.agree in
      (all_left T (held.chain_cells p fr.chain) _ q, all_right T (held.chain_cells p fr.chain) _ q)

  -- ---- each block once

  counts : (b : ℕ) → times b (blocks_in ss) + times b fr.chain + cond (leb fr.lowest b && leb (suc b) (fr.lowest + fr.spare)) 1 0 ≡ held.inside p.n b
  unfolding held.free_cells cells.cell_times
  counts b =
      let w : cells.Cell → ℕ = λ c. cells.is c.0 b in
      omega (
        arith,
        h.once b,
        cells.weigh-append w (cells_of p ss) (held.chain_cells p fr.chain ++ held.fresh_cells p fr.lowest fr.spare),
        cells.weigh-append w (held.chain_cells p fr.chain) (held.fresh_cells p fr.lowest fr.spare),
        tree-times b p ss,
        chain-times b p fr.chain,
        fresh-times b p fr.lowest fr.spare,
      )

  all-times : (cs : List ℕ) → ((b : ℕ) → 1 ≤ times b cs → Block p b) → lay.All (Block p) cs
  unfolding times lay.All
  all-times [] q = tt
  all-times (c ∷ cs) q = (q c (omega (arith, ap (λ (t : Bool). cond {A = ℕ} t 1 0) (eq-eqb c c refl))), all-times cs (λ b l. q b (omega arith)))

  lowest-in : 1 ≤ fr.lowest
  lowest-in = go fr.spare refl
    where
      go : (s : ℕ) → fr.spare ≡ s → 1 ≤ fr.lowest
      go zero e = omega (arith, h.numbers)
      go (suc s) e =
          (inside-low p.n fr.lowest (omega (
            arith,
            counts fr.lowest,
            ap (λ (t : Bool). cond {A = ℕ} t 1 0) (ap₂ (λ (x y : Bool). x && y) (le-leb fr.lowest fr.lowest (omega arith))
                (le-leb (suc fr.lowest) (fr.lowest + fr.spare) (omega (arith, e)))),
          ))).0

  -- ---- together

  counted-in : (zs : List Section) → All (held.SectionOk p) zs → lay.All (λ (s : Section). lay.OneTo (I p) (length s.leaves)) zs
  unfolding lay.All
  counted-in [] q = tt
  counted-in (s ∷ zs) q = ((q.0.some, q.0.room), counted-in zs q.1)

  pub told-holds : lay.Holds p f tree
  told-holds = record {
    size = size;
    words = words p g f size ss fr h;
    master = master;
    indexes = (texts ss in_tree).0;
    details = (texts ss in_tree).1;
    chained = chain-texts fr.chain in-free.0;
    unused = λ b l u. fresh-text fr.lowest fr.spare b l (omega (arith, h.numbers)) in-free.1;
    control = (some-section, h.sections);
    counted = counted-in ss h.sized;
    leaves = told-first p kr (leaves_in ss) oks h.ranged;
    last = bound-last (leaves_in ss) ∙ top;
    end = ap last_in z.is ∙ last-right z.front (end_record p ∷ []) (omega arith) ∙ last_one (end_record p);
    once = λ b i. sum b i;
    reached = all-times (blocks_in ss) (λ b l. inside-low p.n b (omega (arith, counts b)));
    linked = all-times fr.chain (λ b l. inside-low p.n b (omega (arith, counts b)));
    lowest = (lowest-in, omega (arith, h.numbers));
  }
    where
      master : part 0 (master_size p) f ≡ lay.master_text p tree
      master =
          unfold master_of part held.master_for in
          (h.master-is ∙ sym (master-same p tree (length-cat (p.k + 1) (map (held.master_entry p) ss) (master-rows p ss h.sized))))

      top : held.last_bound [] (leaves_in ss) ≡ ones p.k
      top =
          let lb = last-bounded p [] (leaves_in ss) some-leaf oks in
          val_inj (held.last_bound [] (leaves_in ss)) (ones p.k) lb.1 (all_words-replicate p.k top_word (omega arith))
          (lb.0 ∙ sym (length-replicate {A = ℕ} p.k top_word))
          (omega (arith, h.top, reach-last p.k 0 [] (leaves_in ss) some-leaf))

      last_one : (y : List ℕ) → last_in (y ∷ []) ≡ y
      last_one y = unfold last_in in refl

      sum : (b : ℕ) → Block p b → times b (blocks_in ss) + times b fr.chain + cond (leb fr.lowest b) 1 0 ≡ 1
      sum b i =
          ap (λ (t : Bool). times b (blocks_in ss) + times b fr.chain + cond {A = ℕ} t 1 0)
          (sym (ap (λ (t : Bool). leb fr.lowest b && t) (le-leb (suc b) (fr.lowest + fr.spare) (omega (arith, h.numbers))) ∙ and_right
          (leb fr.lowest b)))
          ∙ counts b ∙ inside_one b i
        where
          and_right : (x : Bool) → (x && true) ≡ x
          and_right true = refl
          and_right false = refl

          inside_one : (b : ℕ) → Block p b → held.inside p.n b ≡ 1
          inside_one b i = unfold held.inside in rw (le-leb 1 b i.0, le-leb b p.n i.1)
