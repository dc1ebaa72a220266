-- Two files that hold one tree under one description are one file: the master is the tree's, and so is each block, reached, on the chain or never used.
use Prim.Native.Nat.{ℕ, zero, suc, ◌+◌, ◌≤◌}
use mathlib.Core.Path.{◌≡◌, refl, sym, ap, ◌∙◌}
use mathlib.Core.List.{List, [], ◌∷◌, ◌++◌}
use mathlib.Core.Bool.{Bool, true, false, cond}
use native.Mathlib.Omega.{arith}
use native.Mathlib.Nat.{not-suc-le-zero}
use lib.Dec.{leb, eqb}
use borrow.Author.Tests.{leb-true, leb-false, eqb-true}
use Rattle.words.specs.Words.{part}
use Rattle.words.proofs.Parts.{part-all, part-add}
use Rattle.drum.specs.declared.Description.{Description}
use Rattle.drum.specs.Params.{file_size, start}
use Rattle.drum.specs.Blocks.{block_at, Block}
use Rattle.layout.specs.Tree.{Leaf, Section, Tree, leaves_in, leaf_blocks, blocks_in, reached_blocks, times}
use Rattle.layout.specs.Holds.{All, IndexIn, DetailIn, ChainIn, Holds}
use Rattle.layout.specs.Copied.{OneFile}
use Rattle.layout.proofs.Good.{start_first, start-next, start-end}
use Rattle.layout.proofs.Lists.{all_append, all_left, all_right}

-- what holds of each in a list holds of a block that stands in it
pub all-times : (P : ℕ → Type 0) (b : ℕ) (cs : List ℕ) → All P cs → 1 ≤ times b cs → P b
unfolding All times
all-times P b [] h k = absurd (not-suc-le-zero k)
all-times P b (c ∷ cs) (h, hs) k = go (eqb b c) refl k (all-times P b cs hs)
  where
    go : (t : Bool) → eqb b c ≡ t → 1 ≤ cond t 1 0 + times b cs → (1 ≤ times b cs → P b) → P b
    go true e k more = rw (eqb-true b c e) h
    go false e k more = more (omega arith)

-- the words before block b + 2: those before block b + 1, and that block
pub one_more_lem : (p : Description) (l : List ℕ) (b : ℕ) → part 0 (start p (suc b + 1)) l ≡ part 0 (start p (b + 1)) l ++ block_at p l (b + 1)
unfolding block_at
one_more_lem p l b =
    let n : suc b + 1 ≡ b + 1 + 1 = omega arith in
    let z : 0 + start p (b + 1) ≡ start p (b + 1) = omega arith in
    ap (λ (x : ℕ). part 0 (start p x) l) n
    ∙ ap (λ (x : ℕ). part 0 x l) (start-next p (b + 1) (omega arith))
    ∙ part-add 0 (start p (b + 1)) p.wpb l
    ∙ ap (λ (x : ℕ). part 0 (start p (b + 1)) l ++ part x p.wpb l) z

module _ (p : Description) (f g : List ℕ) where
  -- the block has the same words in both
  abbrev Alike : ℕ → Type 0
  Alike b = block_at p f b ≡ block_at p g b

  leaves_alike : (ls : List Leaf) → All (DetailIn p f) ls → All (DetailIn p g) ls → All Alike (leaf_blocks ls)
  unfolding All leaf_blocks
  leaves_alike [] h k = tt
  leaves_alike (l ∷ ls) (a, h) (b, k) = (a ∙ sym b, leaves_alike ls h k)

  reached-alike : (ss : List Section) → All (IndexIn p f) ss → All (IndexIn p g) ss → All (DetailIn p f) (leaves_in ss) → All (DetailIn p g) (leaves_in ss)
      → All Alike (blocks_in ss)
  unfolding All leaves_in blocks_in
  reached-alike [] i j h k = tt
  reached-alike (s ∷ ss) (a, i) (b, j) h k =
      let here = leaves_alike s.leaves (all_left (DetailIn p f) s.leaves _ h) (all_left (DetailIn p g) s.leaves _ k) in
      let more = reached-alike ss i j (all_right (DetailIn p f) s.leaves _ h) (all_right (DetailIn p g) s.leaves _ k) in
      (a ∙ sym b, all_append Alike (leaf_blocks s.leaves) (blocks_in ss) here more)

  chain-alike : (cs : List ℕ) → ChainIn p f cs → ChainIn p g cs → All Alike cs
  unfolding All ChainIn
  chain-alike [] h k = tt
  chain-alike (c ∷ cs) (a, h) (b, k) = (a ∙ sym b, chain-alike cs h k)

  module _ (t : Tree) (h : Holds p f t) (k : Holds p g t) where
    block-alike : (b : ℕ) → Block p b → Alike b
    block-alike b i = go (leb t.lowest b) (leb 1 (times b (reached_blocks t))) refl refl (h.once b i)
      where
        go : (u r : Bool) → leb t.lowest b ≡ u → leb 1 (times b (reached_blocks t)) ≡ r
            → times b (reached_blocks t) + times b t.chain + cond u 1 0 ≡ 1 → Alike b
        go true r e q o = h.unused b (leb-true _ _ e) i.1 ∙ sym (k.unused b (leb-true _ _ e) i.1)
        go false true e q o =
            all-times Alike b (reached_blocks t) (reached-alike t.sections h.indexes k.indexes h.details k.details) (leb-true _ _ q)
        go false false e q o =
            all-times Alike b t.chain (chain-alike t.chain h.chained k.chained) (omega (arith, leb-false 1 (times b (reached_blocks t)) q))

    -- the words before block b + 1
    before-alike : (b : ℕ) → b ≤ p.n → part 0 (start p (b + 1)) f ≡ part 0 (start p (b + 1)) g
    before-alike zero i = rw (start_first p) (h.master ∙ sym k.master)
    before-alike (suc b) i =
        let a : Alike (b + 1) = block-alike (b + 1) (omega arith, omega arith) in
        one_more_lem p f b ∙ rw (before-alike b (omega arith), a) (sym (one_more_lem p g b))

    whole-alike : f ≡ g
    whole-alike =
        let e : start p (p.n + 1) ≡ file_size p = start-end p in
        let a : part 0 (file_size p) f ≡ part 0 (file_size p) g = rw (← e) (before-alike p.n (omega arith)) in
        sym (part-all (file_size p) f h.size) ∙ a ∙ part-all (file_size p) g k.size

pub one-file : OneFile
one-file p f g t h k = whole-alike p f g t h k
