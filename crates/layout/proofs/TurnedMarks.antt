-- The marks by which a file is turned: OPEN's, with 3 for each index block. What they are for a block of each kind of a file that holds a tree.
use Prim.Native.Nat.{ℕ, zero, suc, ◌+◌, ◌*◌, ◌-◌, ◌≤◌, ◌<◌}
use mathlib.Core.Path.{◌≡◌, refl, sym, ap, ◌∙◌}
use mathlib.Core.Bool.{Bool, true, false, cond}
use mathlib.Core.List.{List, [], ◌∷◌, ◌++◌}
use native.Mathlib.Omega.{arith}
use native.Mathlib.Nat.{not-suc-le-zero}
use lib.Dec.{leb, eqb}
use lib.ListN.{length, get_or, set}
use lib.Seq.{get_or-set_same, get_or-set_other}
use borrow.Author.Tests.{le-leb, lt-leb, eqb-true, eqb-false}
use Rattle.table.specs.Tables.{block_in}
use Rattle.drum.specs.declared.Description.{Description}
use Rattle.drum.specs.Params.{good_params, master_shape}
use Rattle.drum.specs.Blocks.{sections, Block}
use Rattle.layout.specs.Inspect.{named}
use Rattle.layout.specs.Tree.{Leaf, Section, Tree, leaves_in, leaves_of, leaf_blocks, blocks_in, reached_blocks, times, mark_of, marks_of}
use Rattle.layout.specs.Holds.{All, Holds}
use Rattle.layout.specs.Turned.{index_marked, indexes_in}
use Rattle.layout.proofs.Good.{Sized, good-facts, row_more}
use Rattle.layout.proofs.Lists.{all_right}
use Rattle.layout.proofs.Read.{section_at, sections_at, tree_at}
use Rattle.layout.proofs.Marked.{marks-length, marks-at}
use Rattle.layout.proofs.Unique.{tree-at}
use Rattle.layout.proofs.TurnedBlocks.{length_marked}

-- how often a block stands in joined lists; reached is an index block or a detail block
pub times-append : (b : ℕ) (xs ys : List ℕ) → times b (xs ++ ys) ≡ times b xs + times b ys
unfolding times
times-append b [] ys = omega arith
times-append b (x ∷ xs) ys = omega (arith, times-append b xs ys)

blocks-append : (xs ys : List Leaf) → leaf_blocks (xs ++ ys) ≡ leaf_blocks xs ++ leaf_blocks ys
unfolding leaf_blocks
blocks-append [] ys = refl
blocks-append (x ∷ xs) ys = ap (λ (l : List ℕ). x.block ∷ l) (blocks-append xs ys)

pub reached-either : (b : ℕ) (ss : List Section) → times b (blocks_in ss) ≡ times b (indexes_in ss) + times b (leaf_blocks (leaves_in ss))
unfolding times blocks_in indexes_in leaf_blocks
reached-either b [] = refl
reached-either b (s ∷ ss) =
    let ih = reached-either b ss in
    let x = times-append b (leaf_blocks s.leaves) (blocks_in ss) in
    let y = ap (times b) (blocks-append s.leaves (leaves_in ss)) ∙ times-append b (leaf_blocks s.leaves) (leaf_blocks (leaves_in ss)) in
    omega arith

module _ (p : Description) (f : List ℕ) where
  -- the entries of the master name the index blocks: none of none, and of n + 1 the last and those of n
  last-named : (b n e : ℕ) → times b (indexes_in (sections_at p f e (suc n)))
      ≡ times b (indexes_in (sections_at p f e n)) + cond (eqb b (named p f (e + n * (p.k + 1)))) 1 0
  unfolding times indexes_in sections_at section_at
  last-named b zero e = let z : e + 0 * (p.k + 1) ≡ e = omega arith in rw z (omega arith)
  last-named b (suc n) e =
      let m = row_more n (p.k + 1) in
      let z : e + (p.k + 1) + n * (p.k + 1) ≡ e + suc n * (p.k + 1) = omega arith in
      let ih = rw z at (last-named b n (e + (p.k + 1))) in
      omega (arith, ih)

  none_named : (b e : ℕ) → times b (indexes_in (sections_at p f e zero)) ≡ 0
  unfolding times indexes_in sections_at
  none_named b e = refl

  named-all : (n e : ℕ) → All (Block p) (blocks_in (sections_at p f e n)) → (i : ℕ) → i < n → Block p (named p f (e + i * (p.k + 1)))
  unfolding All blocks_in sections_at section_at
  named-all zero e h i l = absurd (not-suc-le-zero l)
  named-all (suc n) e (x, h) zero l = let z : e + 0 * (p.k + 1) ≡ e = omega arith in rw z x
  named-all (suc n) e (x, h) (suc i) l =
      let m = row_more i (p.k + 1) in
      let z : e + suc i * (p.k + 1) ≡ e + (p.k + 1) + i * (p.k + 1) = omega arith in
      rw z (named-all n (e + (p.k + 1)) (all_right (Block p) (leaf_blocks (section_at p f e).leaves) _ h) i (omega arith))

  -- so they have the mark 3, and no other
  named-marks : (n b : ℕ) (marks : List ℕ) → 1 ≤ b → b ≤ length marks → ((i : ℕ) → i < n → 1 ≤ named p f (3 + i * (p.k + 1)))
      → get_or (index_marked p f n marks) (b - 1) 0 ≡ cond (leb 1 (times b (indexes_in (sections_at p f 3 n)))) 3 (get_or marks (b - 1) 0)
  unfolding index_marked block_in master_shape
  named-marks zero b marks l h some = rw (none_named b 3)
  named-marks (suc n) b marks l h some = go (eqb b c) refl (named-marks n b marks l h (λ i k. some i (omega arith))) (last-named b n 3)
    where
      c : ℕ
      c = named p f (3 + n * (p.k + 1))

      ms : List ℕ
      ms = index_marked p f n marks

      go : (x : Bool) → eqb b c ≡ x
          → get_or ms (b - 1) 0 ≡ cond (leb 1 (times b (indexes_in (sections_at p f 3 n)))) 3 (get_or marks (b - 1) 0)
          → times b (indexes_in (sections_at p f 3 (suc n))) ≡ times b (indexes_in (sections_at p f 3 n)) + cond x 1 0
          → get_or (set ms (c - 1) 3) (b - 1) 0 ≡ cond (leb 1 (times b (indexes_in (sections_at p f 3 (suc n))))) 3 (get_or marks (b - 1) 0)
      go true e ih t =
          let s : b ≡ c = eqb-true b c e in
          let len : length ms ≡ length marks = length_marked p f n marks in
          let in-marks : c - 1 < length ms = omega arith in
          ap (λ (x : ℕ). get_or (set ms (c - 1) 3) (x - 1) 0) s
          ∙ get_or-set_same ms (c - 1) 3 0 in-marks
          ∙ sym (rw (le-leb 1 (times b (indexes_in (sections_at p f 3 (suc n)))) (omega arith)))
      go false e ih t =
          let d : b ≡ c → ⊥ = eqb-false b c e in
          let least : 1 ≤ c = some n (omega arith) in
          let d' : b - 1 ≡ c - 1 → ⊥ = λ z. d (omega arith) in
          let same : times b (indexes_in (sections_at p f 3 (suc n))) ≡ times b (indexes_in (sections_at p f 3 n)) = omega arith in
          get_or-set_other ms (c - 1) (b - 1) 3 0 d' ∙ ih ∙ sym (rw same)

-- of a file that holds a tree
module _ (p : Description) (f : List ℕ) (t : Tree) (good : good_params p ≡ true) (h : Holds p f t) where
  z : Sized p f
  z = record { good = good-facts p good; size = h.size }

  abbrev pub turn_mark : ℕ → ℕ
  turn_mark b = get_or (index_marked p f (sections f) (marks_of t p.n)) (b - 1) 0

  pub turn-mark : (b : ℕ) → Block p b → turn_mark b ≡ cond (leb 1 (times b (indexes_in t.sections))) 3 (mark_of t b)
  unfolding tree_at
  turn-mark b (l, k) =
      let e : sections_at p f 3 (sections f) ≡ t.sections = ap (λ (u : Tree). u.sections) (tree-at p f z t h) in
      let all = named-all p f (sections f) 3 (rw e h.reached) in
      let len = marks-length t p.n 1 in
      let i : 1 + (b - 1) ≡ b = omega arith in
      let m : get_or (marks_of t p.n) (b - 1) 0 ≡ mark_of t b = marks-at t p.n 1 (b - 1) (omega arith) ∙ ap (mark_of t) i in
      named-marks p f (sections f) b (marks_of t p.n) l (omega arith) (λ i k. (all i k).0) ∙ rw (e, m)

  -- the entries name blocks of the file
  pub named-block : (i : ℕ) → i < sections f → Block p (block_in (master_shape p) f i)
  unfolding block_in master_shape tree_at
  named-block i k =
      let e : sections_at p f 3 (sections f) ≡ t.sections = ap (λ (u : Tree). u.sections) (tree-at p f z t h) in
      named-all p f (sections f) 3 (rw e h.reached) i k

  module _ (b : ℕ) (i : Block p b) where
    either : times b (reached_blocks t) ≡ times b (indexes_in t.sections) + times b (leaf_blocks (leaves_of t))
    either = reached-either b t.sections

    pub mark-index : 1 ≤ times b (indexes_in t.sections) → turn_mark b ≡ 3
    mark-index k = turn-mark b i ∙ rw (le-leb 1 (times b (indexes_in t.sections)) k)

    pub mark-detail : 1 ≤ times b (leaf_blocks (leaves_of t)) → turn_mark b ≡ 1
    unfolding mark_of
    mark-detail k =
        let x = lt-leb 1 (times b (indexes_in t.sections)) (omega (arith, either, h.once b i)) in
        let y = le-leb 1 (times b (reached_blocks t)) (omega (arith, either)) in
        turn-mark b i ∙ rw (x, y)

    pub mark-chained : 1 ≤ times b t.chain → turn_mark b ≡ 2
    unfolding mark_of
    mark-chained k =
        let x = lt-leb 1 (times b (indexes_in t.sections)) (omega (arith, either, h.once b i)) in
        let y = lt-leb 1 (times b (reached_blocks t)) (omega (arith, h.once b i)) in
        turn-mark b i ∙ rw (x, y, le-leb 1 (times b t.chain) k)

    pub mark-unused : t.lowest ≤ b → turn_mark b ≡ 0
    unfolding mark_of
    mark-unused k =
        let o = rw (le-leb t.lowest b k) at (h.once b i) in
        let x = lt-leb 1 (times b (indexes_in t.sections)) (omega (arith, either)) in
        let y = lt-leb 1 (times b (reached_blocks t)) (omega arith) in
        turn-mark b i ∙ rw (x, y, lt-leb 1 (times b t.chain) (omega arith))
