-- The blocks of a file that holds a tree, in the second form: a detail block misses no test, and no other block is marked detail.
use mathlib.Core.Path.{◌≡◌, refl, sym, ap, ◌∙◌}
use mathlib.Core.Bool.{Bool, true, false, cond}
use mathlib.Core.Logic.{◌⊎◌, inl, inr}
use mathlib.Core.List.{List, [], ◌∷◌, ◌++◌, flatten}
use Prim.Native.Nat.{ℕ, ◌+◌, ◌*◌, ◌-◌, ◌/◌, ◌≤◌, ◌<◌}
use native.Mathlib.Nat.{mul-le-mul, mul-le-mul_right}
use native.Mathlib.Omega.{arith}
use borrow.Author.Tests.{leb-true, leb-false}
use lib.Dec.{leb}
use lib.ListN.{length, get_or}
use Rattle.words.specs.Words.{part, all_words, zeros}
use Rattle.words.specs.Keys.{key_lt}
use Rattle.words.proofs.All.{and_both, all_words-part}
use Rattle.words.proofs.Parts.{length_part, part-add}
use Rattle.table.specs.Tables.{laid}
use Rattle.drum.specs.declared.Description.{Description}
use Rattle.drum.specs.Params.{D, good_params, detail_kind, detail_shape}
use Rattle.drum.specs.Blocks.{Block, block_at}
use Rattle.drum.proofs.Good.{caps}
use Rattle.drum.proofs.Forms.{tag-second}
use Rattle.drum.proofs.Blocks.{length-block}
use Rattle.layout.specs.Tree.{Leaf, Section, Tree, leaves_in, leaf_blocks, blocks_in, leaves_of, times}
use Rattle.layout.specs.Holds.{All, OneTo, LeavesOk, DetailIn, Holds, ascending, keys_of}
use Rattle.layout.specs.Turned.{indexes_in, kind_of}
use Rattle.layout.proofs.Good.{row_more}
use Rattle.layout.proofs.Lists.{append-parts, length-flatten, part-behind, part-first, all_blocks, all_left, all_right}
use Rattle.layout.proofs.OneFile.{all-times}
use Rattle.layout.proofs.TurnedMarks.{reached-either}
use Rattle.layout.proofs.TurnedKinds.{kinds-told}
use Rattle.layout.proofs.Texts.{block-part}
use Rattle.salvage.specs.Met.{count_in, rows_from, records_in, missed, not_marked}
use Rattle.salvage.proofs.Tests.{missed-low, missed-high, missed-nothing}
use Rattle.salvaged.proofs.Rows.{all_both}

-- the end of an ascending list ascends
pub ascending-end : (xs ys : List (List ℕ)) → ascending (xs ++ ys) ≡ true → ascending ys ≡ true
unfolding ascending
ascending-end [] ys h = h
ascending-end (x ∷ []) [] h = refl
ascending-end (x ∷ []) (y ∷ ys) h = (and_both (key_lt x y) (ascending (y ∷ ys)) h).1
ascending-end (x ∷ z ∷ xs) ys h = ascending-end (z ∷ xs) ys (and_both (key_lt x z) (ascending (z ∷ (xs ++ ys))) h).1

-- rows, from words
rows_are : (t : List ℕ) (stride : ℕ) (rows : List (List ℕ)) (a : ℕ) → All (λ r. length r ≡ stride) rows → a + length rows * stride ≤ length t
    → part a (length rows * stride) t ≡ flatten rows → rows_from stride a (length rows) t ≡ rows
unfolding rows_from flatten All
rows_are t stride [] a w h e = refl
rows_are t stride (r ∷ rows) a (l, w) h e =
    let n = length rows * stride in
    let m = row_more (length rows) stride in
    let q : part a stride t ++ part (a + stride) n t ≡ r ++ flatten rows = sym (part-add a stride n t) ∙ ap (λ (x : ℕ). part a x t) (sym m) ∙ e in
    let (x, y) = append-parts (part a stride t) r (part (a + stride) n t) (flatten rows) (length_part a stride t (omega arith) ∙ sym l) q in
    rw (x, rows_are t stride rows (a + stride) w (omega arith) y)

-- a text that misses no test, with its records
pub record Whole (p : Description) (t : List ℕ) (rows : List (List ℕ)) : Type 0 where
  pub passes : missed p t ≡ 0
  pub holds : records_in p t ≡ rows

module _ (p : Description) (good : good_params p ≡ true) where
  few-records : D p ≤ 4095
  few-records =
      let c = caps p good in
      let g = c.facts in
      let one : D p * 1 ≤ D p * p.wpr = mul-le-mul (omega arith) (omega arith) in
      omega arith

  text-first : (w n : ℕ) (rows t : List ℕ) → t ≡ laid w n rows → (get_or t 0 0 ≡ n) × (part 1 (length rows) t ≡ rows)
  unfolding laid
  text-first w n rows t e = (
    ap (λ (x : List ℕ). get_or x 0 0) e,
    ap (part 1 (length rows)) e
        ∙ part-behind (n ∷ []) (rows ++ zeros (w - 1 - length rows)) 1 0 (length rows) refl
        ∙ part-first rows (zeros (w - 1 - length rows)) (length rows) refl,
  )

  text-whole : (t : List ℕ) (rows : List (List ℕ)) → OneTo (D p) (length rows) → All (λ r. length r ≡ p.wpr) rows → ascending (keys_of p rows) ≡ true
      → all_words t ≡ true → length t ≡ p.wpb → t ≡ laid p.wpb (8192 + length rows) (flatten rows) → Whole p t rows
  unfolding missed
  text-whole t rows c w up words long e =
      let n = length rows in
      let f = text-first p.wpb (8192 + n) (flatten rows) t e in
      let few = few-records in
      let k = caps p good in
      let m : n * p.wpr ≤ D p * p.wpr = mul-le-mul_right p.wpr c.1 in
      let is : count_in t ≡ n = omega (arith, f.0) in
      let rs : records_in p t ≡ rows = ap (λ (x : ℕ). rows_from p.wpr 1 x t) is
      ∙ rows_are t p.wpr rows 1 w (omega arith) (ap (λ (x : ℕ). part 1 x t) (sym (length-flatten p.wpr rows w)) ∙ f.1) in
      let s : all_words (part 1 (count_in t * p.wpr) t) ≡ true = all_words-part 1 (count_in t * p.wpr) t words in
      let d : ascending (keys_of p (records_in p t)) ≡ true = ap (λ (z : List (List ℕ)). ascending (keys_of p z)) rs ∙ up in
      let none = missed-nothing p t (get_or t 0 0) refl (omega (arith, f.0)) (omega (arith, f.0, c.1)) (D p) refl
      (omega (arith, is, c.0)) (omega (arith, is, c.1)) true (sym s) true (sym d) refl refl in
      record { passes = sym none; holds = rs }

-- the detail blocks are among the blocks that are reached
blocks-of : (P : ℕ → Type 0) (ss : List Section) → All P (blocks_in ss) → All (λ (l : Leaf). P l.block) (leaves_in ss)
unfolding All blocks_in
blocks-of P [] a = tt
blocks-of P (s ∷ ss) (a, more) =
    all_both (λ (l : Leaf). P l.block) s.leaves (leaves_in ss) (all_blocks P s.leaves (all_left P (leaf_blocks s.leaves) (blocks_in ss) more))
    (blocks-of P ss (all_right P (leaf_blocks s.leaves) (blocks_in ss) more))

module _ (p : Description) (f : List ℕ) (t : Tree) (good : good_params p ≡ true) (two : p.form ≡ 2) (h : Holds p f t) where
  abbrev text : ℕ → List ℕ
  text b = block_at p f b

  leaves-whole : (before : List (List ℕ)) (ls : List Leaf) → LeavesOk p before ls → All (DetailIn p f) ls → All (λ (l : Leaf). Block p l.block) ls
      → All (λ (l : Leaf). Whole p (text l.block) l.records) ls
  unfolding All LeavesOk detail_shape
  leaves-whole before [] o d i = tt
  leaves-whole before (l ∷ ls) (o, os) (d, ds) (i, is) =
      let words : all_words (text l.block) ≡ true = ap all_words (block-part p f l.block) ∙ all_words-part _ p.wpb f h.words in (
        text-whole p good (text l.block) l.records o.counted o.widths (ascending-end before (keys_of p l.records) o.order) words
            (length-block p f h.size l.block i)
            (d ∙ ap (λ (k : ℕ). laid p.wpb (k + length l.records) (flatten l.records)) (tag-second p detail_kind two)),
        leaves-whole (l.bound ∷ []) ls os ds is,
      )

  block-all : (ls : List Leaf) → All (λ (l : Leaf). Whole p (text l.block) l.records) ls → All (λ (b : ℕ). missed p (text b) ≡ 0) (leaf_blocks ls)
  unfolding All leaf_blocks
  block-all [] a = tt
  block-all (l ∷ ls) (a, more) = (a.passes, block-all ls more)

  pub leaf-blocks : All (λ (l : Leaf). Block p l.block) (leaves_of t)
  leaf-blocks = blocks-of (Block p) t.sections h.reached

  -- its detail blocks
  pub details-whole : All (λ (l : Leaf). Whole p (text l.block) l.records) (leaves_of t)
  details-whole = leaves-whole [] (leaves_of t) h.leaves h.details leaf-blocks

  -- a block is one of them, and misses no test; or it is none, and is not marked detail
  pub data Either (b : ℕ) : Type 0 where
    detail : times b (leaf_blocks (leaves_of t)) ≡ 1 → missed p (text b) ≡ 0 → Either b
    other : times b (leaf_blocks (leaves_of t)) ≡ 0 → missed p (text b) ≡ not_marked → Either b

  pub block-either : (b : ℕ) → Block p b → Either b
  unfolding kind_of
  block-either b i = go (leb 1 (times b (leaf_blocks (leaves_of t)))) refl
    where
      few : times b (leaf_blocks (leaves_of t)) ≤ 1
      few = omega (arith, h.once b i, reached-either b t.sections)

      away : (x y : Bool) (n : ℕ) → n / 4096 ≡ cond x 1 (cond false 2 (cond y 3 0)) → (n < 8192) ⊎ (12288 ≤ n)
      away true y n e = inl (omega arith)
      away false true n e = inr (omega arith)
      away false false n e = inl (omega arith)

      over : (n : ℕ) → n ≡ get_or (text b) 0 0 → (n < 8192) ⊎ (12288 ≤ n) → missed p (text b) ≡ not_marked
      over n e (inl l) = sym (missed-low p (text b) n e l)
      over n e (inr l) = sym (missed-high p (text b) n e l)

      go : (c : Bool) → leb 1 (times b (leaf_blocks (leaves_of t))) ≡ c → Either b
      go true e =
          let l = leb-true 1 (times b (leaf_blocks (leaves_of t))) e in
          detail (omega (arith, few)) (all-times (λ (x : ℕ). missed p (text x) ≡ 0) b (leaf_blocks (leaves_of t)) (block-all (leaves_of t) details-whole) l)
      go false e =
          let l = leb-false 1 (times b (leaf_blocks (leaves_of t))) e in
          other (omega arith) (over (get_or (text b) 0 0) refl (away (leb 1 (times b (indexes_in t.sections))) (leb 1 (times b t.chain)) (get_or (text b) 0 0)
          (kinds-told p f t b good two h i
          ∙ ap (λ (c : Bool). cond (leb 1 (times b (indexes_in t.sections))) 1 (cond c 2 (cond (leb 1 (times b t.chain)) 3 0))) e)))
