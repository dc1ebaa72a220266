-- The blocks of a tree that stands in a file can be marked one by one, and the marks are then the tree's.
use Prim.Native.Nat.{ℕ, zero, suc, ◌+◌, ◌-◌, ◌≤◌, ◌<◌}
use mathlib.Core.Path.{◌≡◌, refl, sym, ap, ◌∙◌}
use mathlib.Core.List.{List}
use mathlib.Core.Bool.{Bool, true, false, cond}
use native.Mathlib.Omega.{arith}
use native.Mathlib.Nat.{not-suc-le-zero}
use lib.Dec.{leb}
use lib.ListN.{length, get_or, length-replicate}
use lib.Seq.{ext_get_or}
use borrow.Author.Tests.{leb-true}
use Rattle.words.specs.Words.{zeros}
use Rattle.numbers.specs.Checked.{passed}
use Rattle.drum.specs.declared.Description.{Description}
use Rattle.drum.specs.Blocks.{Block}
use Rattle.layout.specs.Tree.{Tree, reached_blocks, times, mark_of, marks_from, marks_of}
use Rattle.layout.specs.Holds.{Holds}
use Rattle.layout.proofs.Lists.{get_or-zeros}
use Rattle.layout.proofs.Marks.{mark_all, used, used-zeros, all-used, all-length, all_pass, all-mark, one, two}
use Rattle.layout.proofs.Few.{mark-count}

pub marks-length : (t : Tree) (n b : ℕ) → length (marks_from t b n) ≡ n
unfolding marks_from
marks-length t zero b = refl
marks-length t (suc n) b = ap suc (marks-length t n (suc b))

pub marks-at : (t : Tree) (n b i : ℕ) → i < n → get_or (marks_from t b n) i 0 ≡ mark_of t (b + i)
unfolding marks_from
marks-at t zero b i h = absurd (not-suc-le-zero h)
marks-at t (suc n) b zero h = let e : b + 0 ≡ b = omega arith in rw e
marks-at t (suc n) b (suc i) h = let e : suc b + i ≡ b + suc i = omega arith in marks-at t n (suc b) i (omega arith) ∙ ap (mark_of t) e

module _ (p : Description) (f : List ℕ) (t : Tree) (h : Holds p f t) where
  small : (b : ℕ) → Block p b → times b (reached_blocks t) + times b t.chain ≤ 1
  small b i = omega (arith, h.once b i)

  none : length (zeros p.n) ≡ p.n
  none = length-replicate p.n 0

  -- first the blocks reached
  first : (ms : List ℕ) × (mark_all 1 (reached_blocks t) (zeros p.n) ≡ passed ms)
  first = all_pass 1 one (reached_blocks t) (zeros p.n) (rw none h.reached) (λ c i. omega (arith, small c (rw none at i), used-zeros p.n c))

  first-length : length first.0 ≡ p.n
  first-length = all-length 1 one (reached_blocks t) (zeros p.n) first.0 first.1 ∙ none

  first-used : (c : ℕ) → 1 ≤ c → used first.0 c ≡ times c (reached_blocks t)
  first-used c k = omega (arith, all-used 1 one (reached_blocks t) (zeros p.n) first.0 first.1 c k, used-zeros p.n c)

  -- then the chain
  second : (ms : List ℕ) × (mark_all 2 t.chain first.0 ≡ passed ms)
  second =
      all_pass 2 two t.chain first.0 (rw first-length h.linked)
      (λ c i. omega (arith, small c (rw first-length at i), first-used c i.0))

  pub chain-few : length t.chain ≤ p.n
  chain-few = rw first-length at (mark-count 2 two t.chain first.0 second.0 second.1)

  second-length : length second.0 ≡ p.n
  second-length = all-length 2 two t.chain first.0 second.0 second.1 ∙ first-length

  second-used : (c : ℕ) → Block p c → used second.0 c + cond (leb t.lowest c) 1 0 ≡ 1
  second-used c i = omega (arith, all-used 2 two t.chain first.0 second.0 second.1 c i.0, first-used c i.0, h.once c i)

  -- they are the tree's
  second-mark : (c : ℕ) → Block p c → get_or second.0 (c - 1) 0 ≡ mark_of t c
  unfolding mark_of
  second-mark c i =
      let a = all-mark 1 one (reached_blocks t) (zeros p.n) first.0 first.1 c i.0 in
      let b = all-mark 2 two t.chain first.0 second.0 second.1 c i.0 in
      b ∙ rw (a, get_or-zeros p.n (c - 1)) (go (leb 1 (times c (reached_blocks t))) (leb 1 (times c t.chain)) refl refl)
    where
      go : (x y : Bool) → leb 1 (times c (reached_blocks t)) ≡ x → leb 1 (times c t.chain) ≡ y
          → ◌≡◌ {A = ℕ} (cond y 2 (cond x 1 0)) (cond x 1 (cond y 2 0))
      go true true e q = absurd (omega (arith, small c i, leb-true 1 (times c (reached_blocks t)) e, leb-true 1 (times c t.chain) q))
      go true false e q = refl
      go false true e q = refl
      go false false e q = refl

  marks-are : second.0 ≡ marks_of t p.n
  marks-are = ext_get_or 0 second.0 (marks_of t p.n) (second-length ∙ sym (marks-length t p.n 1)) (λ i k.
      let d : i + 1 - 1 ≡ i = omega arith in
      let e : 1 + i ≡ i + 1 = omega arith in
      let l : i < p.n = omega (arith, second-length) in
      rw d at (second-mark (i + 1) (omega arith)) ∙ sym (marks-at t p.n 1 i l ∙ ap (mark_of t) e))

  -- what the walk marks
  pub record Marked : Type 0 where
    pub middle : List ℕ
    pub reached : mark_all 1 (reached_blocks t) (zeros p.n) ≡ passed middle
    pub chained : mark_all 2 t.chain middle ≡ passed (marks_of t p.n)
    pub length-is : length (marks_of t p.n) ≡ p.n
    pub used-is : (c : ℕ) → Block p c → used (marks_of t p.n) c + cond (leb t.lowest c) 1 0 ≡ 1

  pub tree-marked : Marked
  tree-marked = record {
    middle = first.0;
    reached = first.1;
    chained = second.1 ∙ ap passed marks-are;
    length-is = marks-length t p.n 1;
    used-is = λ c i. rw (← marks-are) (second-used c i);
  }
