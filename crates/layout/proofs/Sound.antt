-- Where OPEN's test passes, a tree stands in the file: the one that is read off it.
use Prim.Native.Nat.{ℕ, ◌+◌, ◌*◌, ◌-◌, ◌≤◌, ◌<◌}
use mathlib.Core.Path.{◌≡◌, refl, sym, ap, ◌∙◌}
use mathlib.Core.List.{List}
use mathlib.Core.Bool.{Bool, true, false, cond, ◌&&◌}
use native.Mathlib.Omega.{arith}
use native.Mathlib.Nat.{mul-le-mul_right}
use lib.Dec.{leb}
use lib.ListN.{length, get_or, take, drop, length-drop, length-take, length-replicate}
use lib.Seq.{get_or-take, get_or-drop}
use borrow.Author.Tests.{leb-true, leb-false}
use Rattle.words.specs.Words.{part, all_are, none_is, zeros}
use Rattle.words.specs.Keys.{is_ones}
use Rattle.words.proofs.Parts.{length_part, part-add}
use Rattle.words.proofs.All.{and_both, all_are-get_or}
use Rattle.drum.specs.declared.Description.{Description}
use Rattle.drum.specs.Params.{start, master_size}
use Rattle.drum.specs.Blocks.{sections, chain_head, lowest_unused, Block}
use Rattle.layout.specs.Inspect.{key_held, last_row, master_ok, rest_ok}
use Rattle.layout.specs.Tree.{blocks_in, times}
use Rattle.layout.specs.Holds.{Holds, master_text}
use Rattle.layout.proofs.Good.{Sized, master-fits, master-in}
use Rattle.layout.proofs.Lists.{none-at}
use Rattle.layout.proofs.Marks.{used, used-no, used-yes, used-zeros, all-used, all-length, all-inside, one, two}
use Rattle.layout.proofs.Read.{sections_at, chain_at, tree_at, sections-length}
use Rattle.layout.proofs.Found.{LayoutFacts}
use Rattle.layout.proofs.Texts.{three-words, zeros-are}
use Rattle.layout.proofs.Standing.{sections-indexes, sections-details, sections-counted, sections-flat, head-is, chain-texts, unused-text}
use Rattle.layout.proofs.Order.{befores}
use Rattle.layout.proofs.Bounds.{sections-ok, sections-last, sections-end, ones-are}

module _ (p : Description) (f : List ℕ) (z : Sized p f) (ms : List ℕ) (w : LayoutFacts p f ms) where
  abbrev blocks : List ℕ
  blocks = blocks_in (sections_at p f 3 (sections f))

  abbrev links : List ℕ
  links = chain_at p f p.n (chain_head f)

  -- each block once
  middle-length : length w.middle ≡ p.n
  middle-length = all-length 1 one blocks (zeros p.n) w.middle w.reached ∙ length-replicate p.n 0

  marks-length : length ms ≡ p.n
  marks-length = all-length 2 two links w.middle ms w.free.marks ∙ middle-length

  counts : (b : ℕ) → 1 ≤ b → used ms b ≡ times b blocks + times b links
  counts b h =
      let u₁ = all-used 1 one blocks (zeros p.n) w.middle w.reached b h in
      let u₂ = all-used 2 two links w.middle ms w.free.marks b h in
      omega (arith, used-zeros p.n b)

  record Resting : Type 0 where
    below : none_is 0 (take (lowest_unused f - 1) ms) ≡ true
    beyond : all_are 0 (drop (lowest_unused f - 1) ms) ≡ true
    texts : all_are 0 (drop (start p (lowest_unused f)) f) ≡ true

  resting : Resting
  unfolding rest_ok
  resting =
      let l = lowest_unused f in
      let (a, r) = and_both (none_is 0 (take (l - 1) ms)) (all_are 0 (drop (l - 1) ms) && all_are 0 (drop (start p l) f)) w.rest in
      let (b, c) = and_both (all_are 0 (drop (l - 1) ms)) (all_are 0 (drop (start p l) f)) r in
      record { below = a; beyond = b; texts = c }

  marked-below : (b : ℕ) → 1 ≤ b → b < lowest_unused f → used ms b ≡ 1
  marked-below b h k =
      let m = lowest_unused f - 1 in
      let i : b - 1 < m = omega arith in
      let l : b - 1 < length (take m ms) = rw (length-take m ms) (omega (arith, marks-length, w.lowest)) in
      used-yes ms b (λ e. none-at 0 (take m ms) (b - 1) resting.below l (get_or-take m ms (b - 1) 0 i ∙ e))

  unmarked-beyond : (b : ℕ) → lowest_unused f ≤ b → b ≤ p.n → used ms b ≡ 0
  unmarked-beyond b h k =
      let m = lowest_unused f - 1 in
      let j = b - lowest_unused f in
      let d : m + j ≡ b - 1 = omega (arith, w.lowest) in
      let l : j < length (drop m ms) = rw (length-drop m ms) (omega (arith, marks-length, w.lowest)) in
      used-no ms b (ap (λ (i : ℕ). get_or ms i 0) (sym d) ∙ sym (get_or-drop m ms j 0) ∙ all_are-get_or 0 (drop m ms) j resting.beyond l)

  once : (b : ℕ) → Block p b → times b blocks + times b links + cond (leb (lowest_unused f) b) 1 0 ≡ 1
  once b (h, k) = go (leb (lowest_unused f) b) refl
    where
      go : (t : Bool) → leb (lowest_unused f) b ≡ t → times b blocks + times b links + cond t 1 0 ≡ 1
      go true e = omega (arith, counts b h, unmarked-beyond b (leb-true (lowest_unused f) b e) k)
      go false e = omega (arith, counts b h, marked-below b h (leb-false (lowest_unused f) b e))

  -- the master
  record Mastered : Type 0 where
    behind : all_are 0 (part (3 + sections f * (p.k + 1)) (master_size p - (3 + sections f * (p.k + 1))) f) ≡ true
    last : is_ones (key_held p f (last_row 3 (p.k + 1) (sections f))) ≡ true

  mastered : Mastered
  unfolding master_ok
  mastered =
      let b = 3 + sections f * (p.k + 1) in
      let (x, y) = and_both (all_are 0 (part b (master_size p - b) f)) (is_ones (key_held p f (last_row 3 (p.k + 1) (sections f)))) w.master in
      record { behind = x; last = y }

  master-text : part 0 (master_size p) f ≡ master_text p (tree_at p f)
  unfolding master_text tree_at
  master-text =
      let u = sections f * (p.k + 1) in
      let y = master_size p - (3 + u) in
      let fit = master-fits p z.good (sections f) w.control.1 in
      let all = master-in p f z in
      let e : master_size p ≡ 3 + (u + y) = omega arith in
      let l : length (part 3 u f) ≡ u = length_part 3 u f (omega arith) in
      let d : master_size p - 3 - length (part 3 u f) ≡ y = omega arith in
      ap (λ (m : ℕ). part 0 m f) e
      ∙ three-words f (u + y) (omega arith)
      ∙ rw (
        sections-flat p f z (sections f) 0 3 w.tree (omega arith),
        d,
        part-add 3 u y f,
        zeros-are (3 + u) y f (omega arith) mastered.behind,
        sections-length p f (sections f) 3,
        head-is p f z (chain_head f) links w.free.links,
      )

  last-in : last_row 3 (p.k + 1) (sections f) + p.k ≤ length f
  last-in =
      let q : sections f - 1 + 1 ≤ sections f = omega (arith, w.control) in
      omega (arith, mul-le-mul_right (p.k + 1) q, master-fits p z.good (sections f) w.control.1, master-in p f z)

  entries-in : 3 + sections f * (p.k + 1) ≤ length f
  entries-in = omega (arith, master-fits p z.good (sections f) w.control.1, master-in p f z)

  -- every sentence
  pub sound : Holds p f (tree_at p f)
  unfolding tree_at befores
  sound = record {
    size = z.size;
    words = w.words;
    master = master-text;
    indexes = sections-indexes p f z (sections f) 0 3 w.tree;
    details = sections-details p f z (sections f) 0 3 w.tree;
    chained = chain-texts p f z (chain_head f) links w.free.texts w.free.links;
    unused = λ b h k. unused-text p f z (lowest_unused f) b resting.texts h (omega (arith, w.lowest), k);
    control = rw (sections-length p f (sections f) 3) w.control;
    counted = sections-counted p f z (sections f) 0 3 w.tree;
    leaves = sections-ok p f z (sections f) 0 3 (omega arith) entries-in w.tree;
    last = sections-last p f z (sections f) 0 3 w.control.0 w.tree ∙ ones-are p f z _ last-in mastered.last;
    end = sections-end p f z (sections f) 0 3 w.control.0 w.tree mastered.last;
    once = once;
    reached = rw (length-replicate {A = ℕ} p.n 0) at (all-inside 1 one blocks (zeros p.n) w.middle w.reached);
    linked = rw middle-length at (all-inside 2 two links w.middle ms w.free.marks);
    lowest = w.lowest;
  }
