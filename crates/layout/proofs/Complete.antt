-- Where a tree stands in the file, OPEN's test passes, and leaves the tree's marks.
use Prim.Native.Nat.{ℕ, zero, suc, ◌+◌, ◌*◌, ◌-◌, ◌≤◌, ◌<◌}
use mathlib.Core.Path.{◌≡◌, sym, ap, subst, ◌∙◌}
use mathlib.Core.List.{List, [], ◌++◌}
use mathlib.Core.Bool.{true, cond}
use native.Mathlib.Omega.{arith}
use lib.Dec.{leb}
use lib.ListN.{length, take, drop, length-drop, length-take, take-append-drop, drop_of_length-le}
use lib.Seq.{drop-drop, get_or-take, get_or-drop}
use borrow.Author.Tests.{le-leb, lt-leb}
use Rattle.words.specs.Words.{part, all_are, none_is, zeros}
use Rattle.words.specs.Keys.{ones}
use Rattle.words.proofs.All.{both-and, all_are-append, all_are-replicate, is_ones-eq}
use Rattle.numbers.specs.Checked.{passed}
use Rattle.drum.specs.declared.Description.{Description}
use Rattle.drum.specs.Params.{start, master_size}
use Rattle.drum.specs.Blocks.{block_at, sections, chain_head, lowest_unused, Block}
use Rattle.layout.specs.Inspect.{key_held, last_row, master_ok, rest_ok, layout_marks}
use Rattle.layout.specs.Tree.{Tree, leaves_of, marks_of}
use Rattle.layout.specs.Holds.{Holds}
use Rattle.layout.proofs.Good.{Sized, start-next, start-end}
use Rattle.layout.proofs.Lists.{none_from, all_from, all_none}
use Rattle.layout.proofs.Marks.{used, used-no, unused}
use Rattle.layout.proofs.Read.{Sections, Linked, chain_at, tree_at, sections-length}
use Rattle.layout.proofs.Texts.{block-part}
use Rattle.layout.proofs.Order.{befores}
use Rattle.layout.proofs.Trees.{ends}
use Rattle.layout.proofs.Bounds.{sections-last}
use Rattle.layout.proofs.Facts.{sections-facts, sections-words, chain-facts}
use Rattle.layout.proofs.Marked.{tree-marked, chain-few}
use Rattle.layout.proofs.Passing.{layout-pass}
use Rattle.layout.proofs.Unique.{master-words, tree-at}

drop-split : (a n : ℕ) (l : List ℕ) → drop a l ≡ part a n l ++ drop (a + n) l
unfolding part
drop-split a n l = sym (take-append-drop n (drop a l)) ∙ rw (drop-drop n a l)

module _ (p : Description) (f : List ℕ) (z : Sized p f) where
  -- the blocks never used, from the first to the end of the file
  rest-zero : (d b : ℕ) → b + d ≡ p.n + 1 → 1 ≤ b → ((c : ℕ) → b ≤ c → c ≤ p.n → block_at p f c ≡ zeros p.wpb)
      → all_are 0 (drop (start p b) f) ≡ true
  rest-zero zero b e h q =
      let l : b ≡ p.n + 1 = omega arith in
      let k : length f ≤ start p b = rw (l, start-end p) (omega (arith, z.size)) in
      rw (drop_of_length-le f k) (all_none 0)
  rest-zero (suc d) b e h q =
      let x = part (start p b) p.wpb f in
      let y = drop (start p b + p.wpb) f in
      let a : all_are 0 x ≡ true = rw (← block-part p f b, q b (omega arith) (omega arith)) (all_are-replicate p.wpb 0) in
      let r : all_are 0 y ≡ true = rw (← start-next p b h) (rest-zero d (b + 1) (omega arith) (omega arith) (λ c k l. q c (omega arith) l)) in
      rw (drop-split (start p b) p.wpb f) (all_are-append 0 x y ∙ both-and (all_are 0 x) (all_are 0 y) a r)

  module _ (h : Holds p f (tree_at p f)) where
    abbrev secs : ℕ
    secs = sections f

    entries-in : 3 + secs * (p.k + 1) ≤ length f
    unfolding tree_at
    entries-in = rw (sections-length p f secs 3) at (master-words p f z (tree_at p f) h).inside

    facts : Sections p f 0 3 secs
    unfolding tree_at befores
    facts =
        let m = master-words p f z (tree_at p f) h in
        let d = ends p z.good.key [] (leaves_of (tree_at p f)) h.leaves (sections-words p f z secs 3 h.words) h.end in
        sections-facts p f z secs 0 3 (omega arith) entries-in h.leaves h.counted h.reached h.indexes h.details d
        (rw (sections-length p f secs 3) at m.rows)

    master-ok : master_ok p f secs ≡ true
    unfolding master_ok tree_at
    master-ok =
        let s : 1 ≤ secs = rw (sections-length p f secs 3) at h.control.0 in
        let b = 3 + secs * (p.k + 1) in
        let a : all_are 0 (part b (master_size p - b) f) ≡ true = rw (sections-length p f secs 3) at (master-words p f z (tree_at p f) h).behind in
        let l : key_held p f (last_row 3 (p.k + 1) secs) ≡ ones p.k = sym (sections-last p f z secs 0 3 s facts) ∙ h.last in
        both-and _ _ a (is_ones-eq p.k _ l)

    rest : (ms : List ℕ) → length ms ≡ p.n → ((c : ℕ) → Block p c → used ms c + cond (leb (lowest_unused f) c) 1 0 ≡ 1)
        → rest_ok p f (lowest_unused f) ms ≡ true
    unfolding rest_ok tree_at
    rest ms len w =
        let low = h.lowest in
        let m = lowest_unused f - 1 in
        let a : none_is 0 (take m ms) ≡ true = none_from 0 (take m ms) (λ i k e.
        let k' : (i < m) × (i < length ms) = (omega (arith, rw (length-take m ms) at k), omega (arith, rw (length-take m ms) at k)) in
        let d : i + 1 - 1 ≡ i = omega arith in
        let v : used ms (i + 1) ≡ 0 = used-no ms (i + 1) (rw d (sym (get_or-take m ms i 0 k'.0) ∙ e)) in
        let u = rw (lt-leb (lowest_unused f) (i + 1) (omega arith)) at (w (i + 1) (omega arith)) in
        omega arith) in
        let b : all_are 0 (drop m ms) ≡ true = all_from 0 (drop m ms) (λ i k.
        let n : m + i < length ms = omega (arith, rw (length-drop m ms) at k) in
        let d : m + i + 1 - 1 ≡ m + i = omega arith in
        let u = rw (le-leb (lowest_unused f) (m + i + 1) (omega arith)) at (w (m + i + 1) (omega arith)) in
        get_or-drop m ms i 0 ∙ rw d at (unused ms (m + i + 1) (omega arith))) in
        let c : all_are 0 (drop (start p (lowest_unused f)) f) ≡ true =
        rest-zero (p.n + 1 - lowest_unused f) (lowest_unused f) (omega arith) low.0 h.unused in
        simp (a, b, c)

    complete : layout_marks p f ≡ passed (marks_of (tree_at p f) p.n)
    unfolding tree_at
    complete =
        let m = master-words p f z (tree_at p f) h in
        let w = tree-marked p f (tree_at p f) h in
        let cs = chain_at p f p.n (chain_head f) in
        let (c, l) = chain-facts p f z cs h.linked h.chained in
        layout-pass p f (marks_of (tree_at p f) p.n) (chain-few p f (tree_at p f) h) (record {
          words = h.words;
          control = rw (sections-length p f secs 3) at h.control;
          lowest = h.lowest;
          master = master-ok;
          middle = w.middle;
          reached = w.reached;
          tree = facts;
          free = record { marks = w.chained; texts = c; links = subst (λ (b : ℕ). Linked p f b cs) (sym m.head) l };
          rest = rest (marks_of (tree_at p f) p.n) w.length-is w.used-is;
        })

  pub complete-for : (t : Tree) → Holds p f t → layout_marks p f ≡ passed (marks_of t p.n)
  complete-for t h =
      let e = tree-at p f z t h in
      complete (subst (Holds p f) (sym e) h) ∙ ap (λ (u : Tree). passed (marks_of u p.n)) e
