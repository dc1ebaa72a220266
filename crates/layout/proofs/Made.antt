-- The fresh tree stands in what CREATE writes: one section, one detail block, the end record. So it opens.
use Prim.Native.Nat.{ℕ, zero, suc, ◌+◌, ◌-◌, ◌≤◌}
use mathlib.Core.Path.{◌≡◌, refl, ap, ◌∙◌}
use mathlib.Core.List.{List, [], ◌∷◌, append-nil, flatten}
use mathlib.Core.Bool.{true, cond}
use native.Mathlib.Omega.{arith}
use native.Mathlib.Nat.{not-suc-le-zero}
use lib.Dec.{leb}
use lib.ListN.{length, take, length-replicate}
use lib.Seq.{take_at}
use borrow.Author.Tests.{le-leb, ne_eqb}
use Rattle.words.specs.Words.{zeros, top_word}
use Rattle.words.specs.Keys.{ones}
use Rattle.words.proofs.Keys.{key_le-refl}
use Rattle.numbers.specs.Checked.{passed}
use Rattle.drum.specs.declared.Description.{Description}
use Rattle.drum.specs.Params.{good_params, file_size}
use Rattle.drum.specs.Blocks.{Block}
use Rattle.layout.specs.Create.{end_record, created}
use Rattle.layout.specs.Inspect.{layout_marks}
use Rattle.layout.specs.Tree.{last_in, bound_of, leaves_in, records_in, leaf_blocks, blocks_in, times, mark_of, marks_from, marks_of, fresh_leaf, fresh_section}
use Rattle.layout.specs.Tree.{fresh_tree}
use Rattle.layout.specs.Holds.{All, Holds, LeafOk, LeavesOk, ChainIn, index_entries, ascending}
use Rattle.layout.proofs.Good.{Good, good-facts}
use Rattle.layout.proofs.Complete.{complete-for}
use Rattle.layout.proofs.Pieces.{index_piece, detail_piece, length-end, length-made, words-made, master-made, first_block, second_block, later-block}

module _ (p : Description) (g : Good p) where
  -- its one detail block
  key-made : take p.k (end_record p) ≡ ones p.k
  unfolding end_record
  key-made = take_at (ones p.k) (zeros (p.wpr - p.k)) p.k (length-replicate p.k top_word)

  leaf-made : LeafOk p [] (fresh_leaf p)
  unfolding fresh_leaf All ascending
  leaf-made = record {
    counted = (omega arith, omega (arith, g.two_records));
    width = length-replicate p.k top_word;
    widths = (length-end p g, tt);
    order = refl;
    bounded = (rw key-made (key_le-refl (ones p.k)), tt);
  }

  once-made : (b : ℕ) → Block p b → times b (blocks_in (fresh_tree p).sections) + times b [] + cond (leb 3 b) 1 0 ≡ 1
  unfolding times blocks_in leaf_blocks fresh_tree fresh_section fresh_leaf
  once-made zero (h, k) = absurd (not-suc-le-zero h)
  once-made (suc zero) i = refl
  once-made (suc (suc zero)) i = refl
  once-made (suc (suc (suc c))) i =
      let b = suc (suc (suc c)) in
      simp (ne_eqb b 1 (λ e. omega arith), ne_eqb b 2 (λ e. omega arith), le-leb 3 b (omega arith))

  -- every sentence
  holds-made : Holds p (created p) (fresh_tree p)
  unfolding fresh_tree fresh_section fresh_leaf All leaves_in records_in blocks_in leaf_blocks bound_of last_in index_entries flatten ChainIn LeavesOk
      index_piece detail_piece
  holds-made = record {
    size = length-made p g;
    words = words-made p g;
    master = master-made p g;
    indexes = (first_block p g, tt);
    details = (rw (append-nil (end_record p)) (second_block p g), tt);
    chained = tt;
    unused = later-block p g;
    control = (omega arith, g.control-least);
    counted = ((omega arith, omega (arith, g.two-entries)), tt);
    leaves = (leaf-made, tt);
    last = refl;
    end = refl;
    once = once-made;
    reached = ((omega arith, omega (arith, g.n-least)), ((omega arith, g.n-least), tt));
    linked = tt;
    lowest = (omega arith, omega (arith, g.n-least));
  }

-- what CREATE writes has the length of the file
pub created-length : (p : Description) → good_params p ≡ true → length (created p) ≡ file_size p
created-length p h = length-made p (good-facts p h)

-- the fresh tree stands in it
pub create-opens : (p : Description) → good_params p ≡ true → Holds p (created p) (fresh_tree p)
create-opens p h = holds-made p (good-facts p h)

-- OPEN's test passes it, with the fresh tree's marks: block 1 and block 2 are reached, the others never used
pub created-marks : (p : Description) → good_params p ≡ true → layout_marks p (created p) ≡ passed (marks_of (fresh_tree p) p.n)
created-marks p h = complete-for p (created p) (record { good = good-facts p h; size = created-length p h }) (fresh_tree p) (create-opens p h)

marks-beyond : (p : Description) (n b : ℕ) → 3 ≤ b → marks_from (fresh_tree p) b n ≡ zeros n
unfolding marks_from mark_of times blocks_in leaf_blocks fresh_tree fresh_section fresh_leaf
marks-beyond p zero b h = refl
marks-beyond p (suc n) b h =
    simp (ne_eqb b 1 (λ e. omega arith), ne_eqb b 2 (λ e. omega arith)) (ap (λ (l : List ℕ). 0 ∷ l) (marks-beyond p n (suc b) (omega arith)))

pub fresh-marks : (p : Description) → good_params p ≡ true → marks_of (fresh_tree p) p.n ≡ 1 ∷ 1 ∷ zeros (p.n - 2)
unfolding marks_from mark_of times blocks_in leaf_blocks fresh_tree fresh_section fresh_leaf
fresh-marks p h =
    let e : p.n ≡ suc (suc (p.n - 2)) = omega (arith, (good-facts p h).n-least) in
    ap (marks_of (fresh_tree p)) e ∙ ap (λ (l : List ℕ). 1 ∷ 1 ∷ l) (marks-beyond p (p.n - 2) 3 (omega arith))
