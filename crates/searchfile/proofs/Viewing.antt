-- VIEW: one law for each return of the test whether a block is shown, and of the code that lends its part.
use Prim.Native.Nat.{ℕ, ◌≤◌}
use mathlib.Core.Path.{◌≡◌, refl, sym, ap, ◌∙◌}
use mathlib.Core.Bool.{Bool, true, false, cond, not, ◌&&◌}
use mathlib.Core.List.{List, []}
use borrow.Author.Tests.{not-true, not-false, leb-true}
use lib.Dec.{leb}
use lib.ListN.{length}
use Rattle.numbers.specs.Checked.{between}
use Rattle.numbers.proofs.Passed.{both}
use Rattle.drum.specs.Params.{good_params, sized}
use Rattle.drum.specs.Blocks.{Fitting, seen, text_of}
use Rattle.drum.proofs.Good.{sized-facts}
use Rattle.rules.specs.Close.{view}
use Rattle.searchfile.specs.declared.Session as code
use Rattle.searchfile.specs.Promise.{held}
use Rattle.searchfile.specs.Parts.{Borrowed, Part, part_of, part_text, text_part, shown, view_at, view_part}

-- ---- whether a block is shown: a test that is made only where the one before it holds

pub then_and : (x y v : Bool) → x ≡ true → v ≡ y → v ≡ (x && y)
then_and x y v e h = h ∙ rw e refl

pub else-and : (x y v : Bool) → x ≡ false → v ≡ x → v ≡ (x && y)
else-and x y v e h = h ∙ rw e refl

regrouped : (o z l m : Bool) → (((o && z) && l) && m) ≡ (o && (z && (l && m)))
regrouped false z l m = refl
regrouped true false l m = refl
regrouped true true l m = refl

-- u and v are what the first two and three tests came to
module _ (o z l m u v : Bool) (eu : u ≡ (o && z)) (ev : v ≡ (u && l)) where
  four : (v && m) ≡ (o && (z && (l && m)))
  four = (λ j. (ev ∙ ap (λ (x : Bool). x && l) eu) j && m) ∙ regrouped o z l m

  pub shown-when : v ≡ true → m ≡ (o && (z && (l && m)))
  shown-when h = sym (ap (λ (x : Bool). x && m) h) ∙ four

  pub shown_not : v ≡ false → v ≡ (o && (z && (l && m)))
  shown_not h = h ∙ sym (ap (λ (x : Bool). x && m) h) ∙ four

-- ---- what a block that is shown is: t is the test above

module _ (s : code.Session) (f d : List ℕ) (b : ℕ) (t : Bool) (e : t ≡ shown (held s) (length f) (length d) b) (h : not t ≡ false) where
  parts : (sized s.desc (length f) (length d) ≡ true) × (between 1 s.desc.n b ≡ true)
  unfolding shown
  parts = both (sized s.desc (length f) (length d)) (between 1 s.desc.n b) (both s.opened _ (sym e ∙ not-false t h)).1

  pub shown-good : good_params s.desc ≡ true
  shown-good = (sized-facts _ _ _ parts.0).good

  pub shown-fitting : Fitting s.desc f d
  shown-fitting = let z = sized-facts _ _ _ parts.0 in record { good = z.good; file-is = z.file-is; buffer-is = z.buffer-is }

  pub shown-least : 1 ≤ b
  shown-least = leb-true _ _ (both (leb 1 b) (leb b s.desc.n) parts.1).0

  pub shown-most : b ≤ s.desc.n
  shown-most = leb-true _ _ (both (leb 1 b) (leb b s.desc.n) parts.1).1

-- ---- the part that is lent back

module _ (s : code.Session) (file buffer : Borrowed) (b : ℕ) where
  -- by the test whether the block is shown
  tested : Bool → Part
  tested t = record {
    address = cond t (part_text s.desc s.current file buffer b) file.ref_ptr;
    words = cond t (text_of (seen s.desc s.current file.now buffer.now) b) [];
  }

  by-test : (t : Bool) → t ≡ shown (held s) (length file.now) (length buffer.now) b → tested t ≡ view_part (held s) file buffer b
  unfolding tested shown view_at view
  by-test t e = ap tested e

  pub view-none : (r : Borrowed) (t : Bool) → t ≡ shown (held s) (length file.now) (length buffer.now) b → not t ≡ true → r.ref_ptr ≡ file.ref_ptr → r.now ≡ []
      → part_of r ≡ view_part (held s) file buffer b
  unfolding tested
  view-none r t e h a i = (λ j. record { address = a j; words = i j }) ∙ ap tested (sym (not-true t h)) ∙ by-test t e

  pub view-shown : (r : Borrowed) (t : Bool) → part_of r ≡ text_part s.desc s.current file buffer b
      → t ≡ shown (held s) (length file.now) (length buffer.now) b → not t ≡ false → part_of r ≡ view_part (held s) file buffer b
  unfolding tested
  view-shown r t is e h = is ∙ ap tested (sym (not-false t h)) ∙ by-test t e
