-- VIEW of the profile: one law for each return of the test whether a block is shown, and of the code that lends its part.
use Prim.Native.Nat.{ℕ, ◌≤◌}
use mathlib.Core.Path.{◌≡◌, refl, sym, ap, ◌∙◌}
use mathlib.Core.Bool.{Bool, true, false, cond, not, ◌&&◌}
use mathlib.Core.List.{List, []}
use borrow.Author.Tests.{not-true, not-false, leb-true}
use lib.Dec.{leb}
use lib.ListN.{length}
use Rattle.numbers.specs.Checked.{between}
use Rattle.words.proofs.All.{and_both}
use Rattle.drum.specs.Params.{sized}
use Rattle.drum.specs.Parts.{Borrowed, Part, part_of, part_text, text_part}
use Rattle.drum.specs.Blocks.{Fitting, seen, text_of}
use Rattle.drum.proofs.Good.{sized-facts}
use Rattle.rules.specs.Close.{view}
use Rattle.face.specs.Parts.{shown}
use Rattle.reading.specs.declared.ReadingSession.{ReadingSession}
use Rattle.reading.specs.Reading.{one_section, as_session, read_shown, read_part}

-- ---- whether a block is shown: the tests, one after the other

regrouped : (a o z l m : Bool) → ((((a && o) && z) && l) && m) ≡ (a && (o && (z && (l && m))))
regrouped false o z l m = refl
regrouped true false z l m = refl
regrouped true true false l m = refl
regrouped true true true l m = refl

-- u, v, w are what the first two, three and four tests came to
module _ (a o z l m u v w : Bool) (eu : u ≡ (a && o)) (ev : v ≡ (u && z)) (ew : w ≡ (v && l)) where
  four : (w && m) ≡ (a && (o && (z && (l && m))))
  four = (λ j. (ew ∙ ap (λ (x : Bool). x && l) (ev ∙ ap (λ (x : Bool). x && z) eu)) j && m) ∙ regrouped a o z l m

  pub shown-when : w ≡ true → m ≡ (a && (o && (z && (l && m))))
  shown-when h = sym (ap (λ (x : Bool). x && m) h) ∙ four

  pub shown_not : w ≡ false → w ≡ (a && (o && (z && (l && m))))
  shown_not h = h ∙ sym (ap (λ (x : Bool). x && m) h) ∙ four

-- ---- what a block that is shown is: t is the test above

module _ (s : ReadingSession) (f d : List ℕ) (b : ℕ) (t : Bool) (e : t ≡ read_shown (as_session s) (length f) (length d) b) (h : not t ≡ false) where
  parts : (sized s.desc (length f) (length d) ≡ true) × (between 1 s.desc.n b ≡ true)
  unfolding read_shown shown
  parts =
      let z = (and_both (one_section s.desc) _ (sym e ∙ not-false t h)).1 in
      and_both (sized s.desc (length f) (length d)) (between 1 s.desc.n b) (and_both s.opened _ z).1

  pub shown-fitting : Fitting s.desc f d
  shown-fitting = let z = sized-facts _ _ _ parts.0 in record { good = z.good; file-is = z.file-is; buffer-is = z.buffer-is }

  pub shown-least : 1 ≤ b
  shown-least = leb-true _ _ (and_both (leb 1 b) (leb b s.desc.n) parts.1).0

  pub shown-most : b ≤ s.desc.n
  shown-most = leb-true _ _ (and_both (leb 1 b) (leb b s.desc.n) parts.1).1

-- ---- the part that is lent back

both-tests : {A : Type 0} (x y : Bool) (a c : A) → cond (x && y) a c ≡ cond x (cond y a c) c
both-tests true y a c = refl
both-tests false y a c = refl

module _ (s : ReadingSession) (file buffer : Borrowed) (b : ℕ) where
  -- by the test whether the block is shown
  tested : Bool → Part
  tested t = record {
    address = cond t (part_text s.desc s.current file buffer b) file.ref_ptr;
    words = cond t (text_of (seen s.desc s.current file.now buffer.now) b) [];
  }

  by-test : (t : Bool) → t ≡ read_shown (as_session s) (length file.now) (length buffer.now) b → tested t ≡ read_part (as_session s) file buffer b
  unfolding tested read_shown shown view
  by-test t e =
      let x = shown (as_session s) (length file.now) (length buffer.now) b in
      let w = both-tests (one_section s.desc) x (text_of (seen s.desc s.current file.now buffer.now) b) [] in
      ap tested e ∙ (λ j. record { address = (tested (one_section s.desc && x)).address; words = w j })

  pub view-none : (r : Borrowed) (t : Bool) → t ≡ read_shown (as_session s) (length file.now) (length buffer.now) b → not t ≡ true → r.ref_ptr ≡ file.ref_ptr
      → r.now ≡ [] → part_of r ≡ read_part (as_session s) file buffer b
  unfolding tested
  view-none r t e h a i = (λ j. record { address = a j; words = i j }) ∙ ap tested (sym (not-true t h)) ∙ by-test t e

  pub view-shown : (r : Borrowed) (t : Bool) → part_of r ≡ text_part s.desc s.current file buffer b
      → t ≡ read_shown (as_session s) (length file.now) (length buffer.now) b → not t ≡ false → part_of r ≡ read_part (as_session s) file buffer b
  unfolding tested
  view-shown r t is e h = is ∙ ap tested (sym (not-false t h)) ∙ by-test t e
