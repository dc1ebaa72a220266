-- The blocks turned one by one: what is left of the file gives all of it, and a block has its words until its turn comes.
use Prim.Native.Nat.{ℕ, ◌+◌, ◌≤◌, ◌<◌}
use mathlib.Core.Path.{◌≡◌, sym, ap, ◌∙◌}
use mathlib.Core.Bool.{true}
use mathlib.Core.List.{List}
use native.Mathlib.Omega.{arith}
use lib.ListN.{length, get_or, drop}
use lib.Seq.{drop-drop}
use Rattle.words.specs.Words.{part, all_words}
use Rattle.words.proofs.All.{all_words-take, all_words-drop}
use Rattle.words.proofs.Parts.{length_part}
use Rattle.drum.specs.declared.Description.{Description}
use Rattle.drum.specs.Params.{start}
use Rattle.drum.specs.Blocks.{sections, block_at, put_block}
use Rattle.drum.proofs.Blocks.{block_within}
use Rattle.layout.specs.Inspected.{Fit}
use Rattle.layout.specs.Turned.{index_marked, index_unmarked, turned_text, turned}
use Rattle.layout.proofs.Good.{start_first, start-next}
use Rattle.layout.proofs.TurnedForm.{length-turned}
use Rattle.layout.proofs.TurnedBlocks.{length_marked}
use Rattle.layout.proofs.TurnedSteps.{left_to_turn, turn-goes, turn-done, behind-put}
use Rattle.turn.specs.Fits.{TurnFits, Turnable, blocks_turned}

-- before the first block
pub first-turn : (p : Description) (f marks : List ℕ) → blocks_turned p marks f ≡ left_to_turn p f marks 0
unfolding blocks_turned left_to_turn
first-turn p f marks = rw (start_first p)

-- b blocks are turned, f₀ is the file as it was
module _ (p : Description) (f₀ f : List ℕ) (b : ℕ) where
  pub rest-next : (g : List ℕ) (m : ℕ) → drop (start p (b + 1)) f ≡ drop (start p (b + 1)) f₀
      → g ≡ put_block p f (b + 1) (turned_text p m (block_at p f (b + 1))) → Fit p f₀ → length f ≡ length f₀ → b < p.n
      → drop (start p (b + 1 + 1)) g ≡ drop (start p (b + 1 + 1)) f₀
  unfolding put_block block_at
  rest-next g m e eg w k l =
      let s = start p (b + 1) in
      let x = turned_text p m (part s p.wpb f) in
      let fits : s + p.wpb ≤ length f = omega (arith, w.size, block_within p (b + 1) (omega arith, omega arith)) in
      let len : length x ≡ p.wpb = length-turned p m (part s p.wpb f) w.good (length_part s p.wpb f fits) in
      let next : start p (b + 1 + 1) ≡ s + p.wpb = start-next p (b + 1) (omega arith) in
      (λ j. drop (next j) (eg j)) ∙ behind-put f x s p.wpb fits len ∙ further s p.wpb e ∙ ap (λ (m : ℕ). drop m f₀) (sym next)
    where
      further : (s v : ℕ) → drop s f ≡ drop s f₀ → drop (s + v) f ≡ drop (s + v) f₀
      further s v q = sym (drop-drop v s f) ∙ ap (drop v) q ∙ drop-drop v s f₀

module _ (p : Description) (f₀ f marks : List ℕ) (b : ℕ) where
  pub turn-ready : drop (start p (b + 1)) f ≡ drop (start p (b + 1)) f₀ → length f ≡ length f₀ → Fit p f₀ → all_words f₀ ≡ true → length marks ≡ p.n
      → b < length marks → Turnable p f (b + 1)
  unfolding block_at part
  turn-ready e k w words n l = record {
    has = record { good = w.good; file-is = k ∙ w.size; least = omega arith; most = omega arith };
    words = rw e (all_words-take p.wpb (drop (start p (b + 1)) f₀) (all_words-drop (start p (b + 1)) f₀ words));
  }

  pub turn-next : (g : List ℕ) (m : ℕ) → blocks_turned p marks f₀ ≡ left_to_turn p f marks b
      → g ≡ put_block p f (b + 1) (turned_text p m (block_at p f (b + 1))) → m ≡ get_or marks b 0 → Fit p f₀ → length f ≡ length f₀
      → length marks ≡ p.n → b < length marks → blocks_turned p marks f₀ ≡ left_to_turn p g marks (b + 1)
  turn-next g m e eg em w k n l =
      let x = ap (λ (y : ℕ). put_block p f (b + 1) (turned_text p y (block_at p f (b + 1)))) em in
      e ∙ turn-goes p f g marks b (eg ∙ x) w.good (k ∙ w.size) l (omega arith)

  pub turn_end : blocks_turned p marks f₀ ≡ left_to_turn p f marks b → Fit p f₀ → length f ≡ length f₀ → length marks ≡ p.n → length marks ≤ b
      → b ≤ length marks → f ≡ blocks_turned p marks f₀
  turn_end e w k n h l = sym (e ∙ turn-done p f marks b (k ∙ w.size) n (omega arith))

-- the whole: m₁ the marks with each index block marked, m₂ the marks given back
module _ (p : Description) (f m : List ℕ) (w : TurnFits p f m) (m₁ : List ℕ) (e : m₁ ≡ index_marked p f (sections f) m) where
  pub turn-words : all_words f ≡ true
  turn-words = w.words

  pub marks-kept : length m₁ ≡ p.n
  marks-kept = ap length e ∙ length_marked p f (sections f) m ∙ w.marks-are

  pub whole-turned : (g : List ℕ) → g ≡ blocks_turned p m₁ f → g ≡ turned p m f
  unfolding blocks_turned turned
  whole-turned g eg = eg ∙ ap (λ (x : List ℕ). blocks_turned p x f) e

  pub marks-back : (m₂ : List ℕ) → m₂ ≡ index_unmarked m₁ → m₂ ≡ m
  marks-back m₂ h = h ∙ ap index_unmarked e ∙ w.back
