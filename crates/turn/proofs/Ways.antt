-- The ways through the turning call: what each test and call gives, and what that asks of the next.
use Prim.Native.Nat.{ℕ}
use mathlib.Core.Path.{◌≡◌, sym, ap, ◌∙◌}
use mathlib.Core.Bool.{Bool, true, false}
use mathlib.Core.List.{List}
use lib.ListN.{length}
use Rattle.numbers.specs.Numbers.{done, wrong_size, already_open, bad_file}
use Rattle.std.specs.Prelude.{Result}
use Rattle.std.specs.Result.{IsErrAnd}
use Rattle.std.proofs.lemmas.Result.{err_from_is_err_and}
use Rattle.numbers.specs.declared.Refusal.{Refusal}
use Rattle.numbers.specs.Refused.{number, number_of}
use Rattle.drum.specs.declared.Description.{Description}
use Rattle.drum.specs.Params.{good_params}
use Rattle.layout.specs.Inspect.{layout_marks}
use Rattle.layout.specs.Inspected.{flagged, left_marks, Fit}
use Rattle.layout.specs.Turned.{other_form, turned}
use Rattle.layout.proofs.CodeFlags.{flagged-false, flagged-true}
use Rattle.layout.proofs.Found.{layout-facts}
use Rattle.layout.proofs.TurnedSteps.{marks-many, sections-few, name_in, marks-again}
use Rattle.rules.specs.Turning.{Turning, turn_left, turn_sizes, turn_layout, turning}
use Rattle.rules.proofs.Turns.{turn_facts, turn-wrong, turn-already, turn-inspected}
use Rattle.turn.specs.Fits.{TurnFits, described}

-- what the exit of a `?` leaves: the refusal's number, and the session's own parameters
pub told-refused : (r : Result Description Refusal) (e : Refusal) → IsErrAnd r (λ y. y ≡ e) → (n : ℕ) → number_of e ≡ n → (p : Description) (f m : List ℕ)
    → (t : Turning) → turn_left n p f m ≡ t → turn_left (number r) (described p r) f m ≡ t
told-refused r e q n h p f m t k = let x = err_from_is_err_and r q in rw (x.1, x.2, h) k

-- of a file of the right length: r is what the inspection gave, ms the marks it left
module _ (p : Description) (f : List ℕ) (r : Bool) (ms : List ℕ) (e : layout_marks p f ≡ flagged r ms) where
  pub closed-bad : ms ≡ left_marks p.n (layout_marks p f) → r ≡ false → turn_left bad_file p f ms ≡ turn_layout p f (layout_marks p f)
  unfolding left_marks turn_layout
  closed-bad l h =
      let q = e ∙ flagged-false r ms h in
      (λ j. turn_left bad_file p f ((l ∙ ap (left_marks p.n) q) j)) ∙ ap (turn_layout p f) (sym q)

  pub closed-fits : r ≡ true → Fit p f → TurnFits p f ms
  closed-fits h w =
      let q = e ∙ flagged-true r ms h in
      record {
        good = w.good;
        file-is = w.size;
        marks-are = marks-many p f ms q w.good w.size;
        words = ((layout-facts p f).holds ms q).words;
        few = sections-few p f ms q w.good w.size;
        named = name_in p f ms q w.good w.size;
        back = marks-again p f ms q w.good w.size;
      }

  pub closed-done : (d : Description) (g m : List ℕ) → r ≡ true → g ≡ turned p ms f → m ≡ ms → d ≡ other_form p
      → turn_left done d g m ≡ turn_layout p f (layout_marks p f)
  unfolding turn_layout
  closed-done d g m h eg em ed = (λ j. turn_left done (ed j) (eg j) (em j)) ∙ ap (turn_layout p f) (sym (e ∙ flagged-true r ms h))

pub closed-good : (p : Description) (f : List ℕ) → Fit p f → good_params p ≡ true
closed-good p f w = w.good

-- of a session, z is what the test of the sizes gave
module _ (p : Description) (opened : Bool) (f marks : List ℕ) (z : Bool) (ez : z ≡ turn_sizes p (length f) (length marks)) where
  pub way-wrong : z ≡ false → turn_left wrong_size p f marks ≡ turning p opened f marks
  way-wrong h = sym (turn-wrong p f marks opened (sym ez ∙ h))

  module _ (right : z ≡ true) where
    sizes : turn_sizes p (length f) (length marks) ≡ true
    sizes = sym ez ∙ right

    pub way-already : opened ≡ true → turn_left already_open p f marks ≡ turning p opened f marks
    way-already h = sym (turn-already p f marks opened sizes h)

    pub way-fit : Fit p f
    way-fit = let w = turn_facts p _ _ sizes in record { good = w.good; size = w.file-is }

    pub way-marks : length marks ≡ p.n
    way-marks = (turn_facts p _ _ sizes).marks-are

    pub way-closed : (n : ℕ) (d : Description) (g m : List ℕ) → opened ≡ false → turn_left n d g m ≡ turn_layout p f (layout_marks p f)
        → turn_left n d g m ≡ turning p opened f marks
    way-closed n d g m o e = e ∙ sym (turn-inspected p f marks opened sizes o)
