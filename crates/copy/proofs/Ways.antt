-- The ways through the copying call: what each test and call gives, and what that asks of the next.
use Prim.Native.Nat.{ℕ}
use mathlib.Core.Path.{◌≡◌, sym, ap, ◌∙◌}
use mathlib.Core.Bool.{Bool, true, false}
use mathlib.Core.List.{List}
use lib.ListN.{length}
use Rattle.numbers.specs.Numbers.{done, wrong_size, already_open, bad_file}
use Rattle.drum.specs.declared.Description.{Description}
use Rattle.layout.specs.Inspect.{layout_marks}
use Rattle.layout.specs.Inspected.{flagged, left_marks, Fit}
use Rattle.layout.specs.Copied.{copied}
use Rattle.layout.proofs.CodeFlags.{flagged-false, flagged-true}
use Rattle.layout.proofs.Found.{layout-facts}
use Rattle.rules.specs.Copy.{copy_left, copy_sizes, copy}
use Rattle.rules.proofs.Copies.{copy-facts, copy-wrong, copy-already, copy-bad, copy_done_lem}
use Rattle.copy.specs.Fits.{CopyFits}

module _ (p : Description) (opened : Bool) (c : ℕ) (f second marks : List ℕ) (z : Bool) (ez : z ≡ copy_sizes p c f (length second) (length marks)) where
  pub way-wrong : z ≡ false → copy_left wrong_size second marks ≡ copy p opened c f second marks
  way-wrong h = sym (copy-wrong p c f second marks opened (sym ez ∙ h))

  module _ (right : z ≡ true) where
    sizes : copy_sizes p c f (length second) (length marks) ≡ true
    sizes = sym ez ∙ right

    pub way-already : opened ≡ true → copy_left already_open second marks ≡ copy p opened c f second marks
    way-already h = sym (copy-already p c f second marks opened sizes h)

    pub way-fit : Fit p f
    way-fit = let w = copy-facts p c f _ _ sizes in record { good = w.good; size = w.file-is }

    pub way-marks : length marks ≡ p.n
    way-marks = (copy-facts p c f _ _ sizes).marks-are

    module _ (r : Bool) (ms : List ℕ) (e : layout_marks p f ≡ flagged r ms) where
      pub way-bad : ms ≡ left_marks p.n (layout_marks p f) → opened ≡ false → r ≡ false → copy_left bad_file second ms ≡ copy p opened c f second marks
      unfolding left_marks
      way-bad l o h =
          let q = e ∙ flagged-false r ms h in
          (λ j. copy_left bad_file second ((l ∙ ap (left_marks p.n) q) j)) ∙ sym (copy-bad p c f second marks opened sizes o q)

      pub way-fits : r ≡ true → CopyFits p c f second
      way-fits h =
          let w = copy-facts p c f _ _ sizes in
          let q = (layout-facts p f).holds ms (e ∙ flagged-true r ms h) in
          record { good = w.good; file-is = w.file-is; again = w.again; second_is = w.second_is; few = q.control.1; room = w.room }

      pub way-done : (s : List ℕ) → s ≡ copied c p f → opened ≡ false → r ≡ true → copy_left done s ms ≡ copy p opened c f second marks
      way-done s l o h =
          (λ j. copy_left done (l j) ms) ∙ sym (copy_done_lem p c f second marks opened sizes ms o (e ∙ flagged-true r ms h))
