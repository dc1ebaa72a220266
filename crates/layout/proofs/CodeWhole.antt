-- What the whole walk relies on: the master's numbers, the rest of the blocks, and what is left of the marks.
use mathlib.Core.Path.{◌≡◌, refl, sym, ap, ◌∙◌}
use mathlib.Core.Bool.{Bool, true, false, ◌&&◌}
use mathlib.Core.List.{List}
use Prim.Native.Nat.{ℕ, ◌+◌, ◌-◌, ◌≤◌}
use native.Mathlib.Omega.{arith}
use lib.ListN.{length, take, drop}
use Rattle.numbers.specs.Numbers.{bad_file}
use Rattle.numbers.specs.Checked.{Checked, passed, refused}
use Rattle.words.specs.Words.{part, zeros, all_are, none_is}
use Rattle.drum.specs.declared.Description.{Description}
use Rattle.drum.specs.Params.{start}
use Rattle.drum.specs.Blocks.{sections, lowest_unused}
use Rattle.layout.specs.Inspect.{rest_ok}
use Rattle.layout.specs.Inspected.{Ranged, left_marks}
use Rattle.layout.proofs.Lists.{part-rest}
use Rattle.layout.proofs.CodeFlags.{grouped}
use Rattle.layout.proofs.CodeMarks.{emptied}

-- the numbers that the walk reads again
module _ (p : Description) (f : List ℕ) (n : ℕ) (w : Ranged p f) where
  pub sections-some : n ≡ sections f → 1 ≤ n
  sections-some e = let g = w.sections-least in omega arith

  pub sections-few : n ≡ sections f → n ≤ p.control
  sections-few e = let g = w.sections-most in omega arith

  pub lowest-some : n ≡ lowest_unused f → 1 ≤ n
  lowest-some e = let g = w.lowest-least in omega arith

  pub lowest-few : n ≡ lowest_unused f → n ≤ p.n + 1
  lowest-few e = let g = w.lowest-most in omega arith

-- the rest: v that each block below the lowest is marked and no other is
module _ (p : Description) (f : List ℕ) (lowest : ℕ) (marks : List ℕ) (v : Bool)
    (ev : v ≡ (none_is 0 (take (lowest - 1) marks) && all_are 0 (take (length marks - (lowest - 1)) (drop (lowest - 1) marks)))) where
  rest-is : rest_ok p f lowest marks ≡ (v && all_are 0 (drop (start p lowest) f))
  unfolding rest_ok
  rest-is =
      let k : take (length marks - (lowest - 1)) (drop (lowest - 1) marks) ≡ drop (lowest - 1) marks = unfold part in part-rest (lowest - 1) marks in
      rw (ev, k) (grouped (none_is 0 (take (lowest - 1) marks)) (all_are 0 (drop (lowest - 1) marks)) (all_are 0 (drop (start p lowest) f)))

  pub rest-words : (s : ℕ) → s ≡ start p lowest → (x : Bool) → x ≡ all_are 0 (part s (length f - s) f) → v ≡ true → x ≡ rest_ok p f lowest marks
  rest-words s es x ex y = sym (rest-is ∙ rw y (sym (ex ∙ ap (all_are 0) (part-rest s f ∙ ap (λ (i : ℕ). drop i f) es))))

  pub rest-marks : v ≡ false → v ≡ rest_ok p f lowest marks
  rest-marks y = sym (rest-is ∙ rw y refl)

-- what the inspection leaves: ms the marks of a walk that came through
pub left-marks : (n : ℕ) (x : Checked (List ℕ)) (ms : List ℕ) → x ≡ passed ms → ms ≡ left_marks n x
unfolding left_marks
left-marks n x ms e = rw e refl

pub left-none : (n m : ℕ) (x : Checked (List ℕ)) (ms : List ℕ) → x ≡ refused bad_file → ms ≡ zeros m → m ≡ n → ms ≡ left_marks n x
unfolding left_marks
left-none n m x ms e z l = rw e (emptied n m ms z l)
