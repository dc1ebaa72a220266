-- The tests of the sizes. They speak as the code does: q is the description with the new CONTROL, v what the tests before the last one gave, n the file's word 0.
use Prim.Native.Nat.{ℕ, ◌<◌}
use mathlib.Core.Path.{◌≡◌, refl, sym, ◌∙◌}
use mathlib.Core.Bool.{Bool, true, false, ◌&&◌}
use mathlib.Core.List.{List}
use native.Mathlib.Omega.{arith}
use lib.Dec.{eqb, leb}
use lib.ListN.{length}
use borrow.Author.Tests.{eqb-true}
use Rattle.words.proofs.All.{and_both}
use Rattle.drum.specs.declared.Description.{Description}
use Rattle.drum.specs.Params.{every, good_params, file_size}
use Rattle.drum.specs.Blocks.{sections}
use Rattle.drum.proofs.Good.{caps}
use Rattle.layout.specs.Copied.{under_control}
use Rattle.rules.specs.Copy.{copy_sizes}

-- the description that `with_control` gives
abbrev pub controlled : ℕ → Description → Description
controlled c p = record { wpb = p.wpb; wpr = p.wpr; k = p.k; space = p.space; control = c; n = p.n; form = p.form }

pub under-is : (c : ℕ) (p q : Description) → q ≡ controlled c p → q ≡ under_control c p
unfolding under_control
under-is c p q e = e

-- good parameters and a file's length, tested
abbrev pub is_file : Description → ℕ → Bool
is_file p file = good_params p && eqb file (file_size p)

-- the tests in the order of the code
shuffled : (a b m x y r : Bool) → (a && (b && (m && (x && (y && (r && true)))))) ≡ ((((a && b) && (x && y)) && m) && r)
shuffled false b m x y r = refl
shuffled true false m x y r = refl
shuffled true true m false y r = go m
  where
    go : (t : Bool) → (t && false) ≡ false
    go true = refl
    go false = refl
shuffled true true m true false r = go m
  where
    go : (t : Bool) → (t && false) ≡ false
    go true = refl
    go false = refl
shuffled true true false true true r = refl
shuffled true true true true true true = refl
shuffled true true true true true false = refl

module _ (p : Description) (c : ℕ) (f : List ℕ) (second marks : ℕ) (q : Description) (u : q ≡ controlled c p) (v : Bool)
    (ev : v ≡ ((is_file p (length f) && is_file q second) && eqb marks p.n)) where
  sizes-is : copy_sizes p c f second marks ≡ (v && leb (sections f) c)
  unfolding copy_sizes every
  sizes-is =
      let w = under-is c p q u in
      rw (ev, w)
      (shuffled
      (good_params p)
      (eqb (length f) (file_size p))
      (eqb marks p.n)
      (good_params (under_control c p))
      (eqb second (file_size (under_control c p)))
      (leb (sections f) c))

  pub sized-room : v ≡ true → (n : ℕ) → n ≡ sections f → leb n c ≡ copy_sizes p c f second marks
  sized-room y n e = sym (sizes-is ∙ rw (y, e) refl)

  pub sized-not : v ≡ false → v ≡ copy_sizes p c f second marks
  sized-not y = sym (sizes-is ∙ rw y refl)

  -- a file of its length has a word 0
  pub some_word : v ≡ true → 0 < length f
  some_word y =
      let (files, m) = and_both (is_file p (length f) && is_file q second) (eqb marks p.n) (sym ev ∙ y) in
      let (first, other) = and_both (is_file p (length f)) (is_file q second) files in
      let (g, l) = and_both (good_params p) (eqb (length f) (file_size p)) first in
      let h = caps p g in
      let k = eqb-true _ _ l in
      omega arith
