-- The first line, one law for each return of the code: t is its test of the parameters, n the size that it computes, g what it read.
use Prim.Native.Nat.{ℕ, ◌≤◌, ◌<◌}
use mathlib.Core.Path.{◌≡◌, sym, ◌∙◌}
use mathlib.Core.Bool.{Bool, true, false, not}
use native.Mathlib.Omega.{arith}
use borrow.Author.Tests.{not-true, lt-ltb, le-ltb}
use Rattle.drum.specs.declared.Description.{Description}
use Rattle.drum.specs.Params.{good_params, file_size, size_if}
use Rattle.drum.proofs.Good.{was-good, size-good}
use Rattle.printed.specs.declared.Start.TheVariants.{OutOfRange, TooLarge, Good}
use Rattle.printed.specs.Output.{most_words, start_with}

module _ (p : Description) (t : Bool) where
  pub start-range : t ≡ good_params p → not t ≡ true → OutOfRange ≡ start_with p
  unfolding start_with
  start-range e h = simp (sym e ∙ not-true t h)

  pub start-large : (n : ℕ) → n ≡ size_if p (file_size p) → most_words < n → t ≡ good_params p → not t ≡ false → TooLarge ≡ start_with p
  unfolding start_with
  start-large n i l e h =
      let g = was-good p t e h in
      let s = size-good p _ n i g in
      let m : most_words < file_size p = omega arith in
      simp (g, lt-ltb _ _ m)

  pub start-good : (n : ℕ) → n ≡ size_if p (file_size p) → n ≤ most_words → t ≡ good_params p → not t ≡ false → Good p ≡ start_with p
  unfolding start_with
  start-good n i l e h =
      let g = was-good p t e h in
      let s = size-good p _ n i g in
      let m : file_size p ≤ most_words = omega arith in
      simp (g, le-ltb _ _ m)
