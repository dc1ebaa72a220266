-- Each way through a step of the walk, a law for each return: the entries one by one, a detail block, an index block, the chain.
use mathlib.Core.Path.{◌≡◌, refl, ap, ◌∙◌}
use mathlib.Core.Bool.{Bool, true, false}
use mathlib.Core.List.{List}
use Prim.Native.Nat.{ℕ, zero, suc, ◌+◌, ◌*◌, ◌-◌, ◌≤◌, ◌<◌}
use native.Mathlib.Omega.{arith}
use lib.Dec.{eqb}
use lib.ListN.{length, drop}
use borrow.Author.Tests.{ne_eqb}
use Rattle.numbers.specs.Numbers.{bad_file}
use Rattle.numbers.specs.Checked.{Checked, passed, refused, ◌>>=◌, ◌>>◌, require}
use Rattle.table.proofs.Places.{row_next}
use Rattle.words.specs.Words.{part, all_are}
use Rattle.drum.specs.declared.Description.{Description}
use Rattle.drum.specs.Blocks.{block_at, link_place, link_in, is_free}
use Rattle.layout.specs.Inspect.{marked, through, chain_held}
use Rattle.layout.proofs.Lists.{part-rest}

-- entries, one by one: what is left behind the first i gives what all give
module _ (step : ℕ → ℕ → List ℕ → Checked (List ℕ)) (stride : ℕ) where
  pub through-start : (low e n : ℕ) (ms : List ℕ) → through step stride low e n ms ≡ through step stride low (e + 0 * stride) (n - 0) ms
  through-start low e n ms =
      let x : e ≡ e + 0 * stride = omega arith in
      let y : n ≡ n - 0 = omega arith in
      λ j. through step stride low (x j) (y j) ms

  module _ (low e n i : ℕ) (ms : List ℕ) (whole : Checked (List ℕ)) (q : whole ≡ through step stride low (e + i * stride) (n - i) ms) where
    pub through-done : n ≤ i → whole ≡ passed ms
    unfolding through
    through-done h = let z : n - i ≡ 0 = omega arith in q ∙ rw z

    module _ (some : i < n) where
      one_more_lem : n - i ≡ suc (n - (i + 1))
      one_more_lem = omega arith

      pub through-stop : step low (e + i * stride) ms ≡ refused bad_file → whole ≡ refused bad_file
      unfolding through
      through-stop r = q ∙ rw one_more_lem (simp r)

      pub through-next : (ms' : List ℕ) → step low (e + i * stride) ms ≡ passed ms'
          → whole ≡ through step stride (e + i * stride) (e + (i + 1) * stride) (n - (i + 1)) ms'
      unfolding through
      through-next ms' r =
          let k : e + i * stride + stride ≡ e + (i + 1) * stride = omega (arith, row_next i stride) in
          q ∙ rw one_more_lem (simp r (ap (λ (x : ℕ). through step stride (e + i * stride) x (n - (i + 1)) ms') k))

-- the chain from block b on, once i blocks of n were passed: what is left gives what all of it gives
module _ (p : Description) (f ms : List ℕ) (b n i : ℕ) (whole : Checked (List ℕ)) (q : whole ≡ chain_held p f (n - i) b ms) where
  pub chain-end : b ≡ 0 → whole ≡ passed ms
  unfolding chain_held
  chain-end e = q ∙ go (n - i)
    where
      go : (m : ℕ) → chain_held p f m b ms ≡ passed ms
      go zero = rw (e, chain_held)
      go (suc m) = rw (e, chain_held)

  pub chain-last : n ≤ i → whole ≡ (require (eqb b 0) bad_file >> passed ms)
  unfolding chain_held
  chain-last h = let z : n - i ≡ 0 = omega arith in q ∙ rw z (go (eqb b 0))
    where
      go : (t : Bool) → elim t [ true ↦ passed ms | false ↦ refused bad_file ] ≡ (require t bad_file >> passed ms)
      go true = refl
      go false = refl

  pub chain-step : i < n → (b ≡ 0 → ⊥)
      → whole
      ≡ (marked 2 b ms >>= (λ ms'. require (is_free p (block_at p f b)) bad_file
      >> (require (all_are 0 (drop (link_place p + 1) (block_at p f b))) bad_file >> chain_held p f (n - (i + 1)) (link_in p (block_at p f b)) ms')))
  unfolding chain_held
  chain-step some e =
      let more : n - i ≡ suc (n - (i + 1)) = omega arith in
      q ∙ rw (more, ne_eqb b 0 e, chain_held)

-- the words behind a free block's link
pub link-rest : (p : Description) (u : List ℕ) (j : ℕ) → j ≡ link_place p → (g : Bool) → g ≡ all_are 0 (part (j + 1) (length u - (j + 1)) u)
    → g ≡ all_are 0 (drop (link_place p + 1) u)
link-rest p u j e g h = h ∙ ap (all_are 0) (part-rest (j + 1) u) ∙ (λ z. all_are 0 (drop (e z + 1) u))
