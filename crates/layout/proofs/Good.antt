-- What good parameters and the right length of the file give: what fits in a block, and where the blocks lie.
use Prim.Native.Nat.{ℕ, suc, ◌≤◌, ◌-◌, ◌+◌, ◌*◌}
use mathlib.Core.Path.{◌≡◌}
use mathlib.Core.List.{List}
use lib.ListN.{length}
use native.Mathlib.Nat.{suc-mul, mul-le-mul_right}
use native.Mathlib.Omega.{arith}
use Rattle.drum.specs.declared.Description.{Description}
use Rattle.drum.specs.Params.{D, I, file_size, start, master_size}
use Rattle.drum.specs.Blocks.{Block}
use Rattle.drum.proofs.Good.{good-yes, caps}
pub use Rattle.drum.proofs.Good.{Good, good-facts}

pub row_more : (n s : ℕ) → suc n * s ≡ s + n * s
row_more n s = rw suc-mul (omega arith)

module _ (p : Description) (g : Good p) where
  -- D records, and I entries, fit in a block behind its count
  pub cap-d : 1 + D p * p.wpr ≤ p.wpb
  cap-d = (caps p (good-yes p g)).records-fit

  pub cap-i : 1 + I p * (p.k + 1) ≤ p.wpb
  cap-i = (caps p (good-yes p g)).entries_fit

  pub master-fits : (n : ℕ) → n ≤ p.control → 3 + n * (p.k + 1) ≤ master_size p
  unfolding master_size
  master-fits n h = omega (arith, mul-le-mul_right (p.k + 1) h)

-- where blocks start
module _ (p : Description) where
  pub start_first : start p 1 ≡ master_size p
  unfolding start
  start_first = omega arith

  pub start-le : (a b : ℕ) → a ≤ b → start p a ≤ start p b
  unfolding start
  start-le a b h = let q : a - 1 ≤ b - 1 = omega arith in omega (arith, mul-le-mul_right p.wpb q)

  pub start-next : (b : ℕ) → 1 ≤ b → start p (b + 1) ≡ start p b + p.wpb
  unfolding start
  start-next b h =
      let q : b + 1 - 1 ≡ suc (b - 1) = omega arith in
      rw (q, row_more (b - 1) p.wpb) (omega arith)

  pub start-end : start p (p.n + 1) ≡ file_size p
  unfolding start file_size
  start-end = let q : p.n + 1 - 1 ≡ p.n = omega arith in rw q

-- good parameters, and a file of the right length
pub record Sized (p : Description) (f : List ℕ) : Type 0 where
  pub good : Good p
  pub size : length f ≡ file_size p

module _ (p : Description) (f : List ℕ) (z : Sized p f) where
  pub block_in_lem : (b : ℕ) → Block p b → start p b + p.wpb ≤ length f
  block_in_lem b (h, k) =
      let l : start p (b + 1) ≤ start p (p.n + 1) = start-le p (b + 1) (p.n + 1) (omega arith) in
      omega (arith, start-next p b h, start-end p, z.size)

  pub master-in : master_size p ≤ length f
  unfolding file_size
  master-in = omega (arith, z.size)
