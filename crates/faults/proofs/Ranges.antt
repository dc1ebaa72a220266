-- The ranges of the parameters: each branch of the code is a case of its definition.
use Prim.Native.Nat.{ℕ, ◌-◌, ◌≤◌, ◌<◌, min}
use native.Mathlib.Decide.{dec_lt}
use native.Mathlib.Omega.{arith}
use lib.Dec.{leb}
use mathlib.Core.Bool.{Bool, true, false, cond, not}
use mathlib.Core.Path.{◌≡◌}
use borrow.Author.Tests.{le-leb, lt-leb, not-true, not-false}
use Rattle.drum.specs.declared.Description.{Description}
use Rattle.drum.specs.Params.{D, I}
use Rattle.drum.specs.Params.{most_sections}
use Rattle.faults.specs.declared.Fault.{Fault}
use Rattle.faults.specs.declared.Parameter.{Parameter}
use Rattle.faults.specs.declared.Parameter.TheVariants.{Wpb, Wpr, K, Space, Control, N}
use Rattle.faults.specs.First.{within, wpb_good, half, most_key, most_space, out_fault, ranged, range_fault}

-- the most words of a key
pub key-least : (p : Description) (h r : ℕ) → h ≡ half p → r ≡ min (h - 1) 63 → r ≡ most_key p
unfolding most_key
key-least p h r e g = rw (← e) (go (dec_lt h 64))
  where
    go : Dec (h < 64) → r ≡ cond (leb 64 h) 63 (h - 1)
    go (yes k) = rw (lt-leb _ _ k) (omega arith)
    go (no k) =
        let l : 64 ≤ h = omega arith in
        rw (le-leb _ _ l) (omega arith)

-- the most that SPACE may be
pub space-least : (p : Description) (d i r : ℕ) → d ≡ D p → i ≡ I p → r ≡ min d i - 2 → r ≡ most_space p
unfolding most_space
space-least p d i r e f g = rw (← e, ← f) (go (dec_lt i d))
  where
    go : Dec (i < d) → r ≡ cond (leb d i) (d - 2) (i - 2)
    go (yes k) = rw (lt-leb _ _ k) (omega arith)
    go (no k) =
        let l : d ≤ i = omega arith in
        rw (le-leb _ _ l) (omega arith)

-- a value within its range, and one out of it
module _ (what : Parameter) (value least most : ℕ) (more : Fault) (t : Bool) (e : t ≡ within least value most) where
  pub ranged-in : t ≡ true → more ≡ ranged what value least most more
  unfolding ranged
  ranged-in h = rw (← e, h)

  pub ranged-out : (r : Fault) → r ≡ out_fault what value least most → t ≡ false → r ≡ ranged what value least most more
  unfolding ranged
  ranged-out r q h = rw (← e, h) q

-- the parameters, one after the other
module _ (p : Description) (t : Bool) (r : Fault) where
  pub range-block : r ≡ out_fault Wpb p.wpb 6 4096 → t ≡ wpb_good p.wpb → not t ≡ true → r ≡ range_fault p
  unfolding range_fault
  range-block q e h = rw (← e, not-true t h) q

  pub range-rest : (w s c n : Fault) (key words space : ℕ) → r ≡ ranged K p.k 1 key w → w ≡ ranged Wpr p.wpr p.k words s
      → s ≡ ranged Space p.space 0 space c → c ≡ ranged Control p.control 1 most_sections n → n ≡ out_fault N p.n 2 262142
      → key ≡ most_key p → words ≡ half p → space ≡ most_space p → t ≡ wpb_good p.wpb → not t ≡ false → r ≡ range_fault p
  unfolding range_fault
  range-rest w s c n key words space er ew es ec en ek ed ep e h = rw (← e, not-false t h, ← ek, ← ed, ← ep, ← en, ← ec, ← es, ← ew) er
