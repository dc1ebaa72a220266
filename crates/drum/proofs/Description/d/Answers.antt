-- D is what the definition says, also where WPR or WPB is 0.
use mathlib.Core.Path.{◌≡◌, refl, sym}
use Prim.Native.Nat.{ℕ, zero, suc, ◌/◌, ◌<◌}
use native.Mathlib.Nat.{div-zero}
use native.Mathlib.Omega.{arith}
use Rattle.std.specs.Prelude.{Option, Some, None}
use Rattle.std.specs.Option.{SomeIff, unwrap_or}
use Rattle.drum.specs.Params.{D}
use Rattle.drum.proofs.Description.d.Goals as goal

-- a division that is made where the divisor is not 0, else 0: that is the definitions' division
quotient : (o : Option ℕ) (a b : ℕ) → SomeIff o (0 < b) (a / b) → unwrap_or o 0 ≡ a / b
quotient None a zero s = sym (div-zero _)
quotient None a (suc b) s = absurd (s (omega arith))
quotient (Some x) a b s = s.1

pub returns : goal.returns
unfolding D
returns c = rw (c.unwrap_or.ensures, quotient _ _ _ c.checked_div.ensures, c.saturating_sub.ensures) refl
