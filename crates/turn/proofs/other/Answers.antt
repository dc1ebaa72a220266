-- `turn::other` meets its contract.
use native.Mathlib.Omega.{arith}
use Rattle.turn.proofs.Sizes.{form-few, other-is}
use Rattle.turn.proofs.other.Goals as goal

pub overflow_sub-p : goal.overflow_sub-p
overflow_sub-p c = omega (arith, form-few)

pub returns : goal.returns
returns c = search other-is
