-- The number behind the last block is small; the rest is the definition, test by test.
use native.Mathlib.Omega.{arith}
use Rattle.free.proofs.Granting.{number_small}
use Rattle.free.proofs.none_left.Goals as goal

pub overflow_add-p : goal.overflow_add-p
overflow_add-p c = omega (arith, number_small)
