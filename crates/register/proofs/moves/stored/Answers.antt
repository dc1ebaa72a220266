-- `register::stored` meets its contract: UPDAT's answer, and the transfers of both.
use native.Mathlib.Omega.{arith}
use Rattle.register.proofs.Costs.{updated-few}
use Rattle.register.proofs.Moving.{stored-after}
use Rattle.register.proofs.moves.stored.Goals as goal

pub overflow_add-result : goal.overflow_add-result
overflow_add-result c = omega (arith, updated-few)

pub returns : goal.returns
returns c = search stored-after
