use Rattle.std.proofs.Common.{arith}
use Rattle.std.proofs.lemmas.Bool.Decides.{nat_tests}
use Rattle.sequential.specs.Rows.{room, area}
use Rattle.sequential.proofs.Good.{fine-leaders}
use Rattle.sequential.proofs.plan.has_room.Goals as goal

pub overflow_sub-area : goal.overflow_sub-area
overflow_sub-area c = omega (arith, fine-leaders)

pub returns-then-at-area : goal.returns-then-at-area
unfolding room area
returns-then-at-area c = grind (arith, nat_tests)

pub returns-else-at-area : goal.returns-else-at-area
unfolding room area
returns-else-at-area c = grind (arith, nat_tests)
