use Rattle.std.proofs.Common.{arith}
use Rattle.std.proofs.lemmas.Bool.Decides.{nat_tests}
use Rattle.sequential.specs.Rows.{right, area}
use Rattle.sequential.proofs.Good.{fine-leaders}
use Rattle.sequential.proofs.plan.is_right.Goals as goal

pub overflow_sub-result : goal.overflow_sub-result
overflow_sub-result c = omega (arith, fine-leaders)

pub returns-then-n-ge1 : goal.returns-then-n-ge1
unfolding right area
returns-then-n-ge1 c = grind (arith, nat_tests)

pub returns-else-n-ge1 : goal.returns-else-n-ge1
unfolding right area
returns-else-n-ge1 c = grind (arith, nat_tests)
