use Rattle.std.proofs.Common.{arith}
use Rattle.std.proofs.lemmas.Bool.Decides.{nat_tests}
use Rattle.std.proofs.lemmas.Grind.{common_steps}
use Rattle.sequential.specs.Rows.{good_layout}
use Rattle.sequential.proofs.plan.is_good.Goals as goal

pub returns-then-l-le63 : goal.returns-then-l-le63
unfolding good_layout
returns-then-l-le63 c = grind (arith, nat_tests)

pub returns-else-l-le63 : goal.returns-else-l-le63
unfolding good_layout
returns-else-l-le63 c = grind (arith, common_steps)
