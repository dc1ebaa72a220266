use Rattle.std.proofs.Common.{arith, rules}
use Rattle.sequential.specs.Rows.{area}
use Rattle.sequential.proofs.Good.{fine-leaders}
use Rattle.sequential.proofs.plan.work_words.Goals as goal

pub overflow_sub-result : goal.overflow_sub-result
overflow_sub-result c = omega (arith, fine-leaders)

pub returns-in-Variable : goal.returns-in-Variable
unfolding area
returns-in-Variable c = search rules
