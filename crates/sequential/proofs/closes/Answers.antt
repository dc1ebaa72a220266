use native.Mathlib.Omega.{arith}
use Rattle.sequential.proofs.Good.{fine-leaders}
use Rattle.sequential.proofs.Laid.{closed-fixed, closed-variable}
use Rattle.sequential.proofs.closes.Goals as goal

pub overflow_sub-result : goal.overflow_sub-result
overflow_sub-result c = omega (arith, fine-leaders)

pub returns-in-Fixed : goal.returns-in-Fixed
returns-in-Fixed c = search closed-fixed

pub returns-in-Variable : goal.returns-in-Variable
returns-in-Variable c = search closed-variable
