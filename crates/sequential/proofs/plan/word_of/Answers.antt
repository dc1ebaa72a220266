use Rattle.sequential.specs.Rows.{word_of}
use native.Mathlib.Omega.{arith}
use Rattle.sequential.proofs.Good.{inside-word}
use Rattle.sequential.proofs.plan.word_of.Goals as goal

pub overflow_mul-result : goal.overflow_mul-result
overflow_mul-result c = omega (arith, inside-word)

pub overflow_add-result : goal.overflow_add-result
overflow_add-result c = omega (arith, inside-word)

pub overflow_add-result-2 : goal.overflow_add-result-2
overflow_add-result-2 c = omega (arith, inside-word)

pub returns : goal.returns
unfolding word_of
returns c = search
