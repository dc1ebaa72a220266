use mathlib.Core.Path.{sym, ◌∙◌}
use Rattle.std.proofs.Common.{arith}
use Rattle.std.proofs.lemmas.Bool.Decides.{nat_tests}
use Rattle.sequential.specs.Rows.{sized, whole}
use Rattle.sequential.proofs.Good.{good-facts}
use Rattle.sequential.proofs.plan.is_sized.Goals as goal

pub nonzero_rem-file : goal.nonzero_rem-file
nonzero_rem-file c = let g = good-facts _ (sym c.is_good.ensures ∙ c.if-is_good.true) in omega arith

pub work_words-requires : goal.work_words-requires
work_words-requires c = record { good = grind (arith, nat_tests) }

pub returns-then-file-l-eq0 : goal.returns-then-file-l-eq0
unfolding sized whole
returns-then-file-l-eq0 c = grind (arith, nat_tests)

pub returns-else-file-l-eq0 : goal.returns-else-file-l-eq0
unfolding sized whole
returns-else-file-l-eq0 c = grind (arith, nat_tests)
