use Rattle.std.proofs.Common.{arith, rules}
use Rattle.std.proofs.lemmas.Bool.Decides.{nat_tests}
use Rattle.sequential.specs.Rows.{stays_at, area}
use Rattle.sequential.proofs.Good.{block-fine, block-leaders}
use Rattle.sequential.proofs.Spots.{stays-inside, stays-read}
use Rattle.sequential.proofs.plan.is_here.Goals as goal

pub has_room-requires : goal.has_room-requires
has_room-requires c = search block-fine

pub overflow_sub-l : goal.overflow_sub-l
overflow_sub-l c = omega (arith, block-leaders)

pub word_of-requires : goal.word_of-requires
word_of-requires c = search stays-inside

pub word_at-requires : goal.word_at-requires
word_at-requires c = search stays-read

pub returns-in-Fixed : goal.returns-in-Fixed
unfolding stays_at
returns-in-Fixed c = search rules

pub returns-then-at-eq0 : goal.returns-then-at-eq0
unfolding stays_at
returns-then-at-eq0 c = grind (arith, nat_tests)

pub returns-then-at-l : goal.returns-then-at-l
unfolding stays_at area
returns-then-at-l c = grind (arith, nat_tests)

pub returns-else-at-l : goal.returns-else-at-l
unfolding stays_at area
returns-else-at-l c = grind (arith, nat_tests)
