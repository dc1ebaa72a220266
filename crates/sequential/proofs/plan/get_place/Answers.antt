use Rattle.std.proofs.Common.{arith, rules}
use Rattle.sequential.specs.Rows.{get_place}
use Rattle.sequential.proofs.Good.{block-small}
use Rattle.sequential.proofs.plan.get_place.Goals as goal

pub next-requires : goal.next-requires
next-requires c = omega (arith, block-small)

pub returns-then-is_here : goal.returns-then-is_here
unfolding get_place
returns-then-is_here c = search rules

pub returns-else-is_here : goal.returns-else-is_here
unfolding get_place
returns-else-is_here c = search rules
