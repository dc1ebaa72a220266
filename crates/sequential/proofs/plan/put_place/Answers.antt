use Rattle.std.proofs.Common.{arith, rules}
use Rattle.sequential.specs.Rows.{put_place}
use Rattle.sequential.proofs.Good.{block-fine, block-small}
use Rattle.sequential.proofs.plan.put_place.Goals as goal

pub has_room-requires : goal.has_room-requires
has_room-requires c = search block-fine

pub next-requires : goal.next-requires
next-requires c = omega (arith, block-small)

pub returns-then-has_room : goal.returns-then-has_room
unfolding put_place
returns-then-has_room c = search rules

pub returns-else-has_room : goal.returns-else-has_room
unfolding put_place
returns-else-has_room c = search rules
