use Rattle.sequential.specs.Rows.{next}
use Rattle.sequential.proofs.plan.next.Goals as goal

pub returns : goal.returns
unfolding next
returns c = search
