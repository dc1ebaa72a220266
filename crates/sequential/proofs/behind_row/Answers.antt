use Rattle.sequential.specs.Rows.{behind}
use Rattle.sequential.proofs.behind_row.Goals as goal

pub returns : goal.returns
unfolding behind
returns c = search
