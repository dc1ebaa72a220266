-- `nearest::same` meets its contract.
use Rattle.faults.proofs.Cases.{same-from}
use Rattle.faults.proofs.nearest.same.Goals as goal

pub returns : goal.returns
returns c = same-from c.args.a c.args.b _ _ c.upper.ensures c.from.ensures
