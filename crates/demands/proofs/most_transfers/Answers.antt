-- The formula's bound of a planned session.
use Rattle.demands.proofs.Planning.{transfers-by}
use Rattle.demands.proofs.most_transfers.Goals as goal

pub returns : goal.returns
returns c = search transfers-by
