-- The word after the entry's key is stored.
use Rattle.table.specs.Splits.{renamed}
use Rattle.split.proofs.rename.Goals as goal

pub returns : goal.returns
unfolding renamed
returns c = search
