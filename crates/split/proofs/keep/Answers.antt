-- The words behind are cleared, and the count stored.
use Rattle.split.proofs.Laid.{keep-by}
use Rattle.split.proofs.keep.Goals as goal

pub returns : goal.returns
returns c = search keep-by
