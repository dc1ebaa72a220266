-- The first word of that text.
use Rattle.xtend.proofs.Ways.{at_some}
use Rattle.xtend.proofs.last.count_at.Goals as goal

pub records_in-requires : goal.records_in-requires
records_in-requires c = search at_some
