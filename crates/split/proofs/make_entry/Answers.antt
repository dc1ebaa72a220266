-- A key is copied, and the number stored after it.
use Rattle.split.proofs.Entries.{entry-by}
use Rattle.split.proofs.make_entry.Goals as goal

pub returns : goal.returns
returns c = search entry-by
