-- Of words that are all 262143 one is the block.
use Rattle.xtend.proofs.Entries.{ones-made}
use Rattle.xtend.proofs.index.ones_entry.Goals as goal

pub returns : goal.returns
returns c = search ones-made
