-- A move up and a copy open the table.
use Rattle.table.proofs.Moves.{opened-by}
use Rattle.table.proofs.open_words.Goals as goal

pub returns : goal.returns
returns c = search opened-by
