-- A move down and zeros close the table.
use Rattle.table.proofs.Moves.{closed-by}
use Rattle.table.proofs.close_words.Goals as goal

pub returns : goal.returns
returns c = search closed-by
