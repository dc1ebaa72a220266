-- The table is closed over the row, and the row counted off.
use Rattle.table.proofs.Moves.{removed-by}
use Rattle.table.proofs.remove_row.Goals as goal

pub returns : goal.returns
returns c = removed-by c.args.h _ _ _ _ _ _ _ c.count_of-n.ensures c.place.ensures c.place-2.ensures c.put_word.ensures c.close_words.ensures
