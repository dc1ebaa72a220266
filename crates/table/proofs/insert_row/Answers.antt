-- The table is opened for the row, and the row counted.
use Rattle.table.proofs.Moves.{inserted_by}
use Rattle.table.proofs.insert_row.Goals as goal

pub returns : goal.returns
returns c = inserted_by c.args.h _ _ _ _ _ _ _ c.count_of-n.ensures c.place.ensures c.place-2.ensures _ c.put_word.ensures c.open_words.ensures
