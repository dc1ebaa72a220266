-- The copied words are the row.
use Rattle.table.specs.Tables.{replaced}
use Rattle.table.proofs.replace_row.Goals as goal

pub returns : goal.returns
unfolding replaced
returns c = rw (← c.place.ensures) c.copy_words.ensures
