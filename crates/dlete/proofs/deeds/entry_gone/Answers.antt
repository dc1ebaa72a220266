-- The bound is handed on where the entry is the last, and the row is taken out.
use Rattle.dlete.proofs.Gone.{index-base, handed-within, handed-below, handed-most, gone-by}
use Rattle.dlete.proofs.deeds.entry_gone.Goals as goal

pub remove_row-requires : goal.remove_row-requires
remove_row-requires c = (search index-base, search handed-within, search handed-below, search handed-most)

pub returns : goal.returns
returns c = search gone-by
