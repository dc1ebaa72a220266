-- The block is reached, and its row taken out of the buffer.
use Rattle.dlete.proofs.Gone.{detail-base}
use Rattle.dlete.proofs.Reached.{reached-within, reached-below, reached-most, removed-told}
use Rattle.dlete.proofs.deeds.remove_record.Goals as goal

pub remove_row-requires : goal.remove_row-requires
remove_row-requires c = (search detail-base, search reached-within, search reached-below, search reached-most)

pub returns : goal.returns
returns c = search removed-told
