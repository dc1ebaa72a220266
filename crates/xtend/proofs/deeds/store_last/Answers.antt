-- The block is reached, and the record put in before its last row.
use Rattle.xtend.proofs.Stored.{text-some, end-least, insert-room, insert-place, insert-most, stored-told, detail-base, record-given}
use Rattle.xtend.proofs.deeds.store_last.Goals as goal

pub records_in-n-requires : goal.records_in-n-requires
records_in-n-requires c = search text-some

pub overflow_sub-n : goal.overflow_sub-n
overflow_sub-n c = search end-least

pub insert_row-requires : goal.insert_row-requires
insert_row-requires c = (search detail-base, search insert-room, search insert-place, search insert-most, search record-given)

pub returns : goal.returns
returns c = search stored-told
