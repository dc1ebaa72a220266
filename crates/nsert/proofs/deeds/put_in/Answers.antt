-- The block is reached, and the record put in.
use Rattle.nsert.proofs.Telling.{room-base, room_row, room-place, room_most, room-long, room-moves, room-file, room-buffer}
use Rattle.nsert.proofs.deeds.put_in.Goals as goal

pub insert_row-requires : goal.insert_row-requires
insert_row-requires c = (search room-base, search room_row, search room-place, search room_most, search room-long)

pub returns : goal.returns
returns c = (search room-moves, search room-file, search room-buffer)
