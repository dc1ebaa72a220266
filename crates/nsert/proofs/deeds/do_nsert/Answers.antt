-- Each deed is told by the function that does it.
use native.Mathlib.Omega.{arith}
use Rattle.nsert.proofs.Telling.{four-more, five-more, stop-fits, room_fits, split-fits, both-fits, split-halves, both_halves}
use Rattle.nsert.proofs.Telling.{told-stop, told-room, told-split, told-both}
use Rattle.nsert.proofs.deeds.do_nsert.Goals as goal

pub stop-requires : goal.stop-requires
stop-requires c = (search, search stop-fits)

pub put_in-transfers-requires : goal.put_in-transfers-requires
put_in-transfers-requires c = (record { fitting = search; whole = search }, search room_fits)

pub write_split-moved-requires : goal.write_split-moved-requires
write_split-moved-requires c = (record { fitting = search; whole = search }, search split-fits)

pub overflow_add-moved : goal.overflow_add-moved
overflow_add-moved c = search four-more

pub land_half-requires : goal.land_half-requires
land_half-requires c = (record { good = search; file-is = omega arith; buffer-is = omega arith }, search split-halves)

pub write_both-moved-requires : goal.write_both-moved-requires
write_both-moved-requires c = (record { fitting = search; whole = search }, search both-fits)

pub overflow_add-moved-in-Both : goal.overflow_add-moved-in-Both
overflow_add-moved-in-Both c = search five-more

pub land_half-requires-in-Both : goal.land_half-requires-in-Both
land_half-requires-in-Both c = (record { good = search; file-is = omega arith; buffer-is = omega arith }, search both_halves)

pub returns-in-Stop : goal.returns-in-Stop
returns-in-Stop c = search told-stop

pub returns-in-Room : goal.returns-in-Room
returns-in-Room c = search told-room

pub returns-in-Split : goal.returns-in-Split
returns-in-Split c = search told-split

pub returns-in-Both : goal.returns-in-Both
returns-in-Both c = search told-both
