-- `rowcalls::put` meets its contract: the words are no row, or PUT's promise is told in words.
use Rattle.rowcalls.proofs.Told.{asked-whole, put-none, put-tellable, put-called}
use Rattle.rowcalls.proofs.put.Goals as goal

pub returns-then-not-is_row : goal.returns-then-not-is_row
returns-then-not-is_row c = search put-none

pub layout_of-requires : goal.layout_of-requires
layout_of-requires c = search asked-whole

pub place_of-requires : goal.place_of-requires
place_of-requires c = search asked-whole

pub put_place-requires : goal.put_place-requires
put_place-requires c = (search asked-whole, search put-tellable)

pub returns : goal.returns
returns c = search put-called
