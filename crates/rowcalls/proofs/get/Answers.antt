-- `rowcalls::get` meets its contract: the words are no row, or GET's promise is told in words.
use Rattle.rowcalls.proofs.Told.{asked-whole, asked-six, get_none, get-tellable, get_left, get-called}
use Rattle.rowcalls.proofs.get.Goals as goal

pub returns-then-not-is_row : goal.returns-then-not-is_row
returns-then-not-is_row c = search get_none

pub word_at-left-requires : goal.word_at-left-requires
word_at-left-requires c = search asked-six

pub layout_of-requires : goal.layout_of-requires
layout_of-requires c = search asked-whole

pub place_of-requires : goal.place_of-requires
place_of-requires c = search asked-whole

pub put_rest-requires : goal.put_rest-requires
put_rest-requires c = (search asked-whole, search get-tellable, search get_left)

pub returns : goal.returns
returns c = search get-called
