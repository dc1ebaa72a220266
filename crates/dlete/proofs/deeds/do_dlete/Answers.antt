-- Each deed is told by the function that does it; after an emptied block the buffer is zeroed and nothing is held.
use Rattle.rules.specs.Dlete.{delete_done}
use Rattle.dlete.proofs.Ended.{told-one, told-both}
use Rattle.dlete.proofs.deeds.do_dlete.Goals as goal

pub stop-requires : goal.stop-requires
stop-requires c = (search, rw c.in-Stop.is at c.requires.1)

pub remove_record-requires : goal.remove_record-requires
remove_record-requires c = (search, rw c.in-Remove.is at c.requires.1)

pub empty_one-transfers-requires : goal.empty_one-transfers-requires
empty_one-transfers-requires c = (search, rw c.in-Empty.is at c.requires.1)

pub empty_both-transfers-requires : goal.empty_both-transfers-requires
empty_both-transfers-requires c = (search, rw c.in-Both.is at c.requires.1)

pub returns-in-Stop : goal.returns-in-Stop
unfolding delete_done
returns-in-Stop c = rw c.in-Stop.is c.stop.ensures

pub returns-in-Remove : goal.returns-in-Remove
unfolding delete_done
returns-in-Remove c = rw c.in-Remove.is c.remove_record.ensures

pub returns-in-Empty : goal.returns-in-Empty
returns-in-Empty c = search told-one

pub returns-in-Both : goal.returns-in-Both
returns-in-Both c = search told-both
