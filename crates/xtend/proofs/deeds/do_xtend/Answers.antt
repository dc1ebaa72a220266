-- Each kind of deed is done by its own function; a new block is then the current one.
use Rattle.rules.proofs.Before.{told-few}
use Rattle.xtend.proofs.Stored.{stop-few, room-few, reads_most}
use Rattle.xtend.proofs.Led.{lead_most}
use Rattle.xtend.proofs.Ended.{told-stop, told-room, told-new, told-both, told-before}
use Rattle.xtend.proofs.deeds.do_xtend.Goals as goal

pub count_more-requires : goal.count_more-requires
count_more-requires c = (search stop-few, search reads_most)

pub count_more-requires-in-Room : goal.count_more-requires-in-Room
count_more-requires-in-Room c = (search room-few, search reads_most)

pub count_more-requires-in-Before : goal.count_more-requires-in-Before
count_more-requires-in-Before c = (search told-few, search lead_most)

pub returns-in-Stop : goal.returns-in-Stop
returns-in-Stop c = search told-stop

pub returns-in-Room : goal.returns-in-Room
returns-in-Room c = search told-room

pub returns-in-New : goal.returns-in-New
returns-in-New c = search told-new

pub returns-in-Both : goal.returns-in-Both
returns-in-Both c = search told-both

pub returns-in-Before : goal.returns-in-Before
returns-in-Before c = search told-before
