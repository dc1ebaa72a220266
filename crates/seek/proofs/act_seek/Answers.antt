-- A record found goes to the workspace from the block reached; else the lookup is all.
use Rattle.seek.proofs.Found.{found-way, found-row, seek_found, seek-missing}
use Rattle.seek.proofs.act_seek.Goals as goal

pub reach-here-requires : goal.reach-here-requires
reach-here-requires c = (search, search found-way)

pub give-requires : goal.give-requires
give-requires c = (search found-row, search)

pub stop-requires : goal.stop-requires
stop-requires c = (search, rw c.in-Missing.is at c.requires.2)

pub returns-in-Found : goal.returns-in-Found
returns-in-Found c = search seek_found

pub returns-in-Missing : goal.returns-in-Missing
returns-in-Missing c = search seek-missing
