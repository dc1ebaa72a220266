-- The block is there, or its text is brought.
use Rattle.reading.proofs.Reached.{here-come, by-least, by_most, by-come}
use Rattle.reading.proofs.steps.reach.Goals as goal

pub load-requires : goal.load-requires
load-requires c = (search, (search by-least, search by_most))

pub returns-in-Here : goal.returns-in-Here
returns-in-Here c = search here-come

pub returns-in-By : goal.returns-in-By
returns-in-By c = search by-come
