-- Nothing moves while the block is here; else the transfers are the buffer's and the two that are read.
use Rattle.acts.proofs.Carried.{way-due, way-least, way-most, two-more, came-here, came-by}
use Rattle.acts.proofs.reach.Goals as goal

pub bring-wrote-requires : goal.bring-wrote-requires
bring-wrote-requires c = (search, search way-due, (search way-least, search way-most))

pub overflow_add-result : goal.overflow_add-result
overflow_add-result c = search two-more

pub returns-in-Here : goal.returns-in-Here
returns-in-Here c = search came-here

pub returns-in-By : goal.returns-in-By
returns-in-By c = search came-by
