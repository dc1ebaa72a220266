-- Nothing moves while the block is here; else the buffer is written if it is flagged, and the two reads are counted.
use Rattle.acts.proofs.Carried.{way-due, two-more, here-count, here-file, way-count, way-file}
use Rattle.acts.proofs.follow.Goals as goal

pub flush-wrote-requires : goal.flush-wrote-requires
flush-wrote-requires c = (search, search way-due)

pub overflow_add-result : goal.overflow_add-result
overflow_add-result c = search two-more

pub returns-in-Here : goal.returns-in-Here
returns-in-Here c = (search here-count, search here-file)

pub returns-in-By : goal.returns-in-By
returns-in-By c = (search way-count, search way-file)
