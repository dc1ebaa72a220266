-- `capi::place::in_file` meets its contract: a block of a good file starts below 2^32.
use Rattle.capi.proofs.View.{in-file-fits}
use Rattle.capi.proofs.place.in_file.Goals as goal

pub overflow_add-result : goal.overflow_add-result
overflow_add-result c = search in-file-fits
