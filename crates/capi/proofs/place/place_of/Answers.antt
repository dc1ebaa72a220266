-- `capi::place::place_of` meets its contract: nowhere where VIEW shows no block, else the buffer or the file.
use Rattle.searchfile.proofs.Viewing.{shown-good, shown-least, shown-most}
use Rattle.capi.proofs.View.{place_none, place-buffer, place-file}
use Rattle.capi.proofs.place.place_of.Goals as goal

pub returns-then-not-shows : goal.returns-then-not-shows
returns-then-not-shows c = search place_none

pub returns-then-b-s : goal.returns-then-b-s
returns-then-b-s c = search place-buffer

pub in_file-requires : goal.in_file-requires
in_file-requires c = (search shown-good, search shown-least, search shown-most)

pub returns-else-b-s : goal.returns-else-b-s
returns-else-b-s c = search place-file
