-- `searchfile::Session::view` meets its contract: an empty part, or the block's part where it is shown.
use Rattle.searchfile.proofs.Viewing.{view-none, shown-fitting, shown-least, shown-most, view-shown}
use Rattle.searchfile.proofs.Session.view.Goals as goal

pub returns-then-not-shows : goal.returns-then-not-shows
returns-then-not-shows c = search view-none

pub text_part-requires : goal.text_part-requires
text_part-requires c = (search shown-fitting, (search shown-least, search shown-most))

pub returns : goal.returns
returns c = search view-shown
