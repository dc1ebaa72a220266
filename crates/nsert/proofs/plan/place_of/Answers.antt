-- One search of the current text of the detail block.
use Rattle.nsert.proofs.Planning.{text-some, rows_in_lem, key-narrow, key_in_lem, found-above}
use Rattle.nsert.proofs.plan.place_of.Goals as goal

pub records_in-n-requires : goal.records_in-n-requires
records_in-n-requires c = search text-some

pub find-requires : goal.find-requires
find-requires c = (search rows_in_lem, search key-narrow, search key_in_lem)

pub returns : goal.returns
returns c = search found-above
