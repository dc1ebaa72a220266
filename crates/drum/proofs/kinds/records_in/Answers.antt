-- Word 0 less the tag is the count of records.
use Rattle.drum.proofs.Forms.{records-read}
use Rattle.drum.proofs.kinds.records_in.Goals as goal

pub returns : goal.returns
returns c = search records-read
