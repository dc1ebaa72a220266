-- Word 0 less the tag is the count of entries.
use Rattle.drum.proofs.Forms.{entries-read}
use Rattle.drum.proofs.kinds.entries_in.Goals as goal

pub returns : goal.returns
returns c = search entries-read
