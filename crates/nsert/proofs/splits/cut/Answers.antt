-- The file is made ready, and the full block in the buffer divided.
use Rattle.nsert.proofs.Cutting.{cut-ready}
use Rattle.nsert.proofs.Splitting.{cut-full, cut-divides, record-long, entry-long, cut-file, cut-entry}
use Rattle.nsert.proofs.splits.cut.Goals as goal

pub prepare-moved-requires : goal.prepare-moved-requires
prepare-moved-requires c = (search, search cut-ready)

pub invariant_of-halves : goal.invariant_of-halves
invariant_of-halves c = record { full = search cut-full }

pub divide-requires : goal.divide-requires
divide-requires c = search (cut-divides, record-long, entry-long)

pub returns : goal.returns
returns c = (search, search cut-file, search cut-entry)
