-- A flagged buffer that is written changes no text but its own block's, which is the buffer's.
use Rattle.acts.proofs.Carried.{flushed-fits, brought}
use Rattle.acts.proofs.bring.Goals as goal

pub load-requires : goal.load-requires
load-requires c = (search flushed-fits, (search, search))

pub returns : goal.returns
returns c = (search, search, search brought)
