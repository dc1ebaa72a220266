-- The current block's text is in the buffer already; any other's is read from the file.
use Rattle.acts.proofs.Carried.{loaded-already, loaded-now}
use Rattle.acts.proofs.load.Goals as goal

pub returns-then-b-at : goal.returns-then-b-at
returns-then-b-at c = search loaded-now

pub returns-else-b-at : goal.returns-else-b-at
returns-else-b-at c = search loaded-already
