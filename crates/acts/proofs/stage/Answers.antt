-- The current block's text is the buffer, which is written; any other's stands in the file already.
use Rattle.acts.proofs.Carried.{stored-already, stored-now}
use Rattle.acts.proofs.stage.Goals as goal

pub returns-then-b-at : goal.returns-then-b-at
returns-then-b-at c = search stored-now

pub returns-else-b-at : goal.returns-else-b-at
returns-else-b-at c = search stored-already
