-- The refusals in the table's order, and then 020010.
use Rattle.reading.proofs.Profile.{alter-chain, read-refused, read_only}
use Rattle.reading.proofs.ReadingSession.altering.Goals as goal

pub returns-in-Ok : goal.returns-in-Ok
returns-in-Ok c = search (read_only, c.in-Ok.ensures)

pub returns-in-Err : goal.returns-in-Err
returns-in-Err c = search (read-refused alter-chain, c.in-Err.ensures)
