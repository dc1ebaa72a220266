-- Each return is one way through CLOSE.
use Rattle.searchfile.proofs.Closing.{close_early, close-done, close-fitting, close-flush}
use Rattle.searchfile.proofs.Session.close.Goals as goal

pub flush-transfers-requires : goal.flush-transfers-requires
flush-transfers-requires c = rw c.at.ensures (close-fitting _ _ _ c.in-Ok.ensures, close-flush _ _ _ c.in-Ok.ensures)

pub returns-in-Ok : goal.returns-in-Ok
returns-in-Ok c = close-done _ _ _ c.in-Ok.ensures _ _ _ c.at_rest.ensures (rw c.at.ensures at c.flush-transfers.ensures)

pub returns-in-Err : goal.returns-in-Err
returns-in-Err c = close_early _ _ _ _ _ c.refused.ensures c.in-Err.ensures
