-- Each return is one way through CLOSE.
use Rattle.reading.proofs.Profile.{close_early, close-done}
use Rattle.reading.proofs.ReadingSession.close.Goals as goal

pub returns-in-Ok : goal.returns-in-Ok
returns-in-Ok c = close-done _ _ _ _ c.at_rest.ensures c.in-Ok.ensures

pub returns-in-Err : goal.returns-in-Err
returns-in-Err c = close_early _ _ _ _ _ c.refused.ensures c.in-Err.ensures
