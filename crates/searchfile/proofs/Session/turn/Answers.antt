-- `searchfile::Session::turn` meets its contract: what the turning function left, told as a session's call.
use Rattle.searchfile.proofs.TurnTold.{turn-told}
use Rattle.searchfile.proofs.Session.turn.Goals as goal

pub returns-in-Ok : goal.returns-in-Ok
returns-in-Ok c = turn-told _ _ _ _ _ _ _ c.in-Ok.ensures

pub returns-in-Err : goal.returns-in-Err
returns-in-Err c = rw c.refused.ensures (turn-told _ _ _ _ _ _ _ c.in-Err.ensures)
