-- `searchfile::Session::copy_file` meets its contract: what the copying function left, told as a session's call.
use Rattle.searchfile.proofs.CopyTold.{copy_told}
use Rattle.searchfile.proofs.Session.copy_file.Goals as goal

pub returns-in-Ok : goal.returns-in-Ok
returns-in-Ok c = copy_told _ c.args.control _ _ _ _ _ _ c.in-Ok.ensures

pub returns-in-Err : goal.returns-in-Err
returns-in-Err c = rw c.refused.ensures (copy_told _ c.args.control _ _ _ _ _ _ c.in-Err.ensures)
