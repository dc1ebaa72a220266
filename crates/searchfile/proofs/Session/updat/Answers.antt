-- The refusals in the table's order, then the steps of the call.
use Rattle.face.proofs.Lent.{keyed-call}
use Rattle.face.proofs.Chains.{updat-chain}
use Rattle.searchfile.proofs.Answers.{call-refused, call-told}
use Rattle.searchfile.proofs.Session.updat.Goals as goal

pub updat-done-requires : goal.updat-done-requires
updat-done-requires c = rw c.at.ensures (search (keyed-call, c.in-Ok.ensures), search (keyed-call, c.in-Ok.ensures))

pub after-requires : goal.after-requires
after-requires c = (search (keyed-call, c.in-Ok.ensures), search (keyed-call, c.in-Ok.ensures))

pub returns-in-Ok : goal.returns-in-Ok
returns-in-Ok c = search (call-told updat-chain, c.in-Ok.ensures, rw c.at.ensures at c.updat-done.ensures)

pub returns-in-Err : goal.returns-in-Err
returns-in-Err c = search (call-refused updat-chain, c.in-Err.ensures)
