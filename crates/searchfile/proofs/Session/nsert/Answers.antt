-- The refusals in the table's order, then the steps of the call.
use Rattle.face.proofs.Lent.{keyed-call}
use Rattle.face.proofs.Chains.{nsert-chain}
use Rattle.searchfile.proofs.Answers.{call-refused, call-told}
use Rattle.searchfile.proofs.Session.nsert.Goals as goal

pub nsert-done-requires : goal.nsert-done-requires
nsert-done-requires c = rw c.at.ensures (search (keyed-call, c.in-Ok.ensures), search (keyed-call, c.in-Ok.ensures))

pub after-requires : goal.after-requires
after-requires c = (search (keyed-call, c.in-Ok.ensures), search (keyed-call, c.in-Ok.ensures))

pub returns-in-Ok : goal.returns-in-Ok
returns-in-Ok c = search (call-told nsert-chain, c.in-Ok.ensures, rw c.at.ensures at c.nsert-done.ensures)

pub returns-in-Err : goal.returns-in-Err
returns-in-Err c = search (call-refused nsert-chain, c.in-Err.ensures)
