-- The refusals in the table's order, then the steps of the call.
use Rattle.face.proofs.Lent.{key-in-record, keyed-call}
use Rattle.face.proofs.Chains.{dlete-chain}
use Rattle.searchfile.proofs.Answers.{call-refused, call-told}
use Rattle.searchfile.proofs.Session.dlete.Goals as goal

pub refused_key-requires : goal.refused_key-requires
refused_key-requires c = search key-in-record

pub dlete-done-requires : goal.dlete-done-requires
dlete-done-requires c = rw c.at.ensures (search (keyed-call, c.in-Ok.ensures), search (keyed-call, c.in-Ok.ensures))

pub after-requires : goal.after-requires
after-requires c = (search (keyed-call, c.in-Ok.ensures), search (keyed-call, c.in-Ok.ensures))

pub returns-in-Ok : goal.returns-in-Ok
returns-in-Ok c = search (call-told dlete-chain, c.in-Ok.ensures, rw c.at.ensures at c.dlete-done.ensures)

pub returns-in-Err : goal.returns-in-Err
returns-in-Err c = search (call-refused dlete-chain, c.in-Err.ensures)
