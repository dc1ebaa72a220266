-- The refusals in the table's order, then the steps of the call.
use Rattle.face.proofs.Lent.{plain-call}
use Rattle.face.proofs.Chains.{adv-chain}
use Rattle.searchfile.proofs.Answers.{call-refused, call-told}
use Rattle.searchfile.proofs.Session.adv.Goals as goal

pub adv-done-requires : goal.adv-done-requires
adv-done-requires c = rw c.at.ensures (search (plain-call, c.in-Ok.ensures), search (plain-call, c.in-Ok.ensures), search (plain-call, c.in-Ok.ensures))

pub after-requires : goal.after-requires
after-requires c = (search (plain-call, c.in-Ok.ensures), search (plain-call, c.in-Ok.ensures))

pub returns-in-Ok : goal.returns-in-Ok
returns-in-Ok c = search (call-told adv-chain, c.in-Ok.ensures, rw c.at.ensures at c.adv-done.ensures)

pub returns-in-Err : goal.returns-in-Err
returns-in-Err c = search (call-refused adv-chain, c.in-Err.ensures)
