-- The refusals in the table's order, then the steps of the call.
use mathlib.Core.Path.{refl}
use Rattle.face.proofs.Lent.{plain-call}
use Rattle.face.proofs.Chains.{adv-chain}
use Rattle.reading.proofs.Kept.{adv-off}
use Rattle.reading.proofs.Profile.{behind, read-refused, read_told}
use Rattle.reading.proofs.ReadingSession.adv.Goals as goal

pub adv-done-requires : goal.adv-done-requires
adv-done-requires c =
    let h = behind c.args.self.desc _ c.in-Ok.ensures in
    rw c.at.ensures (refl, search (plain-call, h), search (plain-call, h), search (plain-call, h))

pub after-requires : goal.after-requires
after-requires c =
    let h = behind c.args.self.desc _ c.in-Ok.ensures in
    (search (plain-call, h), search (plain-call, h), search (adv-off, rw c.at.ensures at c.adv-done.ensures))

pub returns-in-Ok : goal.returns-in-Ok
returns-in-Ok c = search (read_told adv-chain, c.in-Ok.ensures, rw c.at.ensures at c.adv-done.ensures)

pub returns-in-Err : goal.returns-in-Err
returns-in-Err c = search (read-refused adv-chain, c.in-Err.ensures)
