-- The refusals in the table's order, then the steps of the call.
use mathlib.Core.Path.{refl}
use Rattle.face.proofs.Lent.{keyed-call}
use Rattle.face.proofs.Chains.{seek-chain}
use Rattle.reading.proofs.Kept.{seek-off}
use Rattle.reading.proofs.Profile.{behind, read-refused, read_told}
use Rattle.reading.proofs.ReadingSession.seek.Goals as goal

pub seek-done-requires : goal.seek-done-requires
seek-done-requires c =
    let h = behind c.args.self.desc _ c.in-Ok.ensures in
    rw c.at.ensures (refl, search (keyed-call, h), search (keyed-call, h))

pub after-requires : goal.after-requires
after-requires c =
    let h = behind c.args.self.desc _ c.in-Ok.ensures in
    (search (keyed-call, h), search (keyed-call, h), search (seek-off, rw c.at.ensures at c.seek-done.ensures))

pub returns-in-Ok : goal.returns-in-Ok
returns-in-Ok c = search (read_told seek-chain, c.in-Ok.ensures, rw c.at.ensures at c.seek-done.ensures)

pub returns-in-Err : goal.returns-in-Err
returns-in-Err c = search (read-refused seek-chain, c.in-Err.ensures)
