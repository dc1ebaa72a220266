-- `nearest::alike` meets its contract.
use Rattle.faults.proofs.Cases.{alike-sum}
use Rattle.faults.proofs.nearest.alike.Goals as goal

pub returns : goal.returns
returns c =
    let added = rw c.behind.ensures at c.agreeing-added.ensures.0 in
    let left = rw c.behind-2.ensures at c.agreeing-left.ensures.0 in
    alike-sum c.args.word.now c.args.text.now _ _ _ c.agreeing-whole.ensures.0 added left
