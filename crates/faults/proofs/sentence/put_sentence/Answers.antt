-- `sentence::put_sentence` meets its contract.
use native.Mathlib.Omega.{arith}
use Rattle.texts.specs.Texts.{bytes}
use Rattle.faults.specs.Sentences.{sentence}
use Rattle.faults.proofs.Three.{three-written}
use Rattle.faults.proofs.sentence.put_sentence.Goals as goal

pub returns : goal.returns
unfolding sentence bytes
returns c =
    let x = c.put_figure-placed.ensures in
    let y = c.put_fault-said.ensures in
    let z = c.put_bytes.ensures in
    let w = three-written _ _ _ _ _ _ _ _ _ _ _ (x.0, x.1) (y.0, y.1) z (omega arith) in
    (w.0, w.1, omega arith)
