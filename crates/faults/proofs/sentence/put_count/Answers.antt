-- `sentence::put_count` meets its contract.
use native.Mathlib.Omega.{arith}
use Rattle.texts.specs.Texts.{bytes}
use Rattle.faults.specs.Sentences.{count_text}
use Rattle.faults.proofs.Three.{three-written}
use Rattle.faults.proofs.sentence.put_count.Goals as goal

pub returns : goal.returns
unfolding count_text bytes
returns c =
    let x = c.put_name-named.ensures in
    let y = c.put_takes-taken.ensures in
    let z = c.put_figure.ensures in
    let w = three-written _ _ _ _ _ _ _ _ _ _ _ (x.0, x.1) (y.0, y.1) (z.0, z.1) (omega arith) in
    (w.0, w.1, omega arith)
