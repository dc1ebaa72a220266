-- `figures::put_figure` meets its contract.
use native.Mathlib.Omega.{arith}
use Rattle.faults.specs.Sentences.{figure}
use Rattle.faults.proofs.Three.{three-written}
use Rattle.faults.proofs.figures.put_figure.Goals as goal

pub returns : goal.returns
unfolding figure
returns c =
    let d = rw c.count.ensures at c.put_decimal-number.ensures in
    let w = three-written _ _ _ _ _ _ _ _ _ _ _ (c.put_bytes-text.ensures.0, c.put_bytes-text.ensures.1) (d.0, d.1) c.put_bytes.ensures (omega arith) in
    (w.0, w.1, omega arith)
