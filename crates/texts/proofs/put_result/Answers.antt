-- `texts::put_result` meets its contract.
use native.Mathlib.Omega.{arith}
use Rattle.texts.specs.Texts.{bytes, listed}
use Rattle.texts.specs.Results.{result_text}
use Rattle.texts.proofs.Lines.{line-written}
use Rattle.texts.proofs.put_result.Goals as goal

pub returns : goal.returns
unfolding result_text listed bytes
returns c =
    let l = c.put_listed-end.ensures in
    let d = rw c.count.ensures at c.put_decimal-counted.ensures in
    let o = c.put_number-numbered.ensures in
    let n = c.put_name-named.ensures in
    let w = line-written _ _ _ _ _ _ _ _ _ _ _ _ _ _ (n.0, n.1) (o.0, o.1) (d.0, d.1) (l.0, l.1) (omega arith) in
    (w.0, w.1, omega arith)
