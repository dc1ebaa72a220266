-- `printed::bad_line` meets its contract.
use native.Mathlib.Omega.{arith}
use Rattle.texts.specs.Texts.{bytes}
use Rattle.texts.specs.Results.{bad_line}
use Rattle.printed.proofs.bad_line.Goals as goal

pub returns : goal.returns
unfolding bad_line bytes
returns c =
    let w = c.put_bytes.ensures in
    (w.0, w.1, omega (arith, w.1))
