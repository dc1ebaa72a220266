-- `texts::put_refused` meets its contract.
use native.Mathlib.Omega.{arith}
use Rattle.texts.specs.Texts.{bytes}
use Rattle.texts.specs.Results.{refused_text}
use Rattle.texts.proofs.Puts.{written_then}
use Rattle.texts.proofs.put_refused.Goals as goal

pub returns : goal.returns
unfolding refused_text bytes
returns c =
    let w = written_then _ _ _ _ _ _ _ _ (omega arith) (c.put_name-named.ensures.0, c.put_name-named.ensures.1) c.put_bytes.ensures in
    (w.0, w.1, omega arith)
