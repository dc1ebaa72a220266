-- `figures::put_suggestion` meets its contract.
use mathlib.Core.Path.{sym}
use native.Mathlib.Omega.{arith}
use Rattle.words.proofs.Parts.{put-none}
use Rattle.texts.specs.Texts.{bytes}
use Rattle.faults.specs.Sentences.{suggestion}
use Rattle.faults.proofs.Three.{three-written}
use Rattle.faults.proofs.figures.put_suggestion.Goals as goal

pub returns-in-None : goal.returns-in-None
unfolding suggestion
returns-in-None c = rw c.in-None.is (sym (put-none _ _), omega arith, omega arith)

pub returns-in-Some : goal.returns-in-Some
unfolding suggestion bytes
returns-in-Some c =
    let n = c.put_name-named.ensures in
    let w = three-written _ _ _ _ _ _ _ _ _ _ _ c.put_bytes-mark.ensures (n.0, n.1) c.put_bytes.ensures (omega arith) in
    rw c.in-Some.is (w.0, w.1, omega arith)
