-- `sentence::put_no_call` meets its contract.
use native.Mathlib.Omega.{arith}
use Rattle.texts.specs.Texts.{bytes}
use Rattle.faults.specs.Sentences.{no_call_text}
use Rattle.faults.proofs.Three.{three-written}
use Rattle.faults.proofs.sentence.put_no_call.Goals as goal

pub returns : goal.returns
unfolding no_call_text bytes
returns c =
    let x = c.put_visible-shown.ensures in
    let y = c.put_bytes-said.ensures in
    let z = c.put_suggestion.ensures in
    let w = three-written _ _ _ _ _ _ _ _ _ _ _ (x.0, x.1) y (z.0, z.1) (omega arith) in
    (w.0, w.1, omega arith)
