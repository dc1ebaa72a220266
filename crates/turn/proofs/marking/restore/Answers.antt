-- The marks given back, and what the others give, are all.
use native.Mathlib.Omega.{arith}
use Rattle.turn.proofs.Marks.{unmark-next, unmark-all}
use Rattle.turn.proofs.marking.restore.Goals as goal

pub loop-m-init : goal.loop-m-init
loop-m-init c = search

pub loop-m-preserved : goal.loop-m-preserved
loop-m-preserved c = unmark-next _ _ _ _ c.loop-m.invariant c.open_mark.ensures (omega arith)

pub returns : goal.returns
returns c = unmark-all _ _ _ c.loop-m.invariant (omega arith) (omega arith) c.loop-m.auto.marks
