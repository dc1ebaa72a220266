-- The words passed are the key's, and the one at which it stops is not.
use native.Mathlib.Omega.{arith}
use Rattle.table.proofs.Turns.{differs_at, differs_none}
use Rattle.table.proofs.same_words.Goals as goal

pub returns-then-t-place : goal.returns-then-t-place
returns-then-t-place c = differs_at _ _ _ _ _ c.loop-m.invariant _ c.loop-m-test.true c.if-t-place.true

pub returns : goal.returns
returns c = differs_none _ _ _ _ _ c.loop-m.invariant _ (omega arith) (omega arith)
