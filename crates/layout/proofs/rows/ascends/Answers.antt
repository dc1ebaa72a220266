-- What is left of the rows gives what all of them give.
use native.Mathlib.Omega.{arith}
use Rattle.layout.proofs.CodeSizes.{nth-row}
use Rattle.layout.proofs.CodeRows.{ascend-start, ascend-done, ascend-stop, ascend-next}
use Rattle.layout.proofs.rows.ascends.Goals as goal

pub loop-i-init : goal.loop-i-init
loop-i-init c = (omega arith, ascend-start _ _ _ _ _ _)

pub above-requires : goal.above-requires
above-requires c = let h = nth-row c.loop-i.i c.args.n c.args.stride c.loop-i-test.true in (omega arith, omega arith)

pub returns-then-not-above : goal.returns-then-not-above
returns-then-not-above c = ascend-stop _ _ _ _ _ _ _ _ c.loop-i.invariant.1 c.loop-i-test.true _ c.above.ensures c.if-not-above.true

pub loop-i-preserved : goal.loop-i-preserved
loop-i-preserved c =
    let h = nth-row c.loop-i.i c.args.n c.args.stride c.loop-i-test.true in
    (omega arith, ascend-next _ _ _ _ _ _ _ _ c.loop-i.invariant.1 c.loop-i-test.true _ c.above.ensures c.if-not-above.false)

pub returns : goal.returns
returns c = ascend-done _ _ _ _ _ _ _ _ c.loop-i.invariant.1 c.loop-i-test.false
