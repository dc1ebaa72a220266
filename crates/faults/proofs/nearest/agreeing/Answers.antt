-- `nearest::agreeing` meets its contract: what agrees from here on and what was counted come to the whole.
use native.Mathlib.Omega.{arith}
use Rattle.faults.proofs.Turns.{agree-over, agree-turn}
use Rattle.faults.proofs.nearest.agreeing.Goals as goal

pub overflow_add-count : goal.overflow_add-count
overflow_add-count c = omega (arith, c.same-count.ensures.1, c.loop-i.invariant.1)

pub loop-i-preserved : goal.loop-i-preserved
loop-i-preserved c =
    let l = c.loop-i in
    let e = agree-turn c.args.word.now c.args.text.now l.i l.i (omega arith) (omega arith) in
    (omega (arith, e, l.invariant.0, c.same-count.ensures.0), omega (arith, l.invariant.1, c.same-count.ensures.1))

pub returns : goal.returns
returns c =
    let l = c.loop-i in
    let e = agree-over c.args.word.now c.args.text.now l.i (omega arith) in
    (omega (arith, e, l.invariant.0), omega (arith, l.invariant.1))
