-- `watch::look` meets its contract: what is to be looked at from here on comes to what the whole comes to.
use mathlib.Core.Path.{sym, ap}
use native.Mathlib.Omega.{arith}
use Rattle.std.proofs.lemmas.List.{take_rest}
use Rattle.faults.specs.Watching.{watched}
use Rattle.faults.proofs.Turns.{look-out, look-over, look-more}
use Rattle.faults.proofs.watch.look.Goals as goal

pub loop-b-init : goal.loop-b-init
loop-b-init c = ap (watched c.args.w) (sym (take_rest c.args.bytes.now c.args.from))

pub returns-then-b-eq10 : goal.returns-then-b-eq10
returns-then-b-eq10 c = look-over _ _ c.args.from _ c.args.bytes.now _ c.loop-b.invariant c.loop-b-test.true c.if-b-eq10.true

pub loop-b-preserved : goal.loop-b-preserved
loop-b-preserved c = look-more _ _ c.args.from _ c.args.bytes.now _ c.loop-b.invariant _ c.loop-b-test.true c.if-b-eq10.false c.push-seen.ensures

pub returns : goal.returns
returns c = look-out _ _ c.args.from c.loop-b.b-index c.args.bytes.now _ c.loop-b.invariant (omega (arith, c.loop-b-test.false))
