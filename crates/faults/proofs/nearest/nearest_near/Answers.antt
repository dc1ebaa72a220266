-- `nearest::nearest_near` meets its contract: the nearest of the calls from here on is the nearest of all.
use mathlib.Core.Path.{refl, sym, ◌∙◌}
use Rattle.lines.specs.Lines.{kinds}
use Rattle.faults.specs.Nearest.{nothing_near}
use Rattle.faults.proofs.Turns.{near-turn, near-over}
use Rattle.faults.proofs.nearest.nearest_near.Goals as goal

pub loop-call-init : goal.loop-call-init
unfolding nothing_near
loop-call-init c = refl

pub loop-call-preserved : goal.loop-call-preserved
unfolding kinds
loop-call-preserved c =
    let l = c.loop-call in
    l.invariant ∙ near-turn kinds c.args.word.now l.near l.call-index _ _ c.loop-call-test.true c.nearer-near.ensures

pub returns : goal.returns
unfolding kinds
returns c =
    let l = c.loop-call in
    sym (l.invariant ∙ near-over kinds c.args.word.now l.near l.call-index c.loop-call-test.false)
