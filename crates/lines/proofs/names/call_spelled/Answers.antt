-- `names::call_spelled` meets its contract: of the calls from here on the first whose name the word is is the first of all.
use mathlib.Core.Path.{refl, sym, ◌∙◌}
use Rattle.lines.specs.Lines.{kinds, named}
use Rattle.lines.proofs.Turns.{named-hit, named-miss, named-over}
use Rattle.lines.proofs.names.call_spelled.Goals as goal

pub loop-call-init : goal.loop-call-init
unfolding named
loop-call-init c = refl

pub returns-then-eq : goal.returns-then-eq
unfolding kinds
returns-then-eq c =
    let l = c.loop-call in
    sym (l.invariant ∙ named-hit kinds c.args.word.now l.call-index _ c.spelling.result.now c.loop-call-test.true c.spelling.ensures c.if-eq.ensures)

pub loop-call-preserved : goal.loop-call-preserved
unfolding kinds
loop-call-preserved c =
    let l = c.loop-call in
    l.invariant ∙ named-miss kinds c.args.word.now l.call-index _ c.spelling.result.now c.loop-call-test.true c.spelling.ensures c.if-eq.ensures

pub returns : goal.returns
unfolding kinds
returns c =
    let l = c.loop-call in
    sym (l.invariant ∙ named-over kinds c.args.word.now l.call-index c.loop-call-test.false)
