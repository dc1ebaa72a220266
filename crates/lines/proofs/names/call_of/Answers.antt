-- `names::call_of` meets its contract: the first word's name, and how many numbers stand beside it, decide.
use mathlib.Core.Path.{◌∙◌}
use Rattle.lines.proofs.Turns.{call-nothing, call-others, call-numbers, call-whole}
use Rattle.lines.proofs.names.call_of.Goals as goal
use Rattle.lines.proofs.names.call_of.Goals.{else-r-eq1-via-then-r-eq1+else-r-carries, else-r-eq1-via-else-r-eq1}

pub returns-in_err-call : goal.returns-in_err-call
returns-in_err-call c = c.from_residual.ensures ∙ call-nothing c.args.p c.args.r c.args.name.now c.in_err-call.ensures

pub returns-then-r-carries : goal.returns-then-r-carries
returns-then-r-carries c =
    let s = c.args in
    call-whole s.p s.r s.name.now _ c.in_ok-call.ensures _ c.carries.ensures c.if-r-eq1.true c.if-r-carries.true

pub returns : goal.returns
returns c =
    let s = c.args in
    elim c.else-r-eq1.branch [
      | else-r-eq1-via-then-r-eq1+else-r-carries w ↦ call-numbers s.p s.r s.name.now _ c.in_ok-call.ensures _ w.carries.ensures w.if-r-carries.false
      | else-r-eq1-via-else-r-eq1 w ↦ call-others s.p s.r s.name.now _ c.in_ok-call.ensures w.if-r-eq1.false
    ]
