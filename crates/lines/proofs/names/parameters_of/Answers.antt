-- `names::parameters_of` meets its contract: six numbers and nothing else, or no parameters.
use Rattle.lines.proofs.Turns.{parameters-others, parameters-numbers, parameters-whole}
use Rattle.lines.proofs.names.parameters_of.Goals as goal
use Rattle.lines.proofs.names.parameters_of.Goals.{else-r-eq0-via-then-r-eq0+else-r-eq6, else-r-eq0-via-else-r-eq0}

pub returns-then-r-eq6 : goal.returns-then-r-eq6
returns-then-r-eq6 c = search parameters-whole

pub returns : goal.returns
returns c =
    let s = c.args in
    elim c.else-r-eq0.branch [
      | else-r-eq0-via-then-r-eq0+else-r-eq6 w ↦ parameters-numbers s.r s.numbers.now w.if-r-eq6.false
      | else-r-eq0-via-else-r-eq0 w ↦ parameters-others s.r s.numbers.now w.if-r-eq0.false
    ]
