-- `Reading::counted` meets its contract.
use Rattle.lines.proofs.Steps.{counted-other, counted-full, counted-number}
use Rattle.lines.proofs.Reading.counted.Goals as goal
use Rattle.lines.proofs.Reading.counted.Goals.{else-self-via-then-self+else-self-numbers, else-self-via-else-self}

pub returns-then-self-numbers : goal.returns-then-self-numbers
returns-then-self-numbers c =
    let s = c.args in
    λ name. counted-number s.self _ name s.numbers.now c.if-self.true c.if-self-numbers.true c.resting.ensures

pub returns : goal.returns
returns c =
    let s = c.args in
    λ name. elim c.else-self.branch [
      | else-self-via-then-self+else-self-numbers w ↦ counted-full s.self _ name s.numbers.now w.if-self-numbers.false c.other.ensures
      | else-self-via-else-self w ↦ counted-other s.self _ name s.numbers.now w.if-self.false c.other.ensures
    ]
