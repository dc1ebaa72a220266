-- `Reading::rest` meets its contract.
use Rattle.lines.proofs.Steps.{rested-word, rested-blank}
use Rattle.lines.proofs.Reading.rest.Goals as goal

pub returns-then-self : goal.returns-then-self
returns-then-self c =
    let s = c.args in
    λ name. rested-word s.self _ name s.numbers.now _ c.if-self.true (c.counted.ensures name)

pub returns : goal.returns
returns c = λ name. rested-blank c.args.self _ name c.args.numbers.now c.if-self.false c.resting.ensures
