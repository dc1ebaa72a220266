-- `Reading::push` meets its contract.
use mathlib.Core.Path.{sym, ◌∙◌}
use Rattle.lines.proofs.Steps.{step-blank, step-letter}
use Rattle.lines.proofs.Reading.push.Goals as goal

pub returns-then-is_blank : goal.returns-then-is_blank
returns-then-is_blank c = step-blank _ _ _ (sym c.is_blank.ensures ∙ c.if-is_blank.true) (c.rest.ensures c.args.name.now)

pub returns : goal.returns
returns c = step-letter _ _ _ (sym c.is_blank.ensures ∙ c.if-is_blank.false) (c.letter.ensures c.args.numbers.now)
