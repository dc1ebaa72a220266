-- `names::call_named` meets its contract.
use mathlib.Core.Path.{ap, ◌∙◌}
use Rattle.words.specs.Words.{part}
use Rattle.lines.specs.Lines.{named}
use Rattle.lines.proofs.Turns.{part-kept}
use Rattle.lines.proofs.names.call_named.Goals as goal

pub returns : goal.returns
unfolding part
returns c = c.call_spelled.ensures ∙ ap named (part-kept c.args.n _ c.args.name.now c.min-kept.ensures)
