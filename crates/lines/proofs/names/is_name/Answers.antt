-- `names::is_name` meets its contract: equal lists are the same name.
use mathlib.Core.Path.{◌∙◌}
use Rattle.words.specs.Words.{part}
use Rattle.lines.proofs.Turns.{equal-same}
use Rattle.lines.proofs.names.is_name.Goals as goal

pub returns : goal.returns
unfolding part
returns c = c.eq.ensures ∙ equal-same _ c.args.text.now
