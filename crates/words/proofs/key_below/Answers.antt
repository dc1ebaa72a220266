-- `words::key_below` meets its contract.
use mathlib.Core.Path.{ap, ◌∙◌}
use Rattle.std.specs.Ordering.{is_lt}
use Rattle.words.proofs.Keys.{order-is_lt}
use Rattle.words.proofs.key_below.Goals as goal

pub returns : goal.returns
returns c = c.is_lt.ensures ∙ ap is_lt c.compare_keys.ensures ∙ order-is_lt _ _
