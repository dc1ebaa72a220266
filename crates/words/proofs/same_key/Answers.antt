-- `words::same_key` meets its contract.
use mathlib.Core.Path.{ap, ◌∙◌}
use Rattle.std.specs.Ordering.{is_eq}
use Rattle.words.proofs.Keys.{order-is_eq}
use Rattle.words.proofs.same_key.Goals as goal

pub returns : goal.returns
returns c = c.is_eq.ensures ∙ ap is_eq c.compare_keys.ensures ∙ order-is_eq _ _
