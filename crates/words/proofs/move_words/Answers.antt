-- `words::move_words` meets its contract.
use mathlib.Core.Path.{◌∙◌}
use Rattle.words.proofs.Parts.{moved_within}
use Rattle.words.proofs.move_words.Goals as goal

pub returns : goal.returns
returns c = c.copy_within.ensures.after ∙ moved_within _ _ _ _ c.requires.0
