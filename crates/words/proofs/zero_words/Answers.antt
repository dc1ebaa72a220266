-- `words::zero_words` meets its contract.
use Rattle.words.proofs.Parts.{filled_over}
use Rattle.words.proofs.zero_words.Goals as goal

pub returns : goal.returns
returns c = filled_over _ _ _ _ _ (c.fill.ensures.after (λ y e. e)) c.requires
