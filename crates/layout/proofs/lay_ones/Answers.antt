-- The words of the key are ONES, the others as they were.
use Rattle.layout.proofs.CodeCreate.{ones-laid}
use Rattle.layout.proofs.lay_ones.Goals as goal

pub returns : goal.returns
returns c = ones-laid _ _ _ _ (c.fill.ensures.after (λ y e. e)) c.requires
