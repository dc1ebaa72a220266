-- A block of the file lies in it.
use Rattle.layout.proofs.CodeSizes.{start-inside}
use Rattle.layout.proofs.blocks.start_of.Goals as goal

pub returns : goal.returns
returns c = (search, search start-inside)
