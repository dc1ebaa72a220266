-- The block's words lie side by side in the file.
use Rattle.layout.proofs.CodeSizes.{block_here, block_words}
use Rattle.layout.proofs.blocks.block_of.Goals as goal

pub returns : goal.returns
returns c = (search block_here, search block_words)
