-- `salvage::walk::block_of` meets its contract: the text is a part of the copy.
use Rattle.salvage.proofs.Walks.{block-ready, block_walked}
use Rattle.salvage.proofs.walk.block_of.Goals as goal

pub block_of-text-requires : goal.block_of-text-requires
block_of-text-requires c = (record { good = c.requires.0.good; size = c.requires.0.copy_is }, c.requires.1, c.requires.2)

pub one_block-requires : goal.one_block-requires
one_block-requires c = search block-ready

pub returns : goal.returns
returns c = search block_walked
