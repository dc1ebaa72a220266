-- `salvage::walk::every_block` meets its contract: what is done and what is left come to what all blocks come to.
use mathlib.Core.Path.{refl}
use native.Mathlib.Omega.{arith}
use Rattle.salvage.proofs.Walks.{blocks-first, spare-first, copied_on, spare-block, number-most, spare-next, desc-next, block-turn, blocks_end}
use Rattle.salvage.proofs.walk.every_block.Goals as goal

pub loop-b-init : goal.loop-b-init
loop-b-init c = (search, refl, omega arith, refl, search spare-first, search blocks-first)

pub block_of-next-requires : goal.block_of-next-requires
block_of-next-requires c = (search copied_on, omega arith, search number-most, search spare-block)

pub loop-b-preserved : goal.loop-b-preserved
loop-b-preserved c = (search, search, omega arith, search desc-next, search spare-next, search block-turn)

pub returns : goal.returns
returns c = search blocks_end
