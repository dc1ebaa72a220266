-- One block after the other.
use native.Mathlib.Omega.{arith}
use Rattle.layout.proofs.CodeCreate.{laid-blocks, tag-at-most}
use Rattle.layout.proofs.lay_blocks.Goals as goal

pub lay_index-requires : goal.lay_index-requires
lay_index-requires c = (omega arith, search tag-at-most)

pub lay_detail-requires : goal.lay_detail-requires
lay_detail-requires c = (omega arith, search tag-at-most)

pub returns : goal.returns
returns c = search laid-blocks
