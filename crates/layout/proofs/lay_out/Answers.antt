-- What is written is a new file.
use native.Mathlib.Omega.{arith}
use Rattle.layout.proofs.CodeCreate.{laid_out, master-words, index-words, detail-words, two_blocks}
use Rattle.layout.proofs.lay_out.Goals as goal

pub start-second-requires : goal.start-second-requires
start-second-requires c = (search, omega arith, omega (arith, two_blocks))

pub lay_master-requires : goal.lay_master-requires
lay_master-requires c = omega (arith, master-words)

pub lay_blocks-requires : goal.lay_blocks-requires
lay_blocks-requires c = (omega (arith, index-words), omega (arith, detail-words))

pub returns : goal.returns
returns c = search laid_out
