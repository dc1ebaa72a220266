-- Zeros, two words and an entry, one after the other.
use lib.ListN.{length-set}
use native.Mathlib.Omega.{arith}
use Rattle.layout.proofs.CodeCreate.{sets-kept, laid-master}
use Rattle.layout.proofs.lay_master.Goals as goal

pub bounds-t-2 : goal.bounds-t-2
bounds-t-2 c = simp length-set (omega arith)

pub lay_entry-requires : goal.lay_entry-requires
lay_entry-requires c = simp length-set (omega arith)

pub shape_of-t : goal.shape_of-t
shape_of-t c = search sets-kept

pub returns : goal.returns
returns c = search laid-master
