-- Word 0 below the tag is a count of 0, as the subtraction of numbers has it.
use native.Mathlib.Omega.{arith}
use Rattle.table.specs.Tables.{count}
use Rattle.table.proofs.count_of.Goals as goal

pub returns : goal.returns
unfolding count
returns c = omega arith
