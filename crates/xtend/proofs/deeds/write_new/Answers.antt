-- The index block has its current text when it is extended, and the writes are those of the list.
use native.Mathlib.Omega.{arith}
use Rattle.xtend.proofs.Entered.{way-few, new-four, started-index, started-room, new_told}
use Rattle.xtend.proofs.deeds.write_new.Goals as goal

pub extend_in-requires : goal.extend_in-requires
extend_in-requires c = (search started-index, search started-room, search)

pub overflow_add-result : goal.overflow_add-result
overflow_add-result c = omega (arith, way-few)

pub returns : goal.returns
returns c = (search new-four, search new_told)
