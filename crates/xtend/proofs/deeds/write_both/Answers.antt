-- The index block and the master have their current words when they are changed, and the writes are those of the list.
use native.Mathlib.Omega.{arith}
use Rattle.xtend.proofs.Entered.{way-few, both-five, section-ready, both_told}
use Rattle.xtend.proofs.deeds.write_both.Goals as goal

pub start_section-requires : goal.start_section-requires
start_section-requires c = search section-ready

pub overflow_add-result : goal.overflow_add-result
overflow_add-result c = omega (arith, way-few)

pub returns : goal.returns
returns c = (search both-five, search both_told)
