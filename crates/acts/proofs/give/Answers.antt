-- The workspace, written over in full, is the row.
use native.Mathlib.Omega.{arith}
use Rattle.drum.specs.Params.{detail_shape}
use Rattle.acts.proofs.Carried.{row-given}
use Rattle.acts.proofs.give.Goals as goal

pub overflow_mul-i : goal.overflow_mul-i
unfolding detail_shape
overflow_mul-i c = omega arith

pub overflow_add-i : goal.overflow_add-i
unfolding detail_shape
overflow_add-i c = omega arith

pub copy_words-requires : goal.copy_words-requires
unfolding detail_shape
copy_words-requires c = omega arith

pub returns : goal.returns
returns c = search row-given
