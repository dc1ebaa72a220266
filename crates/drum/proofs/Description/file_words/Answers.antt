-- The file's words; none of the numbers grows too large.
use native.Mathlib.Omega.{arith}
use Rattle.drum.specs.Params.{file_size}
use Rattle.drum.proofs.Good.{caps}
use Rattle.drum.proofs.Description.file_words.Goals as goal

pub overflow_mul-result : goal.overflow_mul-result
overflow_mul-result c =
    let g = caps _ c.requires in
    omega arith

pub overflow_add-result : goal.overflow_add-result
overflow_add-result c =
    let g = caps _ c.requires in
    omega arith

pub returns : goal.returns
unfolding file_size
returns c = rw c.master_words.ensures
