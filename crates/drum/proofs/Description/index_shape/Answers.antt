-- An index block's table.
use native.Mathlib.Omega.{arith}
use Rattle.drum.proofs.Good.{caps}
use Rattle.drum.proofs.Forms.{index-made}
use Rattle.drum.proofs.Description.index_shape.Goals as goal

pub overflow_add-result : goal.overflow_add-result
overflow_add-result c =
    let g = caps _ c.requires in
    omega arith

pub returns : goal.returns
returns c = search index-made
