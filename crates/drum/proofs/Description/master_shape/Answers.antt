-- The master's table.
use borrow.Author.Rules.{rules}
use native.Mathlib.Omega.{arith}
use Rattle.drum.specs.Params.{master_shape}
use Rattle.drum.proofs.Good.{caps}
use Rattle.drum.proofs.Description.master_shape.Goals as goal

pub overflow_add-result : goal.overflow_add-result
overflow_add-result c =
    let g = caps _ c.requires in
    omega arith

pub returns : goal.returns
unfolding master_shape
returns c = search rules
