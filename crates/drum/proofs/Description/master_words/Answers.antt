-- The master's words; none of the numbers grows too large.
use borrow.Author.Rules.{rules}
use native.Mathlib.Omega.{arith}
use Rattle.drum.specs.Params.{master_size}
use Rattle.drum.proofs.Good.{caps}
use Rattle.drum.proofs.Description.master_words.Goals as goal

pub overflow_add-w : goal.overflow_add-w
overflow_add-w c =
    let g = caps _ c.requires in
    omega arith

pub overflow_mul-w : goal.overflow_mul-w
overflow_mul-w c =
    let g = caps _ c.requires in
    omega arith

pub overflow_add-w-2 : goal.overflow_add-w-2
overflow_add-w-2 c =
    let g = caps _ c.requires in
    omega arith

pub overflow_add-result : goal.overflow_add-result
overflow_add-result c =
    let g = caps _ c.requires in
    omega arith

pub returns : goal.returns
unfolding master_size
returns c = search rules
