-- Where a block starts; none of the numbers grows too large.
use Rattle.table.proofs.Places.{row-le}
use native.Mathlib.Omega.{arith}
use Prim.Native.Nat.{◌-◌}
use Rattle.drum.specs.Params.{start}
use Rattle.drum.proofs.Good.{caps}
use Rattle.drum.proofs.Description.start.Goals as goal

pub overflow_mul-result : goal.overflow_mul-result
overflow_mul-result c =
    let g = caps _ c.requires.0 in
    let w = row-le (c.args.b - 1) c.args.self.n c.args.self.wpb (omega arith) in
    omega arith

pub overflow_add-result : goal.overflow_add-result
overflow_add-result c =
    let g = caps _ c.requires.0 in
    let w = row-le (c.args.b - 1) c.args.self.n c.args.self.wpb (omega arith) in
    omega arith

pub returns : goal.returns
unfolding start
returns c = rw c.master_words.ensures
