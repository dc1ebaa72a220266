-- I is what the definition says, also where an entry is longer than a block.
use Prim.Native.Nat.{◌+◌, ◌-◌, ◌<◌}
use native.Mathlib.Omega.{arith}
use native.Mathlib.Nat.{div-eq_of_lt}
use Rattle.drum.specs.Params.{I}
use borrow.Author.Rules.{rules}
use Rattle.drum.proofs.Description.i.Goals as goal

pub returns-then-wpb-k : goal.returns-then-wpb-k
unfolding I
returns-then-wpb-k c =
    let h : c.args.self.wpb - 1 < c.args.self.k + 1 = omega arith in
    rw (div-eq_of_lt h)

pub returns : goal.returns
unfolding I
returns c = search rules
