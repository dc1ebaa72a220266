-- `words::compare_keys` meets its contract.
use mathlib.Core.Path.{◌≡◌, sym}
use Prim.Native.Nat.{◌-◌}
use native.Mathlib.Omega.{arith}
use Rattle.words.proofs.Turns.{order-apart, order-next, order-done}
use Rattle.words.proofs.compare_keys.Goals as goal

pub returns-then-is_ne : goal.returns-then-is_ne
returns-then-is_ne c = search order-apart

pub loop-m-preserved : goal.loop-m-preserved
loop-m-preserved c = search order-next

pub returns : goal.returns
returns c =
    let e : c.args.k - c.loop-m.m ≡ 0 = omega arith in
    sym (rw (e, order-done) at c.loop-m.invariant)
