-- What is left of the entries tells what all of them tell.
use Prim.Native.Nat.{◌+◌}
use native.Mathlib.Omega.{arith}
use Rattle.layout.proofs.CodeSizes.{nth-row, key-short, file-short}
use Rattle.reading.proofs.Order.{order-start, order-done, order-stop, order-next, names_start, next-named, names-rest}
use Rattle.reading.proofs.finished.in_order.Goals as goal

pub loop-i-init : goal.loop-i-init
loop-i-init c = (names_start _ _ _ _ c.requires.3, order-start _ _ _ _)

pub overflow_add-p : goal.overflow_add-p
overflow_add-p c = omega (arith, key-short)

pub overflow_mul-i : goal.overflow_mul-i
overflow_mul-i c =
    let h = nth-row c.loop-i.i c.args.n (c.args.p.k + 1) c.loop-i-test.true in
    omega (arith, file-short)

pub overflow_add-e : goal.overflow_add-e
overflow_add-e c =
    let h = nth-row c.loop-i.i c.args.n (c.args.p.k + 1) c.loop-i-test.true in
    omega (arith, file-short)

pub entry_ok-requires : goal.entry_ok-requires
entry_ok-requires c =
    let h = nth-row c.loop-i.i c.args.n (c.args.p.k + 1) c.loop-i-test.true in
    (search, omega arith, next-named _ _ _ _ _ c.loop-i.invariant.0 c.loop-i-test.true)

pub returns-then-not-entry_ok : goal.returns-then-not-entry_ok
returns-then-not-entry_ok c = order-stop _ _ _ _ _ _ c.loop-i.invariant.1 c.loop-i-test.true _ c.entry_ok.ensures c.if-not-entry_ok.true

pub loop-i-preserved : goal.loop-i-preserved
loop-i-preserved c = (
  names-rest _ _ _ _ _ c.loop-i.invariant.0 c.loop-i-test.true,
  order-next _ _ _ _ _ _ c.loop-i.invariant.1 c.loop-i-test.true _ c.entry_ok.ensures c.if-not-entry_ok.false,
)

pub returns : goal.returns
returns c = order-done _ _ _ _ _ _ c.loop-i.invariant.1 c.loop-i-test.false
