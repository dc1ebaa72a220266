-- The tests of the last block's count and of its highest ordinary key, in the order of the definition.
use mathlib.Core.Path.{refl}
use native.Mathlib.Omega.{arith}
use borrow.Author.Tests.{lt-ltb, le-ltb, eq-eqb, ne_eqb}
use Rattle.rules.specs.Xtend.{extend_at}
use Rattle.xtend.proofs.Ways.{more-records}
use Rattle.xtend.proofs.plan.extend_at.Goals as goal

pub returns-then-n-eq1 : goal.returns-then-n-eq1
unfolding extend_at
returns-then-n-eq1 c = rw (← c.count_at-n.ensures, eq-eqb _ _ c.if-n-eq1.true) c.alone_deed.ensures

pub is_above-requires : goal.is_above-requires
is_above-requires c = (search more-records, omega arith, search)

pub returns-then-not-is_above : goal.returns-then-not-is_above
unfolding extend_at
returns-then-not-is_above c =
    let a = rw c.text_at.ensures at c.is_above.ensures in
    rw (← a, ← c.count_at-n.ensures, ne_eqb _ _ c.if-n-eq1.false, c.if-not-is_above.true) refl

pub returns-then-n-fd : goal.returns-then-n-fd
unfolding extend_at
returns-then-n-fd c =
    let a = rw c.text_at.ensures at c.is_above.ensures in
    rw (← a, ← c.count_at-n.ensures, ne_eqb _ _ c.if-n-eq1.false, c.if-not-is_above.false, ← c.fd.ensures, lt-ltb _ _ c.if-n-fd.true)
    c.last_room.ensures

pub returns : goal.returns
unfolding extend_at
returns c =
    let a = rw c.text_at.ensures at c.is_above.ensures in
    rw (← a, ← c.count_at-n.ensures, ne_eqb _ _ c.if-n-eq1.false, c.if-not-is_above.false, ← c.fd.ensures, le-ltb _ _ c.if-n-fd.false)
    c.new_deed.ensures
