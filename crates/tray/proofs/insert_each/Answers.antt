-- `tray::insert_each` meets its contract: what it has so far and what is left come to what the whole tray comes to.
use native.Mathlib.Omega.{arith}
use Rattle.tray.proofs.Turns.{sum_fits, sum-most, tray-ends, turn-stops, turn-goes}
use Rattle.tray.proofs.insert_each.Goals as goal

pub overflow_add-done : goal.overflow_add-done
overflow_add-done c = search sum_fits

pub loop-stored-preserved : goal.loop-stored-preserved
loop-stored-preserved c = (search, search, omega arith, search sum-most, search turn-goes)

pub returns-after-loop-stored : goal.returns-after-loop-stored
returns-after-loop-stored c =
    let (most, long, turns, sum, here) = c.loop-stored.invariant in
    tray-ends _ c.loop-stored.done.session c.loop-stored.done.stored _ _ _ _ _ _ _ _ here c.loop-stored.stored turns c.loop-stored-test.false

pub returns-then-not-is_accepted : goal.returns-then-not-is_accepted
returns-then-not-is_accepted c = search turn-stops
