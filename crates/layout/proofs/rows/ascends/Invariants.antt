-- What is left of the rows gives what all of them give.
use mathlib.Core.Path.{◌≡◌}
use Prim.Native.Nat.{◌+◌, ◌*◌, ◌-◌, ◌≤◌}
use lib.ListN.{length}
use Rattle.layout.specs.Inspect.{ascends}
use Rattle.layout.proofs.rows.ascends.Given as goal

abbrev pub invariant-loop-i : goal.invariant-loop-i
invariant-loop-i l =
    (l.before + l.p.k ≤ length l.f)
    × (ascends l.p l.f l.stride l.low l.a l.n ≡ ascends l.p l.f l.stride l.before (l.a + l.i * l.stride) (l.n - l.i))
