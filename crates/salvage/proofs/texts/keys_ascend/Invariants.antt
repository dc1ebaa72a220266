-- `salvage::texts::keys_ascend` meets its contract: the keys that are left ascend exactly when all do.
use mathlib.Core.Path.{◌≡◌}
use Prim.Native.Nat.{◌+◌, ◌*◌, ◌-◌, ◌≤◌}
use lib.ListN.{length}
use Rattle.layout.specs.Holds.{ascending, keys_of}
use Rattle.salvage.specs.Met.{rows_from}
use Rattle.salvage.proofs.texts.keys_ascend.Given as goal

abbrev pub invariant-loop-i : goal.invariant-loop-i
invariant-loop-i l =
    (1 + l.i * l.p.wpr + (l.n - l.i) * l.p.wpr ≤ length l.t)
    × (ascending (keys_of l.p (rows_from l.p.wpr 1 l.n l.t))
    ≡ ascending (keys_of l.p (rows_from l.p.wpr (1 + l.i * l.p.wpr) (l.n - l.i) l.t)))
