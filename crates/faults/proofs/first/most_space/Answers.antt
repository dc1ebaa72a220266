-- `first::most_space` meets its contract.
use mathlib.Core.Path.{◌≡◌}
use Prim.Native.Nat.{◌-◌, min}
use Rattle.faults.proofs.Ranges.{space-least}
use Rattle.faults.proofs.first.most_space.Goals as goal

pub returns : goal.returns
returns c =
    let e : c.saturating_sub.result ≡ min c.d.result c.i.result - 2 = rw (← c.min.ensures) c.saturating_sub.ensures in
    space-least c.args.p c.d.result c.i.result c.saturating_sub.result c.d.ensures c.i.ensures e
