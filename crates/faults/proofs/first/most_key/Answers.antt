-- `first::most_key` meets its contract.
use mathlib.Core.Path.{◌≡◌}
use Prim.Native.Nat.{◌-◌, min}
use Rattle.faults.proofs.Ranges.{key-least}
use Rattle.faults.proofs.first.most_key.Goals as goal

pub returns : goal.returns
returns c =
    let e : c.min.result ≡ min (c.half.result - 1) 63 = rw (← c.saturating_sub.ensures) c.min.ensures in
    key-least c.args.p c.half.result c.min.result c.half.ensures e
