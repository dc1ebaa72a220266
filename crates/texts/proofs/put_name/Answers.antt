-- `texts::put_name` meets its contract: a name has at most six bytes.
use native.Mathlib.Omega.{arith}
use lib.ListN.{length}
use mathlib.Core.Path.{ap}
use mathlib.Core.List.{List}
use Prim.Native.Nat.{ℕ}
use Rattle.texts.proofs.Names.{spelling-short}
use Rattle.texts.proofs.put_name.Goals as goal

pub put_bytes-requires : goal.put_bytes-requires
put_bytes-requires c = omega (arith, spelling-short c.args.call, ap (λ (l : List ℕ). length l) c.spelling.ensures)

pub returns : goal.returns
returns c =
    let w = rw c.spelling.ensures at c.put_bytes.ensures in
    (w.0, w.1, omega (arith, spelling-short c.args.call))
