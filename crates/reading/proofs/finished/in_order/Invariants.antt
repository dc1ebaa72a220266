-- What is left of the entries tells what all of them tell.
use Prim.Native.Nat.{◌+◌, ◌*◌, ◌-◌}
use mathlib.Core.Path.{◌≡◌}
use Rattle.reading.specs.Finished.{in_order}
use Rattle.reading.specs.Fits.{NamesBlocks}
use Rattle.reading.proofs.finished.in_order.Given as goal

abbrev pub invariant-loop-i : goal.invariant-loop-i
invariant-loop-i l =
    NamesBlocks l.p l.file (l.e + l.i * (l.p.k + 1)) (l.n - l.i)
    × (in_order l.p l.file l.e 2 l.n ≡ in_order l.p l.file (l.e + l.i * (l.p.k + 1)) (2 + l.i) (l.n - l.i))
