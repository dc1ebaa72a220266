-- `nearest::agreeing` meets its contract: what agrees from here on and what was counted come to the whole.
use Prim.Native.Nat.{◌≤◌, ◌+◌}
use mathlib.Core.Path.{◌≡◌}
use lib.ListN.{drop}
use Rattle.faults.specs.Nearest.{agreeing}
use Rattle.faults.proofs.nearest.agreeing.Given as goal

abbrev pub invariant-loop-i : goal.invariant-loop-i
invariant-loop-i l = (agreeing l.word l.text ≡ l.count + agreeing (drop l.i l.word) (drop l.i l.text)) × (l.count ≤ l.i)
