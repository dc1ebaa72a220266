-- `nearest::nearest_near` meets its contract: the nearest of the calls from here on is the nearest of all.
use mathlib.Core.Path.{◌≡◌}
use lib.ListN.{drop}
use Rattle.lines.specs.Lines.{kinds}
use Rattle.faults.specs.Nearest.{nothing_near, nearest_in}
use Rattle.faults.proofs.nearest.nearest_near.Given as goal

abbrev pub invariant-loop-call : goal.invariant-loop-call
invariant-loop-call l = nearest_in l.word nothing_near kinds ≡ nearest_in l.word l.near (drop l.call-index kinds)
