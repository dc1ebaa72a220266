-- `watch::look` meets its contract: what is to be looked at from here on comes to what the whole comes to.
use mathlib.Core.Path.{◌≡◌}
use lib.ListN.{drop}
use Rattle.faults.specs.Watching.{watched}
use Rattle.faults.proofs.watch.look.Given as goal

abbrev pub invariant-loop-b : goal.invariant-loop-b
invariant-loop-b l = watched l.initial.seen (drop l.from l.bytes) ≡ watched l.seen (drop l.b-index l.b-items)
