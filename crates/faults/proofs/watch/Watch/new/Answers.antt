-- `Watch::new` meets its contract.
use mathlib.Core.Path.{refl}
use Rattle.faults.specs.Watching.{unwatched}
use Rattle.faults.proofs.watch.Watch.new.Goals as goal

pub returns : goal.returns
unfolding unwatched
returns c = refl
