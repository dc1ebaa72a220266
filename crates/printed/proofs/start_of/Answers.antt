-- `printed::start_of` meets its contract: what was read of the first line decides.
use mathlib.Core.Path.{refl}
use Rattle.printed.specs.Output.{start_of}
use Rattle.printed.proofs.start_of.Goals as goal

pub returns-in-Some : goal.returns-in-Some
unfolding start_of
returns-in-Some c = rw (← c.in-Some.ensures) c.start_with.ensures

pub returns-in-None : goal.returns-in-None
unfolding start_of
returns-in-None c = rw (← c.in-None.ensures) refl
