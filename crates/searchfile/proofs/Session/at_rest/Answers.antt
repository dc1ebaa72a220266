-- `searchfile::Session::at_rest` meets its contract.
use mathlib.Core.Path.{refl}
use Rattle.rules.specs.State.{at_rest}
use Rattle.searchfile.proofs.Session.at_rest.Goals as goal

pub returns : goal.returns
unfolding at_rest
returns c = refl
