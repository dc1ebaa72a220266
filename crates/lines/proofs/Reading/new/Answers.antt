-- `Reading::new` meets its contract.
use mathlib.Core.Path.{refl}
use Rattle.lines.specs.Reading.{unread}
use Rattle.lines.proofs.Reading.new.Goals as goal

pub returns : goal.returns
unfolding unread
returns c = refl
