-- `register::free` meets its contract: it is the move with its states.
use Rattle.register.proofs.Moving.{free-is}
use Rattle.register.proofs.free.Goals as goal

pub returns : goal.returns
returns c = search free-is
