-- `register::hold` meets its contract: it is the move with its states.
use Rattle.register.proofs.Moving.{hold-is}
use Rattle.register.proofs.hold.Goals as goal

pub returns : goal.returns
returns c = search hold-is
