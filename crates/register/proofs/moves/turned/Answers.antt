-- `register::turned` meets its contract: the refusals, and then the move.
use Rattle.register.proofs.Refusing.{name-fits}
use Rattle.register.proofs.Guards.{turn-refused, turn-passed}
use Rattle.register.proofs.moves.turned.Goals as goal

pub returns-in-Err : goal.returns-in-Err
returns-in-Err c = search (turn-refused, c.refused.ensures, c.in-Err.ensures)

pub kept-requires : goal.kept-requires
kept-requires c = search (name-fits, c.in_default.ensures)

pub returns : goal.returns
returns c = search (turn-passed, c.kept.ensures, c.in_default.ensures)
