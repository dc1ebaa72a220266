-- `register::romanise` meets its contract: the refusals, and then the move.
use Rattle.register.proofs.Refusing.{spelled-fits}
use Rattle.register.proofs.Guards.{romanise-refused, romanise-passed}
use Rattle.register.proofs.romanise.Goals as goal

pub returns-in-Err : goal.returns-in-Err
returns-in-Err c = search (romanise-refused, c.refused.ensures, c.in-Err.ensures)

pub romanised-requires : goal.romanised-requires
romanised-requires c = search (spelled-fits, c.in_default.ensures)

pub returns : goal.returns
returns c = search (romanise-passed, c.romanised.ensures, c.in_default.ensures)
