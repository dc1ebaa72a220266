-- The words are no reading session's, or the session read, without its flag.
use Rattle.creading.proofs.Told.{reading-by}
use Rattle.creading.proofs.session.reading_in.Goals as goal

pub returns-in_err-s-clause-no : goal.returns-in_err-s-clause-no
returns-in_err-s-clause-no c = rw c.from_residual.ensures c.in_err-s.ensures.no

pub returns-clause-yes : goal.returns-clause-yes
returns-clause-yes c = c.in_ok-s.ensures.yes

pub returns-clause-same : goal.returns-clause-same
returns-clause-same c = search (reading-by, c.in_ok-s.ensures.yes, c.in_ok-s.ensures.same)
