-- The words are no session's, or the flag of the session that they are says whether they are a reading session's.
use Rattle.creading.proofs.Told.{reading-none, reading-flagged, reading-unflagged}
use Rattle.creading.proofs.session.unflagged_in.Goals as goal

pub returns-in_err-s-clause-no : goal.returns-in_err-s-clause-no
returns-in_err-s-clause-no c = rw c.from_residual.ensures (reading-none _ c.in_err-s.ensures.no)

pub returns-then-s-clause-no : goal.returns-then-s-clause-no
returns-then-s-clause-no c = search (reading-flagged, c.in_ok-s.ensures.yes, c.in_ok-s.ensures.same)

pub returns-else-s-clause-yes : goal.returns-else-s-clause-yes
returns-else-s-clause-yes c = search (reading-unflagged, c.in_ok-s.ensures.yes, c.in_ok-s.ensures.same)

pub returns-else-s-clause-same : goal.returns-else-s-clause-same
returns-else-s-clause-same c = c.in_ok-s.ensures.same
