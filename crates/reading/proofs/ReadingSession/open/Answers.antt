-- Each return is one way through OPEN.
use Rattle.reading.proofs.Opened.{open_early, open-bad, open_done_lem, inspect-fit, marks_whole}
use Rattle.reading.proofs.ReadingSession.open.Goals as goal

pub inspect-requires : goal.inspect-requires
inspect-requires c = (inspect-fit _ _ _ _ c.in-Ok.ensures, marks_whole _ _ _ _ c.in-Ok.ensures)

pub returns-then-not-inspect : goal.returns-then-not-inspect
returns-then-not-inspect c = open-bad _ _ _ _ c.in-Ok.ensures _ _ c.inspect.ensures _ c.refused.ensures c.if-not-inspect.true

pub returns-else-not-inspect : goal.returns-else-not-inspect
returns-else-not-inspect c = open_done_lem _ _ _ _ c.in-Ok.ensures _ _ c.inspect.ensures _ c.at_rest.ensures c.if-not-inspect.false

pub returns-in-Err : goal.returns-in-Err
returns-in-Err c = open_early _ _ _ _ _ _ c.refused-in-Err.ensures c.in-Err.ensures
