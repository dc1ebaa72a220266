-- Each return is one way through OPEN.
use Rattle.searchfile.proofs.Opening.{open_early, open-bad, open_done_lem, inspect-fit, marks_whole}
use Rattle.searchfile.proofs.Session.open_file.Goals as goal

pub inspect-requires : goal.inspect-requires
inspect-requires c = record { fit = inspect-fit _ _ _ _ c.in-Ok.ensures; marks_len = marks_whole _ _ _ _ c.in-Ok.ensures }

pub returns-then-not-inspect : goal.returns-then-not-inspect
returns-then-not-inspect c = open-bad _ _ _ _ c.in-Ok.ensures _ _ c.inspect.ensures _ c.refused.ensures c.if-not-inspect.true

pub returns-else-not-inspect : goal.returns-else-not-inspect
returns-else-not-inspect c = open_done_lem _ _ _ _ c.in-Ok.ensures _ _ c.inspect.ensures _ c.at_rest.ensures c.if-not-inspect.false

pub returns-in-Err : goal.returns-in-Err
returns-in-Err c = open_early _ _ _ _ _ _ c.refused-in-Err.ensures c.in-Err.ensures
