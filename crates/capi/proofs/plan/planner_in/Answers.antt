-- `capi::plan::planner_in` meets its contract: the words are no session's, or the session's parameters are in range or not.
use Rattle.capi.proofs.Words.{asked-whole}
use Rattle.capi.proofs.Planner.{planner-none, planner_by}
use Rattle.capi.proofs.plan.planner_in.Goals as goal

pub parameters_in-p-requires : goal.parameters_in-p-requires
parameters_in-p-requires c = search asked-whole

pub returns-then-not-is_session-clause-no : goal.returns-then-not-is_session-clause-no
returns-then-not-is_session-clause-no c = search planner-none

pub returns-then-is_good-clause-yes : goal.returns-then-is_good-clause-yes
returns-then-is_good-clause-yes c = search planner_by

pub returns-else-is_good-clause-no : goal.returns-else-is_good-clause-no
returns-else-is_good-clause-no c = search planner_by
