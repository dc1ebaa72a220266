-- `capi::nasturakh_most_transfers` meets its contract: there are no parameters to plan by, or no eight words of a plan, or the bound of the plan.
use Rattle.capi.proofs.Most.{most-none, most-length, most-planned}
use Rattle.capi.proofs.nasturakh_most_transfers.Goals as goal

pub returns-in_default : goal.returns-in_default
returns-in_default c = search (most-none, c.in_default.ensures.no)

pub returns-then-plan-ne-PLAN_WORDS : goal.returns-then-plan-ne-PLAN_WORDS
returns-then-plan-ne-PLAN_WORDS c = search (most-length, c.in-Some.ensures.yes)

pub returns : goal.returns
returns c = search (most-planned, c.in-Some.ensures.yes, c.in-Some.ensures.same)
