-- `capi::nasturakh_view` meets its contract: the words are no session's, or the place of the block as that session sees it.
use Rattle.capi.proofs.View.{viewed-none, viewed_by}
use Rattle.capi.proofs.nasturakh_view.Goals as goal

pub returns-in_default : goal.returns-in_default
returns-in_default c = search (viewed-none, c.in_default.ensures.no)

pub returns : goal.returns
returns c = search (viewed_by, c.in-Some.ensures.yes, c.in-Some.ensures.same)
