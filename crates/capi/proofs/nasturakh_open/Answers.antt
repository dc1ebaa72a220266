-- `capi::nasturakh_open` meets its contract: the words are no session's, or OPEN's promise is told in words, the marks beside.
use Rattle.capi.proofs.Told.{open_none, open-called, open-tellable}
use Rattle.capi.proofs.nasturakh_open.Goals as goal

pub returns-in_default : goal.returns-in_default
returns-in_default c = search (open_none, c.in_default.ensures.no)

pub told-requires : goal.told-requires
told-requires c = search (open-tellable, c.in-Some.ensures.yes, c.in-Some.ensures.same)

pub returns : goal.returns
returns c = search (open-called, c.in-Some.ensures.yes, c.in-Some.ensures.same)
