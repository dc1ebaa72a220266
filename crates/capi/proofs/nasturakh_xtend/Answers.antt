-- `capi::nasturakh_xtend` meets its contract: the words are no session's, or the session call's promise is told in words.
use Rattle.rules.specs.XtendDone.{xtend}
use Rattle.capi.proofs.Outcomes.{xtend-telling}
use Rattle.capi.proofs.Told.{called-none, call-called, tellable}
use Rattle.capi.proofs.nasturakh_xtend.Goals as goal

pub returns-in_default : goal.returns-in_default
returns-in_default c = search (called-none, c.in_default.ensures.no)

pub told-requires : goal.told-requires
told-requires c = search (tellable xtend xtend-telling, c.in-Some.ensures.yes, c.in-Some.ensures.same)

pub returns : goal.returns
returns c = search (call-called, c.in-Some.ensures.yes, c.in-Some.ensures.same)
