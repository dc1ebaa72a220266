-- `capi::nasturakh_free_name` meets its contract: the words are no session's, or the register's promise is told in words.
use Rattle.register.specs.Register.{free}
use Rattle.capi.proofs.Registered.{free-telling}
use Rattle.capi.proofs.Told.{called-none, call-called, tellable}
use Rattle.capi.proofs.names.nasturakh_free_name.Goals as goal

pub returns-in_default : goal.returns-in_default
returns-in_default c = search (called-none, c.in_default.ensures.no)

pub told-requires : goal.told-requires
told-requires c = search (tellable free free-telling, c.in-Some.ensures.yes, c.in-Some.ensures.same)

pub returns : goal.returns
returns c = search (call-called, c.in-Some.ensures.yes, c.in-Some.ensures.same)
