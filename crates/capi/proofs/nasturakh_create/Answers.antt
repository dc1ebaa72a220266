-- `capi::nasturakh_create` meets its contract: the words are no session's, or CREATE's promise is told in words.
use Rattle.capi.proofs.Told.{called-none, create-called, create-few}
use Rattle.capi.proofs.nasturakh_create.Goals as goal

pub returns-in_default : goal.returns-in_default
returns-in_default c = search (called-none, c.in_default.ensures.no)

pub packed-requires : goal.packed-requires
packed-requires c = search create-few

pub returns : goal.returns
returns c = search (create-called, c.in-Some.ensures.yes, c.in-Some.ensures.same)
