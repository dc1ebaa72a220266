-- `capi::copying::nasturakh_copy` meets its contract: the words are no session's, or the copying call's promise is told in words.
use Rattle.capi.proofs.CopyTold.{copy-none, copy-called, copy-free}
use Rattle.capi.proofs.copying.nasturakh_copy.Goals as goal

pub returns-in_default : goal.returns-in_default
returns-in_default c = search (copy-none, c.in_default.ensures.no)

pub packed-requires : goal.packed-requires
packed-requires c = search copy-free

pub returns : goal.returns
returns c = search (copy-called, c.in-Some.ensures.yes, c.in-Some.ensures.same)
