-- The words are no reading session's, or OPEN's promise is told in words, the marks beside.
use Rattle.creading.proofs.Told.{open_none, open_told, can-tell-open}
use Rattle.creading.proofs.nasturakh_reading_open.Goals as goal

pub returns-in_default : goal.returns-in_default
returns-in_default c = search (open_none, c.in_default.ensures.no)

pub told_reading-requires : goal.told_reading-requires
told_reading-requires c = search (can-tell-open, c.in-Some.ensures.yes, c.in-Some.ensures.same)

pub returns : goal.returns
returns c = search (open_told, c.in-Some.ensures.yes, c.in-Some.ensures.same)
