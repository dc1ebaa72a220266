-- The words are no reading session's, or the reading call's promise is told in words.
use Rattle.rules.specs.Seek.{seek}
use Rattle.reading.specs.Reading.{read_seek}
use Rattle.capi.proofs.Outcomes.{seek-telling}
use Rattle.creading.proofs.Told.{called-none, call-told, can-tell, profile-telling}
use Rattle.creading.proofs.nasturakh_reading_seek.Goals as goal

pub returns-in_default : goal.returns-in_default
returns-in_default c = search (called-none, c.in_default.ensures.no)

pub told_reading-requires : goal.told_reading-requires
told_reading-requires c = search (can-tell read_seek (profile-telling seek seek-telling), c.in-Some.ensures.yes, c.in-Some.ensures.same)

pub returns : goal.returns
returns c = search (call-told, c.in-Some.ensures.yes, c.in-Some.ensures.same)
