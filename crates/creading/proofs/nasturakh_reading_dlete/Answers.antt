-- The words are no reading session's, or the refusal is told in words.
use Rattle.reading.specs.Reading.{altering, read_alter}
use Rattle.creading.proofs.Told.{called-none, call-told, can-tell, profile-telling, alter-telling}
use Rattle.creading.proofs.nasturakh_reading_dlete.Goals as goal

pub returns-in_default : goal.returns-in_default
returns-in_default c = search (called-none, c.in_default.ensures.no)

pub told_reading-requires : goal.told_reading-requires
told_reading-requires c = search (can-tell read_alter (profile-telling altering alter-telling), c.in-Some.ensures.yes, c.in-Some.ensures.same)

pub returns : goal.returns
returns c = search (call-told, c.in-Some.ensures.yes, c.in-Some.ensures.same)
