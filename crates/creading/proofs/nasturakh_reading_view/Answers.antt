-- The words are no reading session's, or the place of the block as that session sees it.
use Rattle.creading.proofs.Told.{view-none, view-many, view-told}
use Rattle.creading.proofs.nasturakh_reading_view.Goals as goal

pub returns-in_default : goal.returns-in_default
returns-in_default c = search (view-none, c.in_default.ensures.no)

pub returns-then-s-ne1 : goal.returns-then-s-ne1
returns-then-s-ne1 c = search (view-many, c.in-Some.ensures.yes, c.in-Some.ensures.same)

pub returns-else-s-ne1 : goal.returns-else-s-ne1
returns-else-s-ne1 c = search (view-told, c.in-Some.ensures.yes, c.in-Some.ensures.same)
