-- The text at the end of the path tells whether the block is left empty.
use mathlib.Core.Path.{refl}
use borrow.Author.Tests.{eq-eqb, ne_eqb}
use Rattle.drum.proofs.Sizes.{text-some}
use Rattle.rules.specs.Dlete.{delete_after, empty_at}
use Rattle.dlete.proofs.plan.delete_by.Goals as goal

pub records_in-requires : goal.records_in-requires
records_in-requires c = search text-some

pub returns-then-records_in-ne1 : goal.returns-then-records_in-ne1
unfolding delete_after
returns-then-records_in-ne1 c = rw (← c.text_of.ensures, ← c.records_in.ensures, ne_eqb _ _ c.if-records_in-ne1.true) refl

pub returns : goal.returns
unfolding delete_after empty_at
returns c = rw (← c.text_of.ensures, ← c.records_in.ensures, eq-eqb _ _ c.if-records_in-ne1.false) c.empty_deed.ensures
