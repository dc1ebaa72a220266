-- The chain's head is checked, and the index block's count tells which deed it is.
use mathlib.Core.Path.{refl}
use borrow.Author.Tests.{eq-eqb, ne_eqb}
use Rattle.numbers.proofs.Exits.{handed}
use Rattle.drum.proofs.Sizes.{text-some}
use Rattle.rules.specs.Dlete.{empty_deed}
use Rattle.dlete.proofs.Planned.{file-some}
use Rattle.dlete.proofs.plan.empty_deed.Goals as goal

pub word_at-requires : goal.word_at-requires
word_at-requires c = file-some _ _ _ c.args.v.fits

pub returns-in_err-head : goal.returns-in_err-head
unfolding empty_deed
returns-in_err-head c = handed _ _ _ c.from_residual.ensures.1 (rw (← c.word_at.ensures, ← c.in_err-head.ensures.step) refl)

pub entries_in-requires : goal.entries_in-requires
entries_in-requires c = search text-some

pub returns-then-entries_in-eq1 : goal.returns-then-entries_in-eq1
unfolding empty_deed
returns-then-entries_in-eq1 c =
    rw (← c.word_at.ensures, ← c.in_ok-head.ensures.step, ← c.text_of.ensures, ← c.entries_in.ensures, eq-eqb _ _ c.if-entries_in-eq1.true) refl

pub returns : goal.returns
unfolding empty_deed
returns c =
    rw (← c.word_at.ensures, ← c.in_ok-head.ensures.step, ← c.text_of.ensures, ← c.entries_in.ensures, ne_eqb _ _ c.if-entries_in-eq1.false) refl
