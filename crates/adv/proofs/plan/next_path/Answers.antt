-- By the next entry of the index block, or by the first of the next section's.
use mathlib.Core.Path.{◌∙◌}
use native.Mathlib.Omega.{arith}
use borrow.Author.Tests.{lt-ltb, le-ltb}
use Rattle.drum.proofs.Sizes.{entries-few, text-some}
use Rattle.rules.specs.Adv.{next_path}
use Rattle.lookup.proofs.Fits.{place-any, place-first-any}
use Rattle.adv.proofs.plan.next_path.Goals as goal

pub overflow_add-next : goal.overflow_add-next
overflow_add-next c = omega (arith, entries-few)

pub entries_in-requires : goal.entries_in-requires
entries_in-requires c = search text-some

pub returns-then-next-entries_in : goal.returns-then-next-entries_in
unfolding next_path
returns-then-next-entries_in c =
    rw (← c.text_of.ensures, ← c.entries_in.ensures, lt-ltb _ _ c.if-next-entries_in.true) (c.path_by.ensures ∙ place-any _ _ _ _ _)

pub returns : goal.returns
unfolding next_path
returns c =
    rw (← c.text_of.ensures, ← c.entries_in.ensures, le-ltb _ _ c.if-next-entries_in.false) (c.path_by-2.ensures ∙ place-first-any _ _ _ _)
