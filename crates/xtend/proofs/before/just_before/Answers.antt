-- In the same index block, or in the section before.
use borrow.Author.Tests.{eq-eqb, ne_eqb}
use Rattle.rules.specs.Xtend.{just_before}
use Rattle.lookup.proofs.Sizes.{text-some}
use Rattle.xtend.proofs.Rows.{entry_next}
use Rattle.xtend.proofs.before.just_before.Goals as goal

pub entries_in-n-requires : goal.entries_in-n-requires
entries_in-n-requires c = search text-some

pub returns-then-q-w : goal.returns-then-q-w
unfolding just_before
returns-then-q-w c = simp (eq-eqb _ _ c.if-w-eq0.true, eq-eqb _ _ c.if-q-w.true, ← c.text_of.ensures, ← c.entries_in-n.ensures)

pub returns-else-q-w : goal.returns-else-q-w
unfolding just_before
returns-else-q-w c = simp (eq-eqb _ _ c.if-w-eq0.true, ne_eqb _ _ c.if-q-w.false)

pub overflow_add-result-then-q-w-2 : goal.overflow_add-result-then-q-w-2
overflow_add-result-then-q-w-2 c = search entry_next

pub returns-then-q-w-2 : goal.returns-then-q-w-2
unfolding just_before
returns-then-q-w-2 c = simp (ne_eqb _ _ c.if-w-eq0.false, eq-eqb _ _ c.if-q-w-2.true)

pub returns-else-q-w-2 : goal.returns-else-q-w-2
unfolding just_before
returns-else-q-w-2 c = simp (ne_eqb _ _ c.if-w-eq0.false, ne_eqb _ _ c.if-q-w-2.false)
