-- The bound before is the master's or the index block's, or there is none.
use native.Mathlib.Omega.{arith}
use borrow.Author.Tests.{eq-eqb, ne_eqb}
use Rattle.table.specs.Tables.{key_at}
use Rattle.drum.specs.Params.{master_shape, index_shape}
use Rattle.rules.specs.Xtend.{not_above_before}
use Rattle.xtend.proofs.Rows.{section-key, section-times, section-start, entry_key, entry-times, entry-start}
use Rattle.xtend.proofs.plan.not_above_before.Goals as goal

pub overflow_mul-w : goal.overflow_mul-w
overflow_mul-w c = search section-times

pub overflow_add-w : goal.overflow_add-w
overflow_add-w c = search section-start

pub key_below-requires : goal.key_below-requires
key_below-requires c = (search section-key, omega arith)

pub returns-then-w-ne0 : goal.returns-then-w-ne0
unfolding not_above_before key_at master_shape
returns-then-w-ne0 c = simp (eq-eqb _ _ c.if-w-eq0.true, ne_eqb _ _ c.if-w-ne0.true, ← c.key_below.ensures)

pub returns-else-w-ne0 : goal.returns-else-w-ne0
unfolding not_above_before
returns-else-w-ne0 c = simp (eq-eqb _ _ c.if-w-eq0.true, eq-eqb _ _ c.if-w-ne0.false)

pub overflow_mul-w-2 : goal.overflow_mul-w-2
overflow_mul-w-2 c = search entry-times

pub overflow_add-w-2 : goal.overflow_add-w-2
overflow_add-w-2 c = search entry-start

pub key_below-requires-2 : goal.key_below-requires-2
key_below-requires-2 c = (search entry_key, omega arith)

pub returns : goal.returns
unfolding not_above_before key_at index_shape
returns c = simp (ne_eqb _ _ c.if-w-eq0.false, ← c.text_of.ensures, ← c.key_below-2.ensures)
