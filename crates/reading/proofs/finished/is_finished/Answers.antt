-- Word 1, the master's first entry, and then the entries of block 1.
use mathlib.Core.Path.{◌≡◌}
use native.Mathlib.Omega.{arith}
use borrow.Author.Tests.{eq-eqb, ne_eqb}
use Rattle.reading.proofs.Order.{Master, then_and, else-and, elsewhere, names-first, in-first, whole-fit, narrow, wide, some-blocks, start_fits, word-behind}
use Rattle.reading.proofs.Order.{entries-few, entries-named, entries-inside}
use Rattle.reading.proofs.finished.is_finished.Goals.{then-word_at-eq0, else-word_at-eq0}
use Rattle.reading.proofs.finished.is_finished.Goals as goal

pub word_at-requires : goal.word_at-requires
word_at-requires c = omega (arith, word-behind)

pub overflow_add-p : goal.overflow_add-p
overflow_add-p c = omega (arith, narrow)

pub word_at-requires-then-word_at-eq0 : goal.word_at-requires-then-word_at-eq0
word_at-requires-then-word_at-eq0 c = omega (arith, word-behind)

pub overflow_add-start : goal.overflow_add-start
overflow_add-start c = search start_fits

pub block_of-requires : goal.block_of-requires
block_of-requires c = (search whole-fit, omega arith, omega (arith, some-blocks))

pub entries_in-requires : goal.entries_in-requires
entries_in-requires c = omega (arith, wide)

pub in_order-requires : goal.in_order-requires
in_order-requires c =
    let both : c.if-word_at-eq0.value ≡ Master c.args.p c.args.file.now =
    elim c.if-word_at-eq0.branch [
      | then-word_at-eq0 w ↦ rw (← c.word_at.ensures, ← w.word_at-then-word_at-eq0.ensures) (then_and _ _ _ (eq-eqb _ _ w.if-word_at-eq0.true) w.value-is)
      | else-word_at-eq0 w ↦ rw (← c.word_at.ensures) (else-and _ _ _ (ne_eqb _ _ w.if-word_at-eq0.false) w.value-is)
    ] in
    let one = names-first c.args.p c.args.file.now _ both c.if-word_at-eq1.true in
    let few = entries-few _ _ c.requires one _ _ c.entries_in.ensures c.block_of.ensures.0 in
    let named = entries-named _ _ c.requires one _ _ c.entries_in.ensures c.block_of.ensures.0 _ c.start.ensures in
    let inside = entries-inside _ _ c.requires one _ _ c.entries_in.ensures c.block_of.ensures.0 _ c.start.ensures in
    (search whole-fit, few, inside, named)

pub returns-then-word_at-eq1 : goal.returns-then-word_at-eq1
returns-then-word_at-eq1 c =
    let both : c.if-word_at-eq0.value ≡ Master c.args.p c.args.file.now =
    elim c.if-word_at-eq0.branch [
      | then-word_at-eq0 w ↦ rw (← c.word_at.ensures, ← w.word_at-then-word_at-eq0.ensures) (then_and _ _ _ (eq-eqb _ _ w.if-word_at-eq0.true) w.value-is)
      | else-word_at-eq0 w ↦ rw (← c.word_at.ensures) (else-and _ _ _ (ne_eqb _ _ w.if-word_at-eq0.false) w.value-is)
    ] in
    search (in-first, both)

pub returns-else-word_at-eq1 : goal.returns-else-word_at-eq1
returns-else-word_at-eq1 c =
    let both : c.if-word_at-eq0.value ≡ Master c.args.p c.args.file.now =
    elim c.if-word_at-eq0.branch [
      | then-word_at-eq0 w ↦ rw (← c.word_at.ensures, ← w.word_at-then-word_at-eq0.ensures) (then_and _ _ _ (eq-eqb _ _ w.if-word_at-eq0.true) w.value-is)
      | else-word_at-eq0 w ↦ rw (← c.word_at.ensures) (else-and _ _ _ (ne_eqb _ _ w.if-word_at-eq0.false) w.value-is)
    ] in
    elsewhere _ _ _ both c.if-word_at-eq1.false
