-- A row moved up, or the row itself copied.
use native.Mathlib.Omega.{arith}
use Rattle.split.proofs.Taken.{row-start, row-end, behind-start, raised-behind, raised-itself}
use Rattle.split.proofs.Cut.raise_row.Goals as goal

pub overflow_mul-at : goal.overflow_mul-at
overflow_mul-at c = omega (arith, row-start)

pub overflow_add-at : goal.overflow_add-at
overflow_add-at c = omega (arith, row-start)

pub overflow_sub-at : goal.overflow_sub-at
overflow_sub-at c = search (behind-start, arith)

pub move_words-requires : goal.move_words-requires
move_words-requires c =
    let b = behind-start _ _ _ _ c.requires.0 c.if-self-j.true in
    (omega (arith, row-start), search row-end)

pub returns-then-self-j : goal.returns-then-self-j
returns-then-self-j c = search raised-behind

pub replace_row-requires : goal.replace_row-requires
replace_row-requires c = (search row-end, omega arith)

pub returns-else-self-j : goal.returns-else-self-j
returns-else-self-j c = search raised-itself
