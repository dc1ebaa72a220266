-- The words of one of the rows in the buffer, or the row itself.
use native.Mathlib.Omega.{arith}
use Rattle.split.proofs.Taken.{row-start, behind-start, before-end, before-fits, lent-behind, lent-before, lent-itself}
use Rattle.split.proofs.Cut.row_of.Goals as goal

pub overflow_mul-at : goal.overflow_mul-at
overflow_mul-at c = omega (arith, row-start)

pub overflow_add-at : goal.overflow_add-at
overflow_add-at c = omega (arith, row-start)

pub overflow_sub-below : goal.overflow_sub-below
overflow_sub-below c = search behind-start

pub offset_bounds-buffer-below : goal.offset_bounds-buffer-below
offset_bounds-buffer-below c = omega (arith, row-start)

pub slice_bounds-result-end : goal.slice_bounds-result-end
slice_bounds-result-end c = search row-start

pub returns-then-self-j : goal.returns-then-self-j
returns-then-self-j c = search lent-behind

pub overflow_add-end : goal.overflow_add-end
overflow_add-end c = search before-fits

pub offset_bounds-buffer-at : goal.offset_bounds-buffer-at
offset_bounds-buffer-at c = omega (arith, row-start)

pub slice_bounds-result-end-then-j-self : goal.slice_bounds-result-end-then-j-self
slice_bounds-result-end-then-j-self c = search before-end

pub returns-then-j-self : goal.returns-then-j-self
returns-then-j-self c = search lent-before

pub returns : goal.returns
returns c = search lent-itself
