-- The block's own words are lent, and come back with the key written over.
use native.Mathlib.Omega.{arith}
use Rattle.drum.proofs.Lent.{lies-end, replaced-back}
use Rattle.drum.proofs.inside.set_key_in.Goals as goal

pub overflow_add-end : goal.overflow_add-end
overflow_add-end c = omega (arith, lies-end)

pub offset_bounds-file-start : goal.offset_bounds-file-start
offset_bounds-file-start c = omega (arith, lies-end)

pub slice_bounds-replace_row-end : goal.slice_bounds-replace_row-end
slice_bounds-replace_row-end c = omega (arith, lies-end)

pub returns : goal.returns
returns c = search replaced-back
