-- The block's own words are lent, and come back as the text.
use native.Mathlib.Omega.{arith}
use Rattle.drum.proofs.Lent.{lies-end, laid-back}
use Rattle.drum.proofs.inside.lay_block.Goals as goal

pub overflow_add-end : goal.overflow_add-end
overflow_add-end c = omega (arith, lies-end)

pub offset_bounds-file-start : goal.offset_bounds-file-start
offset_bounds-file-start c = omega (arith, lies-end)

pub slice_bounds-lay_rows-end : goal.slice_bounds-lay_rows-end
slice_bounds-lay_rows-end c = omega (arith, lies-end)

pub returns : goal.returns
returns c = search laid-back
