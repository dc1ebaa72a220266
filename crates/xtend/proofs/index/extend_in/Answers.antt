-- The block's own words are lent, and come back with the bound and the entry.
use native.Mathlib.Omega.{arith}
use Rattle.drum.proofs.Lent.{lies-end}
use Rattle.xtend.proofs.Sections.{room-lent, extended-back}
use Rattle.xtend.proofs.index.extend_in.Goals as goal

pub overflow_add-end : goal.overflow_add-end
overflow_add-end c = omega (arith, lies-end)

pub offset_bounds-file-start : goal.offset_bounds-file-start
offset_bounds-file-start c = omega (arith, lies-end)

pub slice_bounds-extend-end : goal.slice_bounds-extend-end
slice_bounds-extend-end c = omega (arith, lies-end)

pub extend-requires : goal.extend-requires
extend-requires c = search room-lent

pub returns : goal.returns
returns c = search extended-back
