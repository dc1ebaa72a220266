-- The block's own words are lent, and come back with the row put in.
use native.Mathlib.Omega.{arith}
use Rattle.drum.proofs.Lent.{lies-end, room-lent, place-lent, count-lent, inserted-back}
use Rattle.drum.proofs.inside.insert_in.Goals as goal

pub overflow_add-end : goal.overflow_add-end
overflow_add-end c = omega (arith, lies-end)

pub offset_bounds-file-start : goal.offset_bounds-file-start
offset_bounds-file-start c = omega (arith, lies-end)

pub slice_bounds-insert_row-end : goal.slice_bounds-insert_row-end
slice_bounds-insert_row-end c = omega (arith, lies-end)

pub insert_row-requires : goal.insert_row-requires
insert_row-requires c = (search, search room-lent, search place-lent, search count-lent, omega arith)

pub returns : goal.returns
returns c = search inserted-back
