-- The block's own words are lent, and come back as a free block's text.
use native.Mathlib.Omega.{arith}
use Rattle.drum.proofs.Forms.{free-tag}
use Rattle.drum.proofs.Lent.{lies-end}
use Rattle.drum.proofs.FreeTexts.{freed-back, link-lies}
use Rattle.drum.proofs.inside.free_block.Goals as goal

pub overflow_add-end : goal.overflow_add-end
overflow_add-end c = omega (arith, lies-end)

pub offset_bounds-file-start : goal.offset_bounds-file-start
offset_bounds-file-start c = omega (arith, lies-end)

pub slice_bounds-lay_free-end : goal.slice_bounds-lay_free-end
slice_bounds-lay_free-end c = omega (arith, lies-end)

pub lay_free-requires : goal.lay_free-requires
lay_free-requires c = (search link-lies, omega (arith, free-tag), search)

pub returns : goal.returns
returns c = search freed-back
