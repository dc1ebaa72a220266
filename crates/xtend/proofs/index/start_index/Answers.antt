-- The index block with its new bound, and the new index block.
use native.Mathlib.Omega.{arith}
use Rattle.drum.proofs.Forms.{index-shaped}
use Rattle.drum.proofs.Lent.{lies-end}
use Rattle.xtend.proofs.Sections.{key-few, entry-small, entry-words, number_small, last-lent, bounded-back, bounded-held, indexed-by}
use Rattle.xtend.proofs.index.start_index.Goals as goal

pub ones_entry-entry-requires : goal.ones_entry-entry-requires
ones_entry-entry-requires c = (omega (arith, key-few), omega (arith, number_small))

pub overflow_add-end : goal.overflow_add-end
overflow_add-end c = omega (arith, lies-end)

pub offset_bounds-file-start : goal.offset_bounds-file-start
offset_bounds-file-start c = omega (arith, lies-end)

pub slice_bounds-set_bound-end : goal.slice_bounds-set_bound-end
slice_bounds-set_bound-end c = omega (arith, lies-end)

pub set_bound-requires : goal.set_bound-requires
set_bound-requires c = search last-lent

pub overflow_add-h : goal.overflow_add-h
overflow_add-h c = omega (arith, index-shaped)

pub slice_bounds-entry-end : goal.slice_bounds-entry-end
slice_bounds-entry-end c = omega (arith, key-few)

pub slice_bounds-lay_block-end : goal.slice_bounds-lay_block-end
slice_bounds-lay_block-end c = search entry-words

pub lay_block-requires : goal.lay_block-requires
lay_block-requires c = (search bounded-held, search entry-small, omega (arith, index-shaped))

pub returns : goal.returns
returns c = search (indexed-by, bounded-back)
