-- The end record lies in the buffer, and the record takes its place once the new block is written.
use native.Mathlib.Omega.{arith}
use Rattle.drum.proofs.Forms.{detail-shaped}
use Rattle.xtend.proofs.Rows.{records-some, last_within, last-times, last-start, last_end, last-bytes, last-small, last-place}
use Rattle.xtend.proofs.Started.{swapped-by}
use Rattle.xtend.proofs.deeds.swap_end.Goals as goal

pub records_in-i-requires : goal.records_in-i-requires
records_in-i-requires c = omega (arith, records-some)

pub overflow_mul-from : goal.overflow_mul-from
overflow_mul-from c = search last-times

pub overflow_add-from : goal.overflow_add-from
overflow_add-from c = search last-start

pub overflow_add-end : goal.overflow_add-end
overflow_add-end c = search last_end

pub overflow_add-h : goal.overflow_add-h
overflow_add-h c = omega (arith, detail-shaped)

pub offset_bounds-buffer-from : goal.offset_bounds-buffer-from
offset_bounds-buffer-from c = search last-bytes

pub slice_bounds-lay_block-end : goal.slice_bounds-lay_block-end
slice_bounds-lay_block-end c = search last_within

pub lay_block-requires : goal.lay_block-requires
lay_block-requires c =
    (record { good = search; file-is = search; least = search; most = search }, search last-small, omega (arith, detail-shaped))

pub replace_row-requires : goal.replace_row-requires
replace_row-requires c = (search last-place, omega arith)

pub write_block-requires : goal.write_block-requires
write_block-requires c = (record { good = search; file-is = omega arith; buffer-is = omega arith }, (search, search))

pub returns : goal.returns
returns c = search swapped-by
