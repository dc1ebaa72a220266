-- The new block is written before the old one, which makes no difference; the bound is read off the rows that stay.
use native.Mathlib.Omega.{arith}
use Rattle.split.proofs.Divided.{rows-most, shares-low, old-small, last_fits, last-place-fits, last-key-end, halved-told, entry-told}
use Rattle.split.proofs.Cut.divide.Goals as goal

pub low_count-low-requires : goal.low_count-low-requires
low_count-low-requires c = omega (arith, rows-most)

pub share_rows-requires : goal.share_rows-requires
share_rows-requires c = search shares-low

pub write_block-requires : goal.write_block-requires
write_block-requires c = (record { good = search; file-is = omega arith; buffer-is = omega arith }, (search, search))

pub overflow_mul-low : goal.overflow_mul-low
overflow_mul-low c = search last_fits

pub overflow_add-h : goal.overflow_add-h
overflow_add-h c = search last-place-fits

pub make_entry-requires : goal.make_entry-requires
make_entry-requires c = (search, search last-key-end, omega (arith, old-small))

pub returns : goal.returns
returns c = (search halved-told, search entry-told)
