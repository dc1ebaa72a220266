-- The count stays while the bound changes, so the entry goes behind the last row.
use native.Mathlib.Omega.{arith}
use Rattle.xtend.proofs.Entries.{key-most, stride_most, bounded-room, bounded-most, bounded-place, extended-by}
use Rattle.xtend.proofs.index.extend.Goals as goal

pub ones_entry-entry-requires : goal.ones_entry-entry-requires
ones_entry-entry-requires c = (omega (arith, key-most), search)

pub insert_row-requires : goal.insert_row-requires
insert_row-requires c = (search, search bounded-room, search bounded-place, search bounded-most, omega (arith, stride_most))

pub returns : goal.returns
returns c = search extended-by
