-- The entry is renamed, and the row before it put in; the count is that of the table before.
use native.Mathlib.Omega.{arith}
use Rattle.split.proofs.Entered.{entry-end, named-room, named-place, named-most, entered_by}
use Rattle.split.proofs.enter.Goals as goal

pub rename-requires : goal.rename-requires
rename-requires c = (omega (arith, entry-end), search)

pub insert_row-requires : goal.insert_row-requires
insert_row-requires c = (search, search named-room, search named-place, search named-most, omega arith)

pub returns : goal.returns
returns c = search entered_by
