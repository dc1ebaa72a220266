-- The last row's first words are the key.
use native.Mathlib.Omega.{arith}
use Rattle.xtend.proofs.Entries.{last_within, bounded-by}
use Rattle.xtend.proofs.index.set_bound.Goals as goal

pub replace_row-requires : goal.replace_row-requires
replace_row-requires c = (search last_within, omega arith)

pub returns : goal.returns
returns c = search bounded-by
