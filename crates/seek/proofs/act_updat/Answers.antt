-- A record found is replaced in the block reached; else the lookup is all.
use native.Mathlib.Omega.{arith}
use Rattle.drum.proofs.Sizes.{key-in-row}
use Rattle.seek.proofs.Found.{found-way, found_part, whole, updat-found, updat-missing}
use Rattle.seek.proofs.act_updat.Goals as goal

pub reach-here-requires : goal.reach-here-requires
reach-here-requires c = (search, search found-way)

pub replace_row-requires : goal.replace_row-requires
replace_row-requires c = (search (found_part, whole), omega (arith, key-in-row))

pub stop-requires : goal.stop-requires
stop-requires c = (search, rw c.in-Missing.is at c.requires.2)

pub returns-in-Found : goal.returns-in-Found
returns-in-Found c = search updat-found

pub returns-in-Missing : goal.returns-in-Missing
returns-in-Missing c = search updat-missing
