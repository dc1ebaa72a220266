-- The search is the definition's, and none is made while position is none.
use native.Mathlib.Omega.{arith}
use Rattle.lookup.proofs.Sizes.{block-wide, rows-within, width-within, key-there}
use Rattle.adv.proofs.Rows.{row-above}
use Rattle.adv.proofs.plan.next_row.Goals as goal

pub records_in-n-requires : goal.records_in-n-requires
records_in-n-requires c =
    let w = block-wide _ c.args.v.fits.good in
    omega arith

pub find-requires : goal.find-requires
find-requires c = (search rows-within, search width-within, search key-there)

pub returns : goal.returns
returns c = search row-above
