-- Position is compared with the first key and the last.
use native.Mathlib.Omega.{arith}
use Rattle.drum.proofs.Sizes.{block-wide, key-short, last_within, last-span, last-place}
use Rattle.adv.proofs.Rows.{not-spans, spans-by}
use Rattle.adv.proofs.plan.spans.Goals as goal

pub records_in-last-requires : goal.records_in-last-requires
records_in-last-requires c =
    let w = block-wide _ c.args.v.fits.good in
    let l = c.args.v.fits.buffer-is in
    omega arith

pub key_below-requires : goal.key_below-requires
key_below-requires c =
    let s = key-short _ c.args.v.fits.good in
    let l = c.args.v.fits.buffer-is in
    omega arith

pub overflow_mul-last : goal.overflow_mul-last
overflow_mul-last c = search last-span

pub overflow_add-last : goal.overflow_add-last
overflow_add-last c = search last-place

pub key_below-requires-then-not-key_below : goal.key_below-requires-then-not-key_below
key_below-requires-then-not-key_below c = (omega arith, search last_within)

pub returns-then-not-key_below : goal.returns-then-not-key_below
returns-then-not-key_below c = search spans-by

pub returns-else-not-key_below : goal.returns-else-not-key_below
returns-else-not-key_below c = search not-spans
