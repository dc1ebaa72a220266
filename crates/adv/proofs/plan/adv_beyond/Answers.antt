-- The next path, and then the count and the row of its block, decide the step.
use mathlib.Core.Path.{refl}
use Rattle.numbers.proofs.Exits.{handed}
use Rattle.rules.specs.Adv.{adv_beyond}
use Rattle.lookup.proofs.Sizes.{text-long, text-some, text-count}
use Rattle.adv.proofs.Fits.{next_fits}
use Rattle.adv.proofs.plan.adv_beyond.Goals as goal

pub returns-in_err-x : goal.returns-in_err-x
unfolding adv_beyond
returns-in_err-x c = handed _ _ _ c.from_residual.ensures.1 (rw (← c.in_err-x.ensures) refl)

pub text_of-t-requires : goal.text_of-t-requires
text_of-t-requires c = let h = next_fits _ _ _ c.in_ok-x.ensures in (h.detail-least, h.detail-most)

pub next_row-i-requires : goal.next_row-i-requires
next_row-i-requires c = let h = next_fits _ _ _ c.in_ok-x.ensures in (search (text-long, h), search (text-count, h), search)

pub records_in-requires : goal.records_in-requires
records_in-requires c = let h = next_fits _ _ _ c.in_ok-x.ensures in search (text-some, h)

pub returns-in_err-require : goal.returns-in_err-require
unfolding adv_beyond
returns-in_err-require c =
    handed _ _ _ c.from_residual-in_err-require.ensures.1
    (rw (← c.in_ok-x.ensures, ← c.text_of-t.ensures, ← c.next_row-i.ensures, ← c.records_in.ensures, ← c.in_err-require.ensures) refl)

pub returns : goal.returns
unfolding adv_beyond
returns c =
    rw (← c.in_ok-x.ensures, ← c.text_of-t.ensures, ← c.next_row-i.ensures, ← c.records_in.ensures, ← c.in_ok-require.ensures) refl
