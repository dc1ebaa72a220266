-- The flag, and then the count and the row of the block at the end of the way, decide the step.
use mathlib.Core.Path.{refl}
use borrow.Author.Tests.{lt-ltb, le-ltb}
use Rattle.numbers.proofs.Exits.{handed}
use Rattle.rules.specs.Adv.{adv_at}
use Rattle.lookup.proofs.Sizes.{text-long, text-some, text-count}
use Rattle.adv.proofs.plan.adv_at.Goals as goal

pub returns-in_err-require : goal.returns-in_err-require
unfolding adv_at
returns-in_err-require c = handed _ _ _ c.from_residual.ensures.1 (rw (← c.can_flush.ensures, ← c.in_err-require.ensures) refl)

pub next_row-i-requires : goal.next_row-i-requires
next_row-i-requires c = (search text-long, search text-count, search)

pub records_in-requires : goal.records_in-requires
records_in-requires c = search text-some

pub returns-then-i-records_in : goal.returns-then-i-records_in
unfolding adv_at
returns-then-i-records_in c =
    let l = lt-ltb _ _ c.if-i-records_in.true in
    rw (← c.can_flush.ensures, ← c.in_ok-require.ensures, ← c.text_of-t.ensures, ← c.next_row-i.ensures, ← c.records_in.ensures, l) refl

pub returns : goal.returns
unfolding adv_at
returns c =
    let l = le-ltb _ _ c.if-i-records_in.false in
    rw (← c.can_flush.ensures, ← c.in_ok-require.ensures, ← c.text_of-t.ensures, ← c.next_row-i.ensures, ← c.records_in.ensures, l)
    c.adv_beyond.ensures
