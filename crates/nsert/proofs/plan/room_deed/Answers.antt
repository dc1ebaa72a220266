-- The count is word 0 of the current text; the number is good or bad.
use mathlib.Core.Path.{refl}
use native.Mathlib.Omega.{arith}
use Rattle.numbers.proofs.Exits.{handed}
use Rattle.rules.specs.Nsert.{room_deed}
use Rattle.free.proofs.Granting.{master-some}
use Rattle.nsert.proofs.Planning.{text-some, count_next}
use Rattle.nsert.proofs.plan.room_deed.Goals as goal

pub records_in-n-requires : goal.records_in-n-requires
records_in-n-requires c = search text-some

pub word_at-head-requires : goal.word_at-head-requires
word_at-head-requires c = let m = master-some _ _ _ c.args.v.fits in omega arith

pub overflow_add-n : goal.overflow_add-n
overflow_add-n c = search count_next

pub bounds-v-2 : goal.bounds-v-2
bounds-v-2 c = let m = master-some _ _ _ c.args.v.fits in omega arith

pub returns-in_err-number : goal.returns-in_err-number
unfolding room_deed
returns-in_err-number c =
    handed _ _ _ c.from_residual.ensures.1
    (rw (← c.text_of.ensures, ← c.records_in-n.ensures, ← c.word_at-head.ensures, ← c.in_err-number.ensures) refl)

pub returns : goal.returns
unfolding room_deed
returns c = rw (← c.text_of.ensures, ← c.records_in-n.ensures, ← c.word_at-head.ensures, ← c.in_ok-number.ensures) refl
