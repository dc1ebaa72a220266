-- The count with the record, and the number for words 1 and 2 of the master as they stand.
use mathlib.Core.Path.{refl}
use native.Mathlib.Omega.{arith}
use Rattle.numbers.proofs.Exits.{handed}
use Rattle.rules.specs.Xtend.{last_room}
use Rattle.xtend.proofs.Rows.{master-long}
use Rattle.xtend.proofs.Ways.{count_next}
use Rattle.xtend.proofs.plan.last_room.Goals as goal

pub word_at-head-requires : goal.word_at-head-requires
word_at-head-requires c = let l = master-long _ _ _ c.args.v.fits in omega arith

pub overflow_add-n : goal.overflow_add-n
overflow_add-n c = search count_next

pub bounds-v-2 : goal.bounds-v-2
bounds-v-2 c = let l = master-long _ _ _ c.args.v.fits in omega arith

pub returns-in_err-number : goal.returns-in_err-number
unfolding last_room
returns-in_err-number c =
    handed _ _ _ c.from_residual.ensures.1 (rw (← c.count_at-n.ensures, ← c.word_at-head.ensures, ← c.in_err-number.ensures) refl)

pub returns : goal.returns
unfolding last_room
returns c = rw (← c.count_at-n.ensures, ← c.word_at-head.ensures, ← c.in_ok-number.ensures) refl
