-- The buffer's test decides, if position is set.
use mathlib.Core.Path.{refl}
use Rattle.numbers.proofs.Exits.{handed}
use Rattle.rules.specs.Adv.{adv_step}
use Rattle.adv.proofs.Fits.{here-most}
use Rattle.adv.proofs.plan.plan_adv.Goals.{else-placed-via-then-placed+in_ok-next_in_buffer+else-branch, else-placed-via-else-placed}
use Rattle.adv.proofs.plan.plan_adv.Goals as goal

pub returns-in_err-next_in_buffer : goal.returns-in_err-next_in_buffer
unfolding adv_step
returns-in_err-next_in_buffer c =
    handed _ _ _ c.from_residual.ensures.1 (rw (c.if-placed.true, ← c.in_err-next_in_buffer.ensures) refl)

pub next_row-requires : goal.next_row-requires
next_row-requires c = (search, here-most _ _ _ c.in_ok-next_in_buffer.ensures c.if-branch.true, search)

pub returns-then-branch : goal.returns-then-branch
unfolding adv_step
returns-then-branch c = rw (c.if-placed.true, ← c.in_ok-next_in_buffer.ensures, c.if-branch.true, ← c.next_row.ensures) refl

pub returns : goal.returns
unfolding adv_step
returns c =
    elim c.else-placed.branch [
      | else-placed-via-then-placed+in_ok-next_in_buffer+else-branch w ↦
          rw (w.if-placed.true, ← w.in_ok-next_in_buffer.ensures, w.if-branch.false) (rw w.if-placed.true at c.adv_outside.ensures)
      | else-placed-via-else-placed w ↦ rw w.if-placed.false (rw w.if-placed.false at c.adv_outside.ensures)
    ]
