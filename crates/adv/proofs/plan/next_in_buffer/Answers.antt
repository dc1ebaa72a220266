-- The test is made where a block is buffered; every other answer is the definition's.
use mathlib.Core.Path.{refl}
use Rattle.numbers.proofs.Exits.{handed}
use Rattle.rules.specs.Adv.{next_in_buffer}
use Rattle.lookup.proofs.Fits.{held_fits, test-and}
use Rattle.adv.proofs.plan.next_in_buffer.Goals as goal

pub returns-in_err-on_buffer : goal.returns-in_err-on_buffer
unfolding next_in_buffer
returns-in_err-on_buffer c = handed _ _ _ c.from_residual.ensures.1 (rw (test-and _ _, ← c.in_err-on_buffer.ensures) refl)

pub spans-requires : goal.spans-requires
spans-requires c = (held_fits _ _ c.in_ok-on_buffer.ensures c.if-branch.true, search)

pub returns-then-branch : goal.returns-then-branch
unfolding next_in_buffer
returns-then-branch c = rw (test-and _ _, ← c.in_ok-on_buffer.ensures, c.if-branch.true, c.spans.ensures) refl

pub returns-else-branch : goal.returns-else-branch
unfolding next_in_buffer
returns-else-branch c = rw (test-and _ _, ← c.in_ok-on_buffer.ensures, c.if-branch.false) refl
