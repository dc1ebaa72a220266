-- Whether a block is buffered, and what its last key is, decides where the way begins.
use mathlib.Core.Path.{refl}
use Rattle.numbers.proofs.Exits.{handed}
use Rattle.rules.specs.Xtend.{last_way}
use Rattle.lookup.proofs.Fits.{test-and}
use Rattle.xtend.proofs.Ways.{held-records}
use Rattle.xtend.proofs.last.last_way.Goals as goal
use Rattle.xtend.proofs.last.last_way.Goals.{else-branch-via-then-branch+else-ends_in_ones, else-branch-via-else-branch}

pub returns-in_err-on_buffer : goal.returns-in_err-on_buffer
unfolding last_way
returns-in_err-on_buffer c = handed _ _ _ c.from_residual.ensures.1 (rw (test-and _ _, ← c.in_err-on_buffer.ensures) refl)

pub ends_in_ones-requires : goal.ends_in_ones-requires
ends_in_ones-requires c = held-records _ _ _ _ _ c.in_ok-on_buffer.ensures c.if-branch.true c.args.v.fits

pub returns-then-ends_in_ones : goal.returns-then-ends_in_ones
unfolding last_way
returns-then-ends_in_ones c = rw (test-and _ _, ← c.in_ok-on_buffer.ensures, c.if-branch.true, ← c.if-ends_in_ones.ensures) refl

pub returns : goal.returns
unfolding last_way
returns c =
    elim c.else-branch.branch [
      | else-branch-via-then-branch+else-ends_in_ones w ↦
          rw (test-and _ _, ← c.in_ok-on_buffer.ensures, w.if-branch.true, ← w.if-ends_in_ones.ensures) c.last_outside.ensures
      | else-branch-via-else-branch w ↦ rw (test-and _ _, ← c.in_ok-on_buffer.ensures, w.if-branch.false) c.last_outside.ensures
    ]
