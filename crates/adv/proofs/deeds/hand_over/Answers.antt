-- The row is in the workspace, and its key decides number and position.
use mathlib.Core.Path.{◌≡◌}
use mathlib.Core.Bool.{cond}
use native.Mathlib.Omega.{arith}
use Rattle.numbers.specs.Numbers.{done, at_end}
use Rattle.drum.specs.Params.{detail_shape}
use Rattle.adv.proofs.Given.{hands}
use Rattle.adv.proofs.deeds.hand_over.Goals.{then-end, else-end}
use Rattle.adv.proofs.deeds.hand_over.Goals as goal

pub overflow_mul-i : goal.overflow_mul-i
unfolding detail_shape
overflow_mul-i c = omega arith

pub overflow_add-i : goal.overflow_add-i
unfolding detail_shape
overflow_add-i c = omega arith

pub all_are-end-requires : goal.all_are-end-requires
unfolding detail_shape
all_are-end-requires c = omega arith

pub returns : goal.returns
returns c =
    let n : c.if-end.number ≡ cond c.all_are-end.result at_end done =
    elim c.if-end.branch [ then-end w ↦ rw w.if-end.true w.number-is | else-end w ↦ rw w.if-end.false w.number-is ] in
    (search (hands, n), search)
