-- The path, and the bound before its block.
use mathlib.Core.Path.{refl}
use Rattle.numbers.proofs.Exits.{handed}
use Rattle.rules.specs.Xtend.{alone_deed}
use Rattle.xtend.proofs.Ways.{to-last}
use Rattle.xtend.proofs.plan.alone_deed.Goals as goal

pub returns-in_err-w : goal.returns-in_err-w
unfolding alone_deed
returns-in_err-w c = handed _ _ _ c.from_residual.ensures.1 (rw (← c.in_err-w.ensures) refl)

pub not_above_before-requires : goal.not_above_before-requires
not_above_before-requires c = (search, to-last _ _ _ _ _ _ c.in_ok-w.ensures c.requires.1)

pub returns-then-not_above_before : goal.returns-then-not_above_before
unfolding alone_deed
returns-then-not_above_before c = rw (← c.in_ok-w.ensures, ← c.not_above_before.ensures, c.if-not_above_before.true) c.look_deed.ensures

pub returns : goal.returns
unfolding alone_deed
returns c = rw (← c.in_ok-w.ensures, ← c.not_above_before.ensures, c.if-not_above_before.false) c.last_room.ensures
