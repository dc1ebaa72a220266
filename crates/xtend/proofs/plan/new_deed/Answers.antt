-- The path to the last block.
use mathlib.Core.Path.{refl}
use Rattle.numbers.proofs.Exits.{handed}
use Rattle.rules.specs.Xtend.{new_deed}
use Rattle.xtend.proofs.Ways.{to-last}
use Rattle.xtend.proofs.plan.new_deed.Goals as goal

pub returns-in_err-w : goal.returns-in_err-w
unfolding new_deed
returns-in_err-w c = handed _ _ _ c.from_residual.ensures.1 (rw (← c.in_err-w.ensures) refl)

pub new_at-requires : goal.new_at-requires
new_at-requires c = to-last _ _ _ _ _ _ c.in_ok-w.ensures c.requires

pub returns : goal.returns
unfolding new_deed
returns c = rw (← c.in_ok-w.ensures, ← c.count_at.ensures) c.new_at.ensures
