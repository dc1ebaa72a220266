-- The way, and what is done at its end.
use mathlib.Core.Path.{refl}
use Rattle.numbers.proofs.Exits.{handed}
use Rattle.rules.specs.Xtend.{extend_deed}
use Rattle.xtend.proofs.Ways.{found-fits}
use Rattle.xtend.proofs.plan.plan_xtend.Goals as goal

pub returns-in_err-way : goal.returns-in_err-way
unfolding extend_deed
returns-in_err-way c = handed _ _ _ c.from_residual.ensures.1 (rw (← c.in_err-way.ensures) refl)

pub extend_at-requires : goal.extend_at-requires
extend_at-requires c = (search, found-fits _ _ _ _ _ _ c.in_ok-way.ensures)

pub returns : goal.returns
unfolding extend_deed
returns c = rw (← c.in_ok-way.ensures) c.extend_at.ensures
