-- The step fits what the act requires, and the act is the rest of the steps; a refusal is the plan's own.
use mathlib.Core.Path.{refl}
use Rattle.rules.specs.Adv.{adv_steps}
use Rattle.adv.proofs.Fits.{step_fits}
use Rattle.reading.proofs.steps.adv.Goals as goal

pub act_adv-requires : goal.act_adv-requires
act_adv-requires c = (search, search, step_fits _ _ _ _ _ c.in-Ok.ensures)

pub returns-in-Ok : goal.returns-in-Ok
unfolding adv_steps
returns-in-Ok c = rw (← c.in-Ok.ensures) c.act_adv.ensures

pub returns-in-Err : goal.returns-in-Err
unfolding adv_steps
returns-in-Err c = rw (c.refused.ensures, c.requires.0, ← c.in-Err.ensures) refl
