-- The plan tells what is needed to do it, and what is done is what the steps come to.
use mathlib.Core.Path.{refl}
use native.Mathlib.Omega.{arith}
use Rattle.rules.specs.XtendDone.{xtend_steps}
use Rattle.xtend.proofs.Planned.{plan-fits}
use Rattle.xtend.proofs.Ended.{key-within}
use Rattle.xtend.proofs.xtend.Goals as goal

pub plan_xtend-requires : goal.plan_xtend-requires
plan_xtend-requires c = omega (arith, key-within)

pub do_xtend-requires : goal.do_xtend-requires
do_xtend-requires c = (record { fit = c.requires.0; whole = c.requires.1 }, plan-fits _ _ _ _ _ _ _ c.in-Ok.ensures c.requires.0)

pub returns-in-Err : goal.returns-in-Err
unfolding xtend_steps
returns-in-Err c = rw (← c.in-Err.ensures, c.refused.ensures) refl

pub returns-in-Ok : goal.returns-in-Ok
unfolding xtend_steps
returns-in-Ok c = rw (← c.in-Ok.ensures) c.do_xtend.ensures
