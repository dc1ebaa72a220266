-- Each case of the lookup is a case of the definition.
use mathlib.Core.Path.{refl}
use Rattle.numbers.proofs.Exits.{handed}
use Rattle.rules.specs.Nsert.{insert_deed, insert_after}
use Rattle.nsert.proofs.Planning.{missing-path}
use Rattle.nsert.proofs.plan.plan_nsert.Goals as goal

pub returns-in_err-way : goal.returns-in_err-way
unfolding insert_deed
returns-in_err-way c = handed _ _ _ c.from_residual.ensures.1 (rw (← c.in_err-way.ensures) refl)

pub place_of-requires : goal.place_of-requires
place_of-requires c = (search, missing-path _ _ _ _ _ _ _ _ c.in_ok-way.ensures c.in-Missing.is)

pub insert_at-requires : goal.insert_at-requires
insert_at-requires c = missing-path _ _ _ _ _ _ _ _ c.in_ok-way.ensures c.in-Missing.is

pub returns-in-Found : goal.returns-in-Found
unfolding insert_deed insert_after
returns-in-Found c = rw (← c.in_ok-way.ensures, c.in-Found.is) refl

pub returns-in-Missing : goal.returns-in-Missing
unfolding insert_deed insert_after
returns-in-Missing c = rw (← c.in_ok-way.ensures, c.in-Missing.is, ← c.place_of.ensures) c.insert_at.ensures
