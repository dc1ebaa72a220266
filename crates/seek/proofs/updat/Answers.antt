-- What the lookup answers fits what the act requires, and the act is the rest of the steps; a refusal is the steps' own.
use mathlib.Core.Path.{refl}
use Rattle.drum.proofs.Sizes.{key-within}
use Rattle.rules.specs.Seek.{updat_steps}
use Rattle.lookup.proofs.Fits.{look-fits}
use Rattle.seek.proofs.updat.Goals as goal

pub look-requires : goal.look-requires
look-requires c = search key-within

pub act_updat-requires : goal.act_updat-requires
act_updat-requires c = (search, search, look-fits _ _ _ _ c.in-Ok.ensures)

pub returns-in-Ok : goal.returns-in-Ok
unfolding updat_steps
returns-in-Ok c = rw (← c.in-Ok.ensures) c.act_updat.ensures

pub returns-in-Err : goal.returns-in-Err
unfolding updat_steps
returns-in-Err c = rw (c.refused.ensures, ← c.in-Err.ensures) refl
