-- FI is I less SPACE, 0 where SPACE is the larger.
use mathlib.Core.Path.{refl}
use Rattle.drum.specs.Params.{FI}
use Rattle.drum.proofs.Description.fi.Goals as goal

pub returns : goal.returns
unfolding FI
returns c = rw (c.saturating_sub.ensures, c.i.ensures) refl
