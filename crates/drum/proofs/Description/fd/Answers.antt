-- FD is D less SPACE, 0 where SPACE is the larger.
use mathlib.Core.Path.{refl}
use Rattle.drum.specs.Params.{FD}
use Rattle.drum.proofs.Description.fd.Goals as goal

pub returns : goal.returns
unfolding FD
returns c = rw (c.saturating_sub.ensures, c.d.ensures) refl
