-- The most detail blocks put in use.
use native.Mathlib.Omega.{arith}
use Rattle.demands.proofs.Planning.{details-by}
use Rattle.demands.proofs.details_of.Goals as goal

pub returns : goal.returns
returns c = (search details-by, omega arith)
