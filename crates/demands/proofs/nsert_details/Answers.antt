-- The most detail blocks of names put in by NSERT alone.
use native.Mathlib.Omega.{arith}
use Rattle.demands.proofs.Planning.{names-details}
use Rattle.demands.proofs.nsert_details.Goals as goal

pub returns : goal.returns
returns c = (search names-details, omega arith)
