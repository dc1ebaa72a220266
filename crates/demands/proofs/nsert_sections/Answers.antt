-- The most sections of names put in by NSERT alone.
use native.Mathlib.Omega.{arith}
use Rattle.demands.proofs.Planning.{names-sections}
use Rattle.demands.proofs.nsert_sections.Goals as goal

pub returns : goal.returns
returns c = (search names-sections, omega arith)
