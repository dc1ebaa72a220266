-- `salvage::salvage` meets its contract: a refusal, or the file built.
use Rattle.salvage.proofs.Ends.{call-refused, call-roomy, call-done}
use Rattle.salvage.proofs.salvage.Goals as goal

pub returns-then-not-is_roomy : goal.returns-then-not-is_roomy
returns-then-not-is_roomy c = search call-refused

pub build-requires : goal.build-requires
build-requires c = search call-roomy

pub returns : goal.returns
returns c = search call-done
