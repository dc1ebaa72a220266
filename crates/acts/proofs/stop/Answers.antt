-- The fields are those of `reach`.
use Rattle.acts.proofs.Carried.{stop-told}
use Rattle.acts.proofs.stop.Goals as goal

pub returns : goal.returns
returns c = search stop-told
