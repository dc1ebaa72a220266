-- A word and an entry.
use Rattle.layout.proofs.CodeCreate.{laid-index}
use Rattle.layout.proofs.lay_index.Goals as goal

pub returns : goal.returns
returns c = search laid-index
