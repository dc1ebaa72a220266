-- The key ONES, and the block behind it.
use Rattle.layout.proofs.CodeCreate.{entry-turn}
use Rattle.layout.proofs.lay_entry.Goals as goal

pub returns : goal.returns
returns c = search entry-turn
