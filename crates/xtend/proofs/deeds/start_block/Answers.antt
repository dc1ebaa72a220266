-- The file made ready, and then the two blocks written.
use Rattle.xtend.proofs.Started.{end-ready, started-told}
use Rattle.xtend.proofs.deeds.start_block.Goals as goal

pub swap_end-requires : goal.swap_end-requires
swap_end-requires c = (search end-ready, (search, search), (search, search))

pub returns : goal.returns
returns c = (search, search started-told)
