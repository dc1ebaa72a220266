-- `capi::nasturakh_most_blocks` meets its contract: there are no parameters to plan by, or the space of the names.
use Rattle.demands.specs.Space.{most_blocks}
use Rattle.capi.proofs.MostSpace.{space-none, space-is}
use Rattle.capi.proofs.space.nasturakh_most_blocks.Goals as goal

pub returns-in_default : goal.returns-in_default
returns-in_default c = search (space-none most_blocks, c.in_default.ensures.no)

pub returns : goal.returns
returns c = search (space-is most_blocks, c.in-Some.ensures.yes, c.in-Some.ensures.same)
