-- `capi::nasturakh_most_sections` meets its contract: there are no parameters to plan by, or the space of the names.
use Rattle.demands.specs.Space.{most_sections}
use Rattle.capi.proofs.MostSpace.{space-none, space-is}
use Rattle.capi.proofs.space.nasturakh_most_sections.Goals as goal

pub returns-in_default : goal.returns-in_default
returns-in_default c = search (space-none most_sections, c.in_default.ensures.no)

pub returns : goal.returns
returns c = search (space-is most_sections, c.in-Some.ensures.yes, c.in-Some.ensures.same)
