-- The block is reached or brought, and the record handed over.
use Rattle.drum.proofs.Sizes.{key-in-row}
use Rattle.adv.proofs.Given.{at-way, at_row, adv-at-told, beyond-least, beyond-most, beyond-row}
use Rattle.reading.proofs.Reached.{beyond-told}
use Rattle.reading.proofs.steps.act_adv.Goals as goal

pub reach-here-requires : goal.reach-here-requires
reach-here-requires c = (search, search at-way)

pub hand_over-requires : goal.hand_over-requires
hand_over-requires c = (search at_row, search, search key-in-row)

pub load-requires : goal.load-requires
load-requires c = (search, (search beyond-least, search beyond-most))

pub hand_over-requires-in-Beyond : goal.hand_over-requires-in-Beyond
hand_over-requires-in-Beyond c = (search beyond-row, search, search key-in-row)

pub returns-in-At : goal.returns-in-At
returns-in-At c = search adv-at-told

pub returns-in-Beyond : goal.returns-in-Beyond
returns-in-Beyond c = search beyond-told
