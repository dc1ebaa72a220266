-- The block is reached or brought, and the record handed over.
use Rattle.drum.proofs.Sizes.{key-in-row}
use Rattle.adv.proofs.Given.{at-way, at_row, adv-at-told}
use Rattle.adv.proofs.Given.{beyond-least, beyond-most, current-least, current-most, beyond-row, adv-beyond-told, transfers-few}
use Rattle.adv.proofs.deeds.do_adv.Goals as goal

pub reach-here-requires : goal.reach-here-requires
reach-here-requires c = (search, search at-way)

pub hand_over-requires : goal.hand_over-requires
hand_over-requires c = (search at_row, search, search key-in-row)

pub bring-wrote-requires : goal.bring-wrote-requires
bring-wrote-requires c = (search, (λ on. (search current-least, search current-most)), (search beyond-least, search beyond-most))

pub overflow_add-here : goal.overflow_add-here
overflow_add-here c = search transfers-few

pub hand_over-requires-in-Beyond : goal.hand_over-requires-in-Beyond
hand_over-requires-in-Beyond c = (search beyond-row, search, search key-in-row)

pub returns-in-At : goal.returns-in-At
returns-in-At c = search adv-at-told

pub returns-in-Beyond : goal.returns-in-Beyond
returns-in-Beyond c = search adv-beyond-told
