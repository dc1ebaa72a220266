-- The entry is renamed where it lies, and the row before it put in.
use Rattle.split.proofs.Entered.{name-end, entry-long, named-held, named-takes, entered-in}
use Rattle.split.proofs.enter_in.Goals as goal

pub set_name_in-requires : goal.set_name_in-requires
set_name_in-requires c = (search, search name-end, search)

pub insert_in-requires : goal.insert_in-requires
insert_in-requires c =
    let named = c.set_name_in.ensures in
    let shape = c.index_shape-h.ensures in
    let enters = c.requires.0 in
    (search named-held, search (named-takes, named, shape, enters), search entry-long)

pub returns : goal.returns
returns c = search entered-in
