-- The master, whose sections the blocks leave as they were.
use Rattle.xtend.proofs.Sections.{section-room, sectioned-by}
use Rattle.xtend.proofs.index.start_section.Goals as goal

pub extend-requires : goal.extend-requires
extend-requires c = search section-room

pub returns : goal.returns
returns c = search sectioned-by
