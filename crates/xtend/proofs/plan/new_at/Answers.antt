-- The index block's count tells which deed it is.
use borrow.Author.Tests.{lt-ltb, le-ltb}
use Rattle.rules.specs.Xtend.{new_at}
use Rattle.lookup.proofs.Sizes.{text-some}
use Rattle.xtend.proofs.plan.new_at.Goals as goal

pub entries_in-requires : goal.entries_in-requires
entries_in-requires c = search text-some

pub returns-then-entries_in-fi : goal.returns-then-entries_in-fi
unfolding new_at
returns-then-entries_in-fi c =
    rw (← c.text_of.ensures, ← c.entries_in.ensures, ← c.fi.ensures, lt-ltb _ _ c.if-entries_in-fi.true) c.start_deed.ensures

pub returns : goal.returns
unfolding new_at
returns c =
    rw (← c.text_of.ensures, ← c.entries_in.ensures, ← c.fi.ensures, le-ltb _ _ c.if-entries_in-fi.false) c.section_deed.ensures
