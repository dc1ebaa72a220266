-- The counts of the two blocks, in their current texts, decide.
use borrow.Author.Tests.{lt-ltb, le-ltb}
use Rattle.rules.specs.Nsert.{insert_at}
use Rattle.nsert.proofs.Planning.{text-some}
use Rattle.nsert.proofs.plan.insert_at.Goals as goal

pub records_in-requires : goal.records_in-requires
records_in-requires c = search text-some

pub returns-then-records_in-d : goal.returns-then-records_in-d
unfolding insert_at
returns-then-records_in-d c =
    rw (← c.text_of.ensures, ← c.records_in.ensures, ← c.d.ensures, lt-ltb _ _ c.if-records_in-d.true) c.room_deed.ensures

pub entries_in-requires : goal.entries_in-requires
entries_in-requires c = search text-some

pub returns-then-entries_in-i : goal.returns-then-entries_in-i
unfolding insert_at
returns-then-entries_in-i c =
    rw (
      ← c.text_of.ensures,
      ← c.records_in.ensures,
      ← c.d.ensures,
      le-ltb _ _ c.if-records_in-d.false,
      ← c.text_of-2.ensures,
      ← c.entries_in.ensures,
      ← c.i.ensures,
      lt-ltb _ _ c.if-entries_in-i.true,
    ) c.split_deed.ensures

pub returns : goal.returns
unfolding insert_at
returns c =
    rw (
      ← c.text_of.ensures,
      ← c.records_in.ensures,
      ← c.d.ensures,
      le-ltb _ _ c.if-records_in-d.false,
      ← c.text_of-2.ensures,
      ← c.entries_in.ensures,
      ← c.i.ensures,
      le-ltb _ _ c.if-entries_in-i.false,
    ) c.both_deed.ensures
