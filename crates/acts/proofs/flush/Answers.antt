-- A flagged buffer is the one transfer of the list, written; an unflagged one is no transfer.
use borrow.Author.Tests.{not-false}
use Rattle.acts.proofs.Carried.{unflagged-count, unflagged-file, flagged-count, flagged-file}
use Rattle.acts.proofs.flush.Goals as goal

pub returns-then-not-at : goal.returns-then-not-at
returns-then-not-at c = (search unflagged-count, search unflagged-file)

pub write_block-requires : goal.write_block-requires
write_block-requires c = (search, c.requires.1 (not-false _ c.if-not-at.false))

pub returns : goal.returns
returns c = (search flagged-count, search flagged-file)
