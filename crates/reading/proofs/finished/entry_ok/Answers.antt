-- The block that the entry names, and then its count.
use Rattle.reading.proofs.Order.{other_block, this-block, named-least, named-most, word-inside, word_fits}
use Rattle.reading.proofs.finished.entry_ok.Goals as goal

pub overflow_add-e : goal.overflow_add-e
overflow_add-e c = search word_fits

pub word_at-requires : goal.word_at-requires
word_at-requires c = search word-inside

pub holds_fd-requires : goal.holds_fd-requires
holds_fd-requires c = (search, (search named-least, search named-most))

pub returns-then-word_at-b : goal.returns-then-word_at-b
returns-then-word_at-b c = this-block _ _ _ _ _ _ c.word_at.ensures _ c.holds_fd.ensures c.if-word_at-b.true

pub returns-else-word_at-b : goal.returns-else-word_at-b
returns-else-word_at-b c = other_block _ _ _ _ _ _ c.word_at.ensures c.if-word_at-b.false
