-- `tray::is_whole` meets its contract: no words, or as many as the first one says.
use Rattle.tray.proofs.Rows.{product-fits, length-fits, some-words, matches-empty, matches-some}
use Rattle.tray.proofs.is_whole.Goals as goal

pub word_at-requires : goal.word_at-requires
word_at-requires c = search some-words

pub overflow_mul-result : goal.overflow_mul-result
overflow_mul-result c = search product-fits

pub overflow_add-result : goal.overflow_add-result
overflow_add-result c = search length-fits

pub returns-then-not-is_empty : goal.returns-then-not-is_empty
returns-then-not-is_empty c = search (matches-some, some-words)

pub returns-else-not-is_empty : goal.returns-else-not-is_empty
returns-else-not-is_empty c = search matches-empty
