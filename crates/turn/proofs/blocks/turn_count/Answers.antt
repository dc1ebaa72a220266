-- `turn::blocks::turn_count` meets its contract: word 0 of the block is set.
use Rattle.turn.proofs.Changes.{start-lies, count_small, count_fits, count-turned}
use Rattle.turn.proofs.blocks.turn_count.Goals as goal

pub word_at-requires : goal.word_at-requires
word_at-requires c = search start-lies

pub overflow_add-tag : goal.overflow_add-tag
overflow_add-tag c = search count_fits

pub set_word-requires : goal.set_word-requires
set_word-requires c = (search start-lies, search count_small)

pub returns : goal.returns
returns c = search count-turned
