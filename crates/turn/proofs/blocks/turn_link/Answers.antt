-- `turn::blocks::turn_link` meets its contract: the block is written as a free one of the other form.
use Rattle.turn.proofs.Changes.{link-lies, link_fits, link-small, link-turned, other-has}
use Rattle.turn.proofs.blocks.turn_link.Goals as goal

pub overflow_add-at : goal.overflow_add-at
overflow_add-at c = search link_fits

pub word_at-link-requires : goal.word_at-link-requires
word_at-link-requires c = search link-lies

pub free_block-requires : goal.free_block-requires
free_block-requires c = (search other-has, search link-small)

pub returns : goal.returns
returns c = search link-turned
