-- `turn::blocks::turn_block` meets its contract: the mark says which text.
use Rattle.turn.proofs.Changes.{index-turns, detail-turns, link-turns, none-turns}
use Rattle.turn.proofs.blocks.turn_block.Goals as goal

pub returns-in-3 : goal.returns-in-3
returns-in-3 c = search index-turns

pub returns-in-1 : goal.returns-in-1
returns-in-1 c = search detail-turns

pub returns-in-2 : goal.returns-in-2
returns-in-2 c = search link-turns

pub returns-in_default : goal.returns-in_default
returns-in_default c = search none-turns
