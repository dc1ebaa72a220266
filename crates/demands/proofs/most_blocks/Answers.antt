-- The most blocks of names put in by NSERT alone.
use Rattle.demands.proofs.Planning.{names-blocks}
use Rattle.demands.proofs.most_blocks.Goals as goal

pub returns : goal.returns
returns c = search names-blocks
