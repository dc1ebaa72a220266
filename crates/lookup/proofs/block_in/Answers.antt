-- The word behind the key of row i.
use borrow.Author.Rules.{rules}
use Rattle.table.specs.Tables.{block_in}
use Rattle.lookup.proofs.block_in.Goals as goal

pub returns : goal.returns
unfolding block_in
returns c = search rules
