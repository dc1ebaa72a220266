-- The calls' shares, and that they are few enough for a word of 64 bits.
use Rattle.demands.specs.Planned.{plan_shares}
use borrow.Author.Rules.{rules}
use Rattle.demands.proofs.shares_of.Goals as goal

pub returns : goal.returns
unfolding plan_shares
returns c = search rules
