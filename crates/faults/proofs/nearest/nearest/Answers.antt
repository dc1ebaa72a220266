-- `nearest::nearest` meets its contract.
use borrow.Author.Tests.{lt-ltb, le-ltb}
use Rattle.faults.specs.Nearest.{meant, nearest}
use Rattle.faults.proofs.nearest.nearest.Goals as goal

pub returns-then-saturating_sub-gt1 : goal.returns-then-saturating_sub-gt1
unfolding nearest meant
returns-then-saturating_sub-gt1 c = rw (← c.nearest_near-near.ensures, ← c.saturating_sub.ensures, lt-ltb _ _ c.if-saturating_sub-gt1.true)

pub returns : goal.returns
unfolding nearest meant
returns c = rw (← c.nearest_near-near.ensures, ← c.saturating_sub.ensures, le-ltb _ _ c.if-saturating_sub-gt1.false)
