-- The last block holds what it holds; any other is counted.
use native.Mathlib.Omega.{arith}
use Rattle.layout.proofs.CodeSizes.{block-wide}
use Rattle.reading.proofs.Order.{last-holds, other-holds}
use Rattle.reading.proofs.finished.holds_fd.Goals as goal

pub records_in-requires : goal.records_in-requires
records_in-requires c = omega (arith, block-wide)

pub returns-then-behind-eq0 : goal.returns-then-behind-eq0
returns-then-behind-eq0 c = search last-holds

pub returns-else-behind-eq0 : goal.returns-else-behind-eq0
returns-else-behind-eq0 c = search other-holds
