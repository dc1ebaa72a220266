-- `numbers::is_accepted` meets its contract: of the two tests the first decides, or the second.
use borrow.Author.Tests.{eq-eqb, ne_eqb}
use Rattle.numbers.proofs.is_accepted.Goals as goal

pub returns-then-number-eq-DONE : goal.returns-then-number-eq-DONE
returns-then-number-eq-DONE c = simp (eq-eqb _ _ c.if-number-eq-DONE.true)

pub returns-else-number-eq-DONE : goal.returns-else-number-eq-DONE
returns-else-number-eq-DONE c = simp (ne_eqb _ _ c.if-number-eq-DONE.false)
