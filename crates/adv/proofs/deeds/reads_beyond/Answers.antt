-- Three blocks are read, or four.
use borrow.Author.Tests.{eq-eqb, ne_eqb}
use Rattle.rules.specs.Adv.{adv_reads}
use Rattle.adv.proofs.deeds.reads_beyond.Goals as goal

pub returns-then-x-w : goal.returns-then-x-w
unfolding adv_reads
returns-then-x-w c = simp (eq-eqb _ _ c.if-x-w.true)

pub returns-else-x-w : goal.returns-else-x-w
unfolding adv_reads
returns-else-x-w c = simp (ne_eqb _ _ c.if-x-w.false)
