-- The first form does not say it; in the second word 0 is the kind.
use borrow.Author.Tests.{ne_eqb}
use Rattle.drum.proofs.Forms.{free-first, free-read}
use Rattle.drum.proofs.kinds.is_free.Goals as goal

pub returns-then-p-ne-SECOND : goal.returns-then-p-ne-SECOND
returns-then-p-ne-SECOND c = simp (ne_eqb _ _ c.if-p-ne-SECOND.true, free-first c.args.p c.args.t.now c.if-p-ne-SECOND.true)

pub returns-else-p-ne-SECOND : goal.returns-else-p-ne-SECOND
returns-else-p-ne-SECOND c = search free-read
