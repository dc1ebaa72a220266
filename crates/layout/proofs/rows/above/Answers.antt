-- A key that none comes before, or two keys compared.
use borrow.Author.Tests.{eq-eqb, ne_eqb}
use Rattle.layout.specs.Inspect.{key_held, above}
use Rattle.layout.proofs.rows.above.Goals as goal

pub returns-then-low-eq0 : goal.returns-then-low-eq0
unfolding above
returns-then-low-eq0 c = simp (eq-eqb _ _ c.if-low-eq0.true)

pub returns-else-low-eq0 : goal.returns-else-low-eq0
unfolding above key_held
returns-else-low-eq0 c = simp (ne_eqb _ _ c.if-low-eq0.false) c.key_below.ensures
