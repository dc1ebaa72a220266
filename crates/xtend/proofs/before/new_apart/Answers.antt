-- One block or two are tested, or none.
use mathlib.Core.Path.{refl}
use mathlib.Core.Logic.{inl, inr}
use Rattle.rules.specs.Xtend.{new_apart}
use Rattle.xtend.proofs.before.new_apart.Goals as goal

pub returns-in-Stop : goal.returns-in-Stop
unfolding new_apart
returns-in-Stop c = elim c.in-Stop.is [ inl e ↦ rw e.2 refl | inr e ↦ rw e.3 refl ]

pub returns-in-Split : goal.returns-in-Split
unfolding new_apart
returns-in-Split c = rw (c.in-Split.is, ← c.is_apart.ensures) refl

pub returns-then-is_apart : goal.returns-then-is_apart
unfolding new_apart
returns-then-is_apart c = rw (c.in-Both.is, ← c.is_apart-in-Both.ensures, c.if-is_apart.true, ← c.is_apart-then-is_apart.ensures) refl

pub returns-else-is_apart : goal.returns-else-is_apart
unfolding new_apart
returns-else-is_apart c = rw (c.in-Both.is, ← c.is_apart-in-Both.ensures, c.if-is_apart.false) refl
