-- The bound, the last key and its data decide, in this order.
use mathlib.Core.Path.{refl}
use Rattle.words.specs.Keys.{is_ones}
use Rattle.layout.specs.Inspect.{key_held, end_ok}
use Rattle.layout.proofs.rows.end_ok.Goals as goal

pub returns-then-not-all_are : goal.returns-then-not-all_are
unfolding end_ok is_ones key_held
returns-then-not-all_are c = rw (← c.all_are.ensures, c.if-not-all_are.true) refl

pub returns-then-all_are : goal.returns-then-all_are
unfolding end_ok is_ones key_held
returns-then-all_are c =
    rw (← c.all_are.ensures, c.if-not-all_are.false, ← c.all_are-else-not-all_are.ensures, c.if-all_are.true) c.all_are-then-all_are.ensures

pub returns-else-all_are : goal.returns-else-all_are
unfolding end_ok is_ones key_held
returns-else-all_are c = rw (← c.all_are.ensures, c.if-not-all_are.false, ← c.all_are-else-not-all_are.ensures, c.if-all_are.false) refl
