-- The path, what it shows, and else the plan of NSERT.
use mathlib.Core.Path.{refl}
use Rattle.numbers.proofs.Exits.{handed}
use Rattle.rules.specs.Xtend.{look_deed}
use Rattle.xtend.proofs.Ways.{by-key}
use Rattle.xtend.proofs.before.look_deed.Goals as goal

pub returns-in_err-q : goal.returns-in_err-q
unfolding look_deed
returns-in_err-q c = handed _ _ _ c.from_residual.ensures.1 (rw (← c.in_err-q.ensures) refl)

pub not_behind-requires : goal.not_behind-requires
not_behind-requires c = (search, by-key _ _ _ _ _ _ c.in_ok-q.ensures)

pub returns-then-not_behind : goal.returns-then-not_behind
unfolding look_deed
returns-then-not_behind c = rw (← c.in_ok-q.ensures, ← c.not_behind.ensures, c.if-not_behind.true) refl

pub insert_before-requires : goal.insert_before-requires
insert_before-requires c = (search, by-key _ _ _ _ _ _ c.in_ok-q.ensures)

pub returns : goal.returns
unfolding look_deed
returns c = rw (← c.in_ok-q.ensures, ← c.not_behind.ensures, c.if-not_behind.false) c.insert_before.ensures
