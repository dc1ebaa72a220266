-- The way, the test of the buffer's block, and the search at the end of the way.
use mathlib.Core.Path.{refl, sym}
use Rattle.numbers.proofs.Exits.{handed}
use Rattle.rules.specs.Lookup.{look_outside}
use Rattle.lookup.proofs.Fits.{path-fits}
use Rattle.lookup.proofs.look_outside.Goals as goal

pub returns-in_err-w : goal.returns-in_err-w
unfolding look_outside
returns-in_err-w c = handed _ _ _ c.from_residual.ensures.1 (rw (← c.in_err-w.ensures) refl)

pub returns-in_err-require : goal.returns-in_err-require
unfolding look_outside
returns-in_err-require c =
    handed _ _ _ c.from_residual-in_err-require.ensures.1 (rw (← c.in_ok-w.ensures, ← c.can_flush.ensures, ← c.in_err-require.ensures) refl)

pub look_at-requires : goal.look_at-requires
look_at-requires c = (search, path-fits _ _ _ _ _ (sym c.in_ok-w.ensures))

pub returns : goal.returns
unfolding look_outside
returns c = rw (← c.in_ok-w.ensures, ← c.can_flush.ensures, ← c.in_ok-require.ensures, c.look_at.ensures) refl
