-- The first path is the definition's, with position and without.
use mathlib.Core.Path.{refl, sym}
use Rattle.numbers.proofs.Exits.{handed}
use Rattle.rules.specs.Adv.{adv_outside}
use Rattle.lookup.proofs.Fits.{path-fits}
use Rattle.adv.proofs.Fits.{start}
use Rattle.adv.proofs.plan.adv_outside.Goals as goal

pub returns-in_err-w : goal.returns-in_err-w
unfolding adv_outside
returns-in_err-w c =
    handed _ _ _ c.from_residual.ensures.1 (rw (← start _ _ _ _ c.first_wanted-which.ensures, ← c.in_err-w.ensures) refl)

pub adv_at-requires : goal.adv_at-requires
adv_at-requires c = (search, path-fits _ _ _ _ _ (sym c.in_ok-w.ensures))

pub returns : goal.returns
unfolding adv_outside
returns c = rw (← start _ _ _ _ c.first_wanted-which.ensures, ← c.in_ok-w.ensures) c.adv_at.ensures
