-- Each case of the lookup is a case of the definition; a path that was found fits.
use mathlib.Core.Path.{refl}
use Rattle.numbers.proofs.Exits.{handed}
use Rattle.rules.specs.declared.Way.TheVariants.{By}
use Rattle.rules.specs.declared.Look.TheVariants.{Found}
use Rattle.rules.specs.Dlete.{delete_after, delete_deed, empty_at}
use Rattle.lookup.proofs.Fits.{look-fits}
use Rattle.dlete.proofs.plan.plan_dlete.Goals as goal

pub returns-in_err-w : goal.returns-in_err-w
unfolding delete_deed
returns-in_err-w c = handed _ _ _ c.from_residual.ensures.1 (rw (← c.in_err-w.ensures) refl)

pub delete_by-requires : goal.delete_by-requires
delete_by-requires c =
    let q = c.in-Found-By-default in
    (look-fits _ _ _ (Found (By q.w) q.i) (rw (q.is, q.field-0-is) at c.in_ok-w.ensures)).0.0

pub returns-in-Missing : goal.returns-in-Missing
unfolding delete_deed delete_after
returns-in-Missing c = rw (← c.in_ok-w.ensures, c.in-Missing.is) refl

pub returns-in-Found-Here-default : goal.returns-in-Found-Here-default
unfolding delete_deed
returns-in-Found-Here-default c = let q = c.in-Found-Here-default in rw (← c.in_ok-w.ensures, q.is, q.field-0-is) c.delete_here.ensures

pub returns-in-Found-By-default : goal.returns-in-Found-By-default
unfolding delete_deed delete_after empty_at
returns-in-Found-By-default c = let q = c.in-Found-By-default in rw (← c.in_ok-w.ensures, q.is, q.field-0-is) c.delete_by.ensures
