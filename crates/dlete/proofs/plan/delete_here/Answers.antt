-- The buffer tells whether the block is left empty; then the path for the key must lead to it.
use mathlib.Core.Path.{refl, sym}
use borrow.Author.Tests.{eq-eqb, ne_eqb}
use Rattle.numbers.proofs.Exits.{handed}
use Rattle.rules.specs.Dlete.{delete_after, empty_at}
use Rattle.lookup.proofs.Fits.{path-fits}
use Rattle.dlete.proofs.Planned.{buffer-some}
use Rattle.dlete.proofs.plan.delete_here.Goals as goal

pub records_in-requires : goal.records_in-requires
records_in-requires c = buffer-some _ _ _ c.args.v.fits

pub returns-then-records_in-ne1 : goal.returns-then-records_in-ne1
unfolding delete_after
returns-then-records_in-ne1 c = rw (← c.records_in.ensures, ne_eqb _ _ c.if-records_in-ne1.true) refl

pub returns-in_err-w : goal.returns-in_err-w
unfolding delete_after empty_at
returns-in_err-w c =
    handed _ _ _ c.from_residual.ensures.1 (rw (← c.records_in.ensures, eq-eqb _ _ c.if-records_in-ne1.false, ← c.in_err-w.ensures) refl)

pub returns-in_err-require : goal.returns-in_err-require
unfolding delete_after empty_at
returns-in_err-require c =
    handed _ _ _ c.from_residual-in_err-require.ensures.1
    (rw (← c.records_in.ensures, eq-eqb _ _ c.if-records_in-ne1.false, ← c.in_ok-w.ensures, ← c.in_err-require.ensures) refl)

pub empty_deed-requires : goal.empty_deed-requires
empty_deed-requires c = path-fits _ _ _ _ _ (sym c.in_ok-w.ensures)

pub returns : goal.returns
unfolding delete_after empty_at
returns c =
    rw (← c.records_in.ensures, eq-eqb _ _ c.if-records_in-ne1.false, ← c.in_ok-w.ensures, ← c.in_ok-require.ensures) c.empty_deed.ensures
