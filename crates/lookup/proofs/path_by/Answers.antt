-- The master's entry by `entry_of` on the file, and then the way under it.
use mathlib.Core.Path.{refl, sym}
use Rattle.numbers.proofs.Exits.{handed}
use Rattle.rules.specs.Paths.{path_by}
use Rattle.lookup.proofs.Sizes.{master-entries}
use Rattle.lookup.proofs.Fits.{entry-fits}
use Rattle.lookup.proofs.path_by.Goals as goal

pub entry_of-requires : goal.entry_of-requires
entry_of-requires c = search master-entries

pub returns-in_err-m : goal.returns-in_err-m
unfolding path_by
returns-in_err-m c = handed _ _ _ c.from_residual.ensures.1 (rw (← c.master_shape.ensures, ← c.in_err-m.ensures) refl)

pub path_under-requires : goal.path_under-requires
path_under-requires c = let e = entry-fits _ _ _ _ _ _ _ (sym c.in_ok-m.ensures) in (search, (e.block-least, e.block-most))

pub returns : goal.returns
unfolding path_by
returns c = rw (← c.master_shape.ensures, ← c.in_ok-m.ensures) c.path_under.ensures
