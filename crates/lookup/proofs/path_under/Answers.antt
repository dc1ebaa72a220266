-- The index block's entry by `entry_of` on its current text, and then the way by it.
use mathlib.Core.Path.{refl, sym}
use Rattle.numbers.proofs.Exits.{handed}
use Rattle.rules.specs.Paths.{path_under}
use Rattle.lookup.proofs.Sizes.{index-entries}
use Rattle.lookup.proofs.Fits.{entry-fits}
use Rattle.lookup.proofs.path_under.Goals as goal

pub entry_of-requires : goal.entry_of-requires
entry_of-requires c = search index-entries

pub returns-in_err-e : goal.returns-in_err-e
unfolding path_under
returns-in_err-e c =
    handed _ _ _ c.from_residual.ensures.1 (rw (← c.text_of-t.ensures, ← c.index_shape.ensures, ← c.i.ensures, ← c.in_err-e.ensures) refl)

pub path_at-requires : goal.path_at-requires
path_at-requires c = let e = entry-fits _ _ _ _ _ _ _ (sym c.in_ok-e.ensures) in (e.block-least, e.block-most)

pub returns : goal.returns
unfolding path_under
returns c = rw (← c.text_of-t.ensures, ← c.index_shape.ensures, ← c.i.ensures, ← c.in_ok-e.ensures) c.path_at.ensures
