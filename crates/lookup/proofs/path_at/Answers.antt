-- The two blocks differ, and the detail block's count, in its current text, is in range.
use mathlib.Core.Path.{refl}
use Rattle.numbers.proofs.Exits.{handed}
use Rattle.rules.specs.Paths.{path_at}
use Rattle.lookup.proofs.Sizes.{text-some}
use Rattle.lookup.proofs.path_at.Goals as goal

pub returns-in_err-require : goal.returns-in_err-require
unfolding path_at
returns-in_err-require c = handed _ _ _ c.from_residual.ensures.1 (rw (← c.in_err-require.ensures) refl)

pub records_in-requires : goal.records_in-requires
records_in-requires c = search text-some

pub returns-in_err-within : goal.returns-in_err-within
unfolding path_at
returns-in_err-within c =
    handed _ _ _ c.from_residual-in_err-within.ensures.1
    (rw (← c.in_ok-require.ensures, ← c.text_of-t.ensures, ← c.records_in.ensures, ← c.d.ensures, ← c.in_err-within.ensures.step) refl)

pub returns : goal.returns
unfolding path_at
returns c =
    rw (← c.in_ok-require.ensures, ← c.text_of-t.ensures, ← c.records_in.ensures, ← c.d.ensures, ← c.in_ok-within.ensures.step) refl
