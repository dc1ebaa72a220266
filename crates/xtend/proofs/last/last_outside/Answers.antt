-- The path, the key of the last record in its current text, and the test of the buffer's block.
use mathlib.Core.Path.{refl}
use Rattle.numbers.proofs.Exits.{handed}
use Rattle.rules.specs.Xtend.{last_outside}
use Rattle.xtend.proofs.Ways.{by-last, path-records}
use Rattle.xtend.proofs.last.last_outside.Goals as goal

pub returns-in_err-w : goal.returns-in_err-w
unfolding last_outside
returns-in_err-w c = handed _ _ _ c.from_residual.ensures.1 (rw (← c.in_err-w.ensures) refl)

pub text_of-requires : goal.text_of-requires
text_of-requires c = let g = by-last _ _ _ _ _ c.in_ok-w.ensures in (g.detail-least, g.detail-most)

pub ends_in_ones-requires : goal.ends_in_ones-requires
ends_in_ones-requires c = path-records _ _ _ _ _ _ c.text_of.ensures (by-last _ _ _ _ _ c.in_ok-w.ensures) c.args.v.fits

pub returns-in_err-require : goal.returns-in_err-require
unfolding last_outside
returns-in_err-require c =
    handed _ _ _ c.from_residual-in_err-require.ensures.1
    (rw (← c.in_ok-w.ensures, ← c.text_of.ensures, ← c.ends_in_ones.ensures, ← c.in_err-require.ensures) refl)

pub returns-in_err-require-2 : goal.returns-in_err-require-2
unfolding last_outside
returns-in_err-require-2 c =
    handed _ _ _ c.from_residual-in_err-require-2.ensures.1
    (rw (
      ← c.in_ok-w.ensures,
      ← c.text_of.ensures,
      ← c.ends_in_ones.ensures,
      ← c.in_ok-require.ensures,
      ← c.can_flush.ensures,
      ← c.in_err-require-2.ensures,
    ) refl)

pub returns : goal.returns
unfolding last_outside
returns c =
    rw (
      ← c.in_ok-w.ensures,
      ← c.text_of.ensures,
      ← c.ends_in_ones.ensures,
      ← c.in_ok-require.ensures,
      ← c.can_flush.ensures,
      ← c.in_ok-require-2.ensures,
    ) refl
