-- A block that was brought came by its path; the last entries name the buffered block, or are bad.
use mathlib.Core.Path.{refl}
use Rattle.numbers.proofs.Exits.{handed}
use Rattle.rules.specs.Xtend.{last_of}
use Rattle.xtend.proofs.last.last_of.Goals as goal

pub returns-in-By : goal.returns-in-By
unfolding last_of
returns-in-By c = rw c.in-By.is refl

pub returns-in_err-w-in-Here : goal.returns-in_err-w-in-Here
unfolding last_of
returns-in_err-w-in-Here c = handed _ _ _ c.from_residual.ensures.1 (rw (c.in-Here.is, ← c.in_err-w-in-Here.ensures) refl)

pub returns-in_err-require-in-Here : goal.returns-in_err-require-in-Here
unfolding last_of
returns-in_err-require-in-Here c =
    handed _ _ _ c.from_residual-in_err-require-in-Here.ensures.1 (rw (c.in-Here.is, ← c.in_ok-w-in-Here.ensures, ← c.in_err-require-in-Here.ensures) refl)

pub returns-in_ok-require-in-Here : goal.returns-in_ok-require-in-Here
unfolding last_of
returns-in_ok-require-in-Here c = rw (c.in-Here.is, ← c.in_ok-w-in-Here.ensures, ← c.in_ok-require-in-Here.ensures) refl
