-- The block's number and its mark decide.
use mathlib.Core.Path.{refl}
use lib.ListN.{length}
use Rattle.layout.specs.Inspect.{marked}
use Rattle.layout.proofs.CodeFlags.{stopped, by-test, by-range}
use Rattle.layout.proofs.marking.mark.Goals as goal

pub returns-in_err-within : goal.returns-in_err-within
unfolding marked
returns-in_err-within c = stopped _ _ _ _ c.from_residual.ensures.1 (rw (by-range 1 (length c.args.marks.now) c.args.b _ c.in_err-within.ensures.step) refl)

pub returns-in_err-require : goal.returns-in_err-require
unfolding marked
returns-in_err-require c =
    stopped _ _ _ _ c.from_residual-in_err-require.ensures.1
    (rw (← c.in_ok-within.ensures.step, by-test _ _ c.in_err-require.ensures) refl)

pub returns : goal.returns
unfolding marked
returns c = rw (← c.in_ok-within.ensures.step, ← c.in_ok-require.ensures) refl
