-- What is left of the entries gives what all of them give.
use native.Mathlib.Omega.{arith}
use Rattle.layout.proofs.CodeFlags.{stopped}
use Rattle.layout.proofs.CodeSizes.{nth-row}
use Rattle.layout.proofs.CodeSteps.{through-start, through-done, through-stop, through-next}
use Rattle.layout.proofs.blocks.through.Goals as goal

pub loop-i-init : goal.loop-i-init
loop-i-init g c = ((λ k z h a b. a), (λ walk h. through-start walk _ _ _ _ _))

pub returns-in_err-step : goal.returns-in_err-step
returns-in_err-step g c = λ walk h.
    stopped _ _ _ _ c.from_residual.ensures.1
    (through-stop walk _ _ _ _ _ _ _ (c.loop-i.invariant.1 walk h) c.loop-i-test.true (h _ _ _ _ _ c.in_err-step.ensures))

pub loop-i-preserved : goal.loop-i-preserved
loop-i-preserved g c = (
  (λ k z h a b. let r = nth-row c.loop-i.i c.args.n c.args.stride c.loop-i-test.true in omega arith),
  (λ walk h. through-next walk _ _ _ _ _ _ _ (c.loop-i.invariant.1 walk h) c.loop-i-test.true _ (h _ _ _ _ _ c.in_ok-step.ensures)),
)

pub returns : goal.returns
returns g c = λ walk h. through-done walk _ _ _ _ _ _ _ (c.loop-i.invariant.1 walk h) c.loop-i-test.false
