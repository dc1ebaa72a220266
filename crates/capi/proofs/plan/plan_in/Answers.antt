-- `capi::plan::plan_in` meets its contract: word by word.
use Rattle.capi.specs.Plan.{plan_in}
use borrow.Author.Rules.{rules}
use Rattle.capi.proofs.plan.plan_in.Goals as goal

pub returns : goal.returns
unfolding plan_in
returns c = search rules
