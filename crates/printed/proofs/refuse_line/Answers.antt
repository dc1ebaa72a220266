-- `printed::refuse_line` meets its contract: the name found in what was kept decides.
use Rattle.std.proofs.Common.{true, false}
use Rattle.printed.specs.Output.{refusal}
use Rattle.printed.proofs.refuse_line.Goals as goal

pub returns-in-Some-clause-out_value : goal.returns-in-Some-clause-out_value
unfolding refusal
returns-in-Some-clause-out_value c = rw (← c.in-Some.ensures) (λ j. record { over = false; out = c.put_refused.ensures.0 j; at = c.put_refused.ensures.1 j })

pub returns-in-None-clause-out_value : goal.returns-in-None-clause-out_value
unfolding refusal
returns-in-None-clause-out_value c = rw (← c.in-None.ensures) (λ j. record { over = true; out = c.bad_line.ensures.0 j; at = c.bad_line.ensures.1 j })
