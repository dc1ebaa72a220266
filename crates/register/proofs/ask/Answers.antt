-- `register::ask` meets its contract: 020007 where a record has no data word, else the routine's call.
use Rattle.register.proofs.Guards.{ask-guard, state-none, state-some}
use Rattle.register.proofs.ask.Goals as goal

pub returns-then-p : goal.returns-then-p
returns-then-p c = search (state-none ask-guard)

pub returns : goal.returns
returns c = search (state-some ask-guard)
