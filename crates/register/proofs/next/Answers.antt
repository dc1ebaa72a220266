-- `register::next` meets its contract: 020007 where a record has no data word, else the routine's call.
use Rattle.register.proofs.Guards.{next-guard, state-none, state-some}
use Rattle.register.proofs.next.Goals as goal

pub returns-then-p : goal.returns-then-p
returns-then-p c = search (state-none next-guard)

pub returns : goal.returns
returns c = search (state-some next-guard)
