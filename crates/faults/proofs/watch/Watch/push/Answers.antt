-- `Watch::push` meets its contract.
use Rattle.faults.proofs.Cases.{seen-blank, seen-letter}
use Rattle.faults.proofs.watch.Watch.push.Goals as goal

pub returns-then-is_blank : goal.returns-then-is_blank
returns-then-is_blank c = search seen-blank

pub returns : goal.returns
returns c = search seen-letter
