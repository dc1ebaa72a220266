-- Each parameter that is within its range leads to the next.
use Rattle.faults.proofs.Ranges.{range-block, range-rest}
use Rattle.faults.proofs.first.range_fault.Goals as goal

pub returns-then-not-is_wpb : goal.returns-then-not-is_wpb
returns-then-not-is_wpb c = search range-block

pub returns : goal.returns
returns c = search range-rest
