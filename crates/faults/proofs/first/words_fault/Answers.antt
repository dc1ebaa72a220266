-- `first::words_fault` meets its contract.
use Rattle.faults.proofs.Cases.{first-odd, first_count, first_above}
use Rattle.faults.proofs.first.words_fault.Goals as goal

pub returns-in-Some : goal.returns-in-Some
returns-in-Some c = first-odd _ _ c.in-Some.is

pub returns-then-w-ne6 : goal.returns-then-w-ne6
returns-then-w-ne6 c = search first_count

pub returns : goal.returns
returns c = search first_above
