-- `numbers_fault` meets its contract.
use Rattle.faults.proofs.Cases.{numbers-odd, numbers-count, numbers-above}
use Rattle.faults.proofs.numbers_fault.Goals as goal

pub returns-in-Some : goal.returns-in-Some
returns-in-Some c = numbers-odd _ _ _ _ c.in-Some.is

pub returns-then-behind-takes : goal.returns-then-behind-takes
returns-then-behind-takes c = search numbers-count

pub returns : goal.returns
returns c = search numbers-above
