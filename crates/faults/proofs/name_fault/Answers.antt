-- `name_fault` meets its contract.
use Rattle.faults.proofs.Cases.{name-empty, name-view, name-other}
use Rattle.faults.proofs.name_fault.Goals as goal

pub returns-then-w-eq0 : goal.returns-then-w-eq0
returns-then-w-eq0 c = search name-empty

pub returns-then-is_name : goal.returns-then-is_name
returns-then-is_name c = search name-view

pub returns : goal.returns
returns c = search name-other
