-- `salvage::finish` meets its contract.
use Rattle.salvage.proofs.Ends.{close-fits, close-ends}
use Rattle.salvage.proofs.finish.Goals as goal

pub overflow_add-result : goal.overflow_add-result
overflow_add-result c = search close-fits

pub returns : goal.returns
returns c = search close-ends
