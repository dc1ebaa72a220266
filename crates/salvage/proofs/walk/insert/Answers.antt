-- `salvage::walk::insert` meets its contract.
use Rattle.salvage.proofs.Steps.{sum_fits, insert-told}
use Rattle.salvage.proofs.walk.insert.Goals as goal

pub overflow_add-result : goal.overflow_add-result
overflow_add-result c = search sum_fits

pub returns : goal.returns
returns c = search insert-told
