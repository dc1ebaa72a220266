-- `salvage::walk::one_record` meets its contract: the record is left, or put in and settled.
use Rattle.salvage.proofs.Steps.{one_left, one-done, line_after, spare-sum}
use Rattle.salvage.proofs.walk.one_record.Goals as goal

pub returns-then-all_are : goal.returns-then-all_are
returns-then-all_are c = search one_left

pub insert-tried-requires : goal.insert-tried-requires
insert-tried-requires c = search spare-sum

pub settle-requires : goal.settle-requires
settle-requires c = search line_after

pub returns : goal.returns
returns c = search one-done
