-- `salvage::walk::take_records` meets its contract: what is done and what is left come to what all the records come to.
use mathlib.Core.Path.{refl}
use Rattle.salvage.proofs.Walks.{text-some, marked-least, block-small, desc-good, count-few, rows-within, records-spare, records-first}
use Rattle.salvage.proofs.Walks.{rows-after, key-lent, spare-one, record-spare, record-desc, record-turn, records-end}
use Rattle.salvage.proofs.walk.take_records.Goals as goal

pub count_in-i-end-requires : goal.count_in-i-end-requires
count_in-i-end-requires c = (search text-some, search marked-least)

pub loop-i-init : goal.loop-i-init
loop-i-init c = (
  search count-few,
  search block-small,
  search desc-good,
  refl,
  refl,
  search rows-within,
  search records-spare,
  search records-first,
)

pub one_record-next-requires : goal.one_record-next-requires
one_record-next-requires c = (search spare-one, search key-lent)

pub loop-i-preserved : goal.loop-i-preserved
loop-i-preserved c = (
  search,
  search,
  search,
  refl,
  search record-desc,
  search rows-after,
  search record-spare,
  search record-turn,
)

pub returns : goal.returns
returns c = search records-end
