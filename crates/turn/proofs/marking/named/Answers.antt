-- `turn::marking::named` meets its contract: the entry lies in the master.
use native.Mathlib.Omega.{arith}
use Rattle.turn.proofs.Marks.{key-few, entry-product, entry-start, entry_place, entry-lies, entry-names}
use Rattle.turn.proofs.marking.named.Goals as goal

pub overflow_add-p : goal.overflow_add-p
overflow_add-p c = omega (arith, key-few)

pub overflow_mul-i : goal.overflow_mul-i
overflow_mul-i c = search entry-product

pub overflow_add-i : goal.overflow_add-i
overflow_add-i c = search entry-start

pub overflow_add-i-2 : goal.overflow_add-i-2
overflow_add-i-2 c = search entry_place

pub word_at-requires : goal.word_at-requires
word_at-requires c = search entry-lies

pub returns : goal.returns
returns c = search entry-names
