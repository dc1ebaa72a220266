-- One comparison, with the key of that record.
use native.Mathlib.Omega.{arith}
use Rattle.xtend.proofs.Rows.{records-some, back-key, back-times, back-start, above-told}
use Rattle.xtend.proofs.last.is_above.Goals as goal

pub records_in-n-requires : goal.records_in-n-requires
records_in-n-requires c = omega (arith, records-some)

pub overflow_mul-n : goal.overflow_mul-n
overflow_mul-n c = search back-times

pub overflow_add-n : goal.overflow_add-n
overflow_add-n c = search back-start

pub key_below-requires : goal.key_below-requires
key_below-requires c = (search back-key, omega arith)

pub returns : goal.returns
returns c = search above-told
