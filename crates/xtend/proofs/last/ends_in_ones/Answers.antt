-- The words of the last record's key are all 262143.
use native.Mathlib.Omega.{arith}
use Rattle.xtend.proofs.Rows.{records-some, last-key, last-times, last-start, ends-told}
use Rattle.xtend.proofs.last.ends_in_ones.Goals as goal

pub records_in-n-requires : goal.records_in-n-requires
records_in-n-requires c = omega (arith, records-some)

pub overflow_mul-n : goal.overflow_mul-n
overflow_mul-n c = search last-times

pub overflow_add-n : goal.overflow_add-n
overflow_add-n c = search last-start

pub all_are-requires : goal.all_are-requires
all_are-requires c = search last-key

pub returns : goal.returns
returns c = search ends-told
