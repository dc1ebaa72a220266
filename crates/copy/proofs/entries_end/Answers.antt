-- `copy::entries_end` meets its contract.
use native.Mathlib.Omega.{arith}
use Rattle.copy.proofs.Laid.{fit-some, key-few, entries_fit, entries-add, end_is}
use Rattle.copy.proofs.entries_end.Goals as goal

pub word_at-sections-requires : goal.word_at-sections-requires
word_at-sections-requires c = search fit-some

pub overflow_add-result : goal.overflow_add-result
overflow_add-result c = omega (arith, key-few)

pub overflow_mul-result : goal.overflow_mul-result
overflow_mul-result c = search entries_fit

pub overflow_add-result-2 : goal.overflow_add-result-2
overflow_add-result-2 c = search entries-add

pub returns : goal.returns
returns c = search end_is
