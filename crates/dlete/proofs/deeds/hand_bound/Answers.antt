-- An entry that is not the last leaves the text as it is; the key of the last one is moved down to the one before.
use native.Mathlib.Omega.{arith}
use Rattle.dlete.proofs.Gone.{entry-text, entry-text-most, key-end, key-before, row-before-fits, key-before-fits, not_last, last-handed}
use Rattle.dlete.proofs.deeds.hand_bound.Goals as goal

pub overflow_add-j : goal.overflow_add-j
overflow_add-j c = omega (arith, key-end, entry-text-most)

pub overflow_add-k : goal.overflow_add-k
overflow_add-k c = omega (arith, key-end, entry-text-most)

pub entries_in-requires : goal.entries_in-requires
entries_in-requires c = omega (arith, entry-text)

pub overflow_mul-j : goal.overflow_mul-j
overflow_mul-j c = omega (arith, key-end, entry-text-most)

pub overflow_add-j-then-j-entries_in : goal.overflow_add-j-then-j-entries_in
overflow_add-j-then-j-entries_in c = omega (arith, key-end, entry-text-most)

pub overflow_add-k-then-j-entries_in : goal.overflow_add-k-then-j-entries_in
overflow_add-k-then-j-entries_in c = omega (arith, key-end, entry-text-most)

pub overflow_mul-j-then-j-entries_in : goal.overflow_mul-j-then-j-entries_in
overflow_mul-j-then-j-entries_in c = search row-before-fits

pub overflow_add-j-then-j-entries_in-2 : goal.overflow_add-j-then-j-entries_in-2
overflow_add-j-then-j-entries_in-2 c = search key-before-fits

pub move_words-requires : goal.move_words-requires
move_words-requires c = let b = key-before _ _ _ c.requires in (omega (arith, key-end), omega (arith, key-end))

pub returns-then-j-entries_in : goal.returns-then-j-entries_in
returns-then-j-entries_in c = search last-handed

pub returns-else-j-entries_in : goal.returns-else-j-entries_in
returns-else-j-entries_in c = search not_last
