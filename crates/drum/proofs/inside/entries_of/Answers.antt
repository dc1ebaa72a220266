-- The first word of the block less its tag is its count.
use native.Mathlib.Omega.{arith}
use Rattle.drum.proofs.Lent.{lies-start, first-entries}
use Rattle.drum.proofs.inside.entries_of.Goals as goal

pub word_at-requires : goal.word_at-requires
word_at-requires c = omega (arith, lies-start)

pub returns : goal.returns
returns c = search first-entries
