-- The entries of the master lie in the file.
use native.Mathlib.Omega.{arith}
use Rattle.layout.proofs.CodeSizes.{key-short, file-short}
use Rattle.layout.proofs.blocks.sections_held.Goals as goal

pub overflow_add-p : goal.overflow_add-p
overflow_add-p c = omega (arith, key-short)

pub through-requires-clause-fits : goal.through-requires-clause-fits
through-requires-clause-fits c = omega (arith, file-short)
