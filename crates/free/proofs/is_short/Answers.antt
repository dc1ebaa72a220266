-- The master has a word 0.
use native.Mathlib.Omega.{arith}
use Rattle.free.proofs.Granting.{master-some}
use Rattle.free.proofs.is_short.Goals as goal

pub word_at-requires : goal.word_at-requires
word_at-requires c = let m = master-some _ _ _ c.args.v.fits in omega arith
