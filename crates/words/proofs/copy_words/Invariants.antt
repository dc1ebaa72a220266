-- `words::copy_words` meets its contract.
use mathlib.Core.Path.{◌≡◌}
use lib.ListN.{length}
use Rattle.words.specs.Words.{part, put}
use Rattle.words.proofs.copy_words.Given as goal

abbrev pub invariant-loop-i : goal.invariant-loop-i
invariant-loop-i l = (l.dst ≡ put l.initial.dst l.at (part l.from l.i l.src)) × (length l.dst ≡ length l.initial.dst)
