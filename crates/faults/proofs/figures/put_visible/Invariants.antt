-- `figures::put_visible` meets its contract.
use mathlib.Core.Path.{◌≡◌}
use lib.ListN.{length}
use Rattle.words.specs.Words.{part, put}
use Rattle.faults.specs.Sentences.{visibles}
use Rattle.faults.proofs.figures.put_visible.Given as goal

abbrev pub invariant-loop-i : goal.invariant-loop-i
invariant-loop-i l = (l.out ≡ put l.initial.out l.at (visibles (part 0 l.i l.word))) × (length l.out ≡ length l.initial.out)
