-- The blocks named so far are marked.
use mathlib.Core.Path.{◌≡◌}
use lib.ListN.{length}
use Rattle.layout.specs.Turned.{index_marked}
use Rattle.turn.proofs.marking.mark_indexes.Given as goal

abbrev pub invariant-loop-i : goal.invariant-loop-i
invariant-loop-i l = (l.marks ≡ index_marked l.p l.f l.i l.initial.marks) × (length l.marks ≡ length l.initial.marks)
