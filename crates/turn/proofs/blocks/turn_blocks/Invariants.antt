-- What is left to turn gives the whole, and the blocks not yet turned are as they were.
use mathlib.Core.Path.{◌≡◌}
use Prim.Native.Nat.{◌+◌, ◌-◌, ◌≤◌}
use lib.ListN.{length, drop}
use Rattle.drum.specs.Params.{start}
use Rattle.layout.proofs.TurnedSteps.{left_to_turn}
use Rattle.turn.specs.Fits.{blocks_turned}
use Rattle.turn.proofs.blocks.turn_blocks.Given as goal

abbrev pub invariant-loop-b : goal.invariant-loop-b
invariant-loop-b l =
    (l.b ≤ length l.marks)
    × (blocks_turned l.p l.marks l.initial.file ≡ left_to_turn l.p l.file l.marks l.b)
    × (drop (start l.p (l.b + 1)) l.file ≡ drop (start l.p (l.b + 1)) l.initial.file)
    × (length l.file ≡ length l.initial.file)

abbrev pub decreases-loop-b : goal.decreases-loop-b
decreases-loop-b l = length l.marks - l.b
