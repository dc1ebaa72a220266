-- `salvage::walk::every_block` meets its contract: what is done and what is left come to what all blocks come to.
use mathlib.Core.Path.{◌≡◌}
use Prim.Native.Nat.{◌+◌, ◌*◌, ◌-◌, ◌≤◌}
use lib.ListN.{length}
use Rattle.drum.specs.Params.{D}
use Rattle.salvage.specs.Met.{met, met_from}
use Rattle.salvage.specs.Salvage.{run}
use Rattle.salvage.specs.Promise.{walking, Spare, Copied}
use Rattle.salvage.proofs.walk.every_block.Given as goal

abbrev pub invariant-loop-b : goal.invariant-loop-b
invariant-loop-b l =
    Copied l.initial.next l.copy
    × (l.b-end ≡ l.initial.next.session.desc.n + 1)
    × (1 ≤ l.b)
    × (l.next.session.desc ≡ l.initial.next.session.desc)
    × Spare l.next ((l.b-end - l.b) * (1 + D l.initial.next.session.desc)) (length l.initial.report)
    × (run (walking l.initial.next l.initial.file l.initial.buffer l.initial.report) (met l.initial.next.session.desc l.copy)
    ≡ run (walking l.next l.file l.buffer l.report) (met_from l.initial.next.session.desc l.copy l.b (l.b-end - l.b)))
