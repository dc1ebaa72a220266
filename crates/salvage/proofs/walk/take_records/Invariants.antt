-- `salvage::walk::take_records` meets its contract: what is done and what is left come to what all the records come to.
use mathlib.Core.Path.{◌≡◌}
use mathlib.Core.Bool.{true}
use Prim.Native.Nat.{◌+◌, ◌*◌, ◌-◌, ◌≤◌}
use lib.ListN.{length}
use Rattle.drum.specs.Params.{good_params}
use Rattle.salvage.specs.Met.{places, records_in, rows_from}
use Rattle.salvage.specs.Salvage.{run}
use Rattle.salvage.specs.Promise.{walking, Spare}
use Rattle.salvage.proofs.walk.take_records.Given as goal

abbrev pub invariant-loop-i : goal.invariant-loop-i
invariant-loop-i l =
    (l.i-end ≤ 4096)
    × (l.b ≤ 262143)
    × (good_params l.initial.next.session.desc ≡ true)
    × (l.wpr ≡ l.initial.next.session.desc.wpr)
    × (l.next.session.desc ≡ l.initial.next.session.desc)
    × (1 + l.i * l.wpr + (l.i-end - l.i) * l.wpr ≤ length l.text)
    × Spare l.next (l.i-end - l.i) (length l.initial.report)
    × (run (walking l.initial.next l.initial.file l.initial.buffer l.initial.report) (places l.b 1 (records_in l.initial.next.session.desc l.text))
    ≡ run (walking l.next l.file l.buffer l.report) (places l.b (l.i + 1) (rows_from l.wpr (1 + l.i * l.wpr) (l.i-end - l.i) l.text)))
