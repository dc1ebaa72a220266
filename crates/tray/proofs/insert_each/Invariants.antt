-- `tray::insert_each` meets its contract: what it has so far and what is left come to what the whole tray comes to.
use mathlib.Core.Path.{◌≡◌}
use mathlib.Core.List.{[]}
use Prim.Native.Nat.{◌+◌, ◌*◌, ◌≤◌}
use lib.ListN.{length}
use Rattle.numbers.specs.Numbers.{done}
use Rattle.searchfile.specs.Promise.{given}
use Rattle.tray.specs.Tray.{count_of, records_at, inserts}
use Rattle.tray.specs.Promise.{counted_tray}
use Rattle.tray.proofs.Turns.{Reached}
use Rattle.tray.proofs.insert_each.Given as goal

abbrev pub invariant-loop-stored : goal.invariant-loop-stored
invariant-loop-stored l =
    (l.stored-end ≤ 4294967295)
    × (1 + l.stored-end * l.wpr ≡ length l.tray)
    × (l.done.stored ≡ l.stored)
    × (l.done.transfers ≤ 16 * l.stored)
    × Reached
    (counted_tray (inserts (given l.fn.session l.initial.file l.initial.buffer []) (records_at (count_of l.tray) l.wpr 1 l.tray) done))
    l.done.session l.done.stored l.done.number l.done.transfers l.file l.buffer l.stored-end l.wpr (1 + l.stored * l.wpr) l.tray
