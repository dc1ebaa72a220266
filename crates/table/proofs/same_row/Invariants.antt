-- A row passed differs from the key in one word.
use mathlib.Core.Path.{◌≡◌}
use Prim.Native.Nat.{◌+◌, ◌<◌}
use lib.ListN.{get_or}
use Rattle.words.specs.Words.{part}
use Rattle.table.specs.declared.Want.TheVariants.{Equal}
use Rattle.table.proofs.Turns.{Passed}
use Rattle.table.proofs.same_row.Given as goal

abbrev pub invariant-loop-i : goal.invariant-loop-i
invariant-loop-i l = (l.m < l.h.width) × (l.word ≡ get_or l.key (l.at + l.m) 0) × Passed Equal l.h (part l.at l.h.width l.key) l.t l.i
