-- A row passed begins with the key's first word, and its next two are below the key's.
use Rattle.words.specs.Words.{part}
use Rattle.table.specs.Tables.{AllBelow}
use Rattle.table.proofs.low_after.Given as goal

abbrev pub invariant-loop-i : goal.invariant-loop-i
invariant-loop-i l = AllBelow l.h (part l.at l.h.width l.key) l.t l.i
