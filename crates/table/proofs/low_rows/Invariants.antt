-- A row passed begins with a word below the key's first.
use Rattle.words.specs.Words.{part}
use Rattle.table.specs.Tables.{AllBelow}
use Rattle.table.proofs.low_rows.Given as goal

abbrev pub invariant-loop-i : goal.invariant-loop-i
invariant-loop-i l = AllBelow l.h (part l.at l.h.width l.key) l.t l.i
