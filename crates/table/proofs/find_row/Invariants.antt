-- Of every row passed the test is false: of the low ones at the front, and of those compared.
use Rattle.words.specs.Words.{part}
use Rattle.table.proofs.Turns.{Passed}
use Rattle.table.proofs.find_row.Given as goal

abbrev pub invariant-loop-i : goal.invariant-loop-i
invariant-loop-i l = Passed l.w l.h (part l.at l.h.width l.key) l.t l.i
