-- Row by row from the top down: those from row `low` on to the new block, the others up by one in the buffer.
use Rattle.split.proofs.Shared.{Moved}
use Rattle.split.proofs.Cut.share_rows.Given as goal

abbrev pub invariant-loop-j : goal.invariant-loop-j
invariant-loop-j l = Moved l.self l.low l.row l.initial.file l.initial.buffer l.j l.file l.buffer
