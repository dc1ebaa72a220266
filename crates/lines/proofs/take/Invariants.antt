-- `lines::take` meets its contract: what is to be read from here on comes to what the whole comes to.
use mathlib.Core.Path.{◌≡◌}
use lib.ListN.{length, drop}
use Rattle.lines.specs.Promise.{read, to_line_feed}
use Rattle.lines.proofs.take.Given as goal

abbrev pub invariant-loop-i : goal.invariant-loop-i
invariant-loop-i l =
    (length l.name ≡ length l.initial.name)
    × (length l.numbers ≡ length l.initial.numbers)
    × (to_line_feed (read l.initial.reading l.initial.name l.initial.numbers) l.from (drop l.from l.bytes) ≡ to_line_feed (read l.reading l.name l.numbers) l.i (drop l.i l.bytes))
