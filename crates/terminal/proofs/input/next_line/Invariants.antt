-- Between turns the line's place is ready.
use Rattle.terminal.specs.Places.{Ready}
use Rattle.terminal.proofs.input.next_line.Given as goal

abbrev pub invariant-loop : goal.invariant-loop
invariant-loop g l = Ready l.line.place
