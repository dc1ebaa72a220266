-- Between turns the place is ready.
use Rattle.terminal.specs.Places.{Ready}
use Rattle.terminal.proofs.refused.refuse_lines.Given as goal

abbrev pub invariant-loop : goal.invariant-loop
invariant-loop g l = Ready l.place
