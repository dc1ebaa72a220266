-- Between turns the place is ready and the parameters are those of a session that is played.
use Rattle.terminal.specs.Places.{Ready, Playable}
use Rattle.terminal.proofs.turns.play_calls.Given as goal

abbrev pub invariant-loop : goal.invariant-loop
invariant-loop g l = Ready l.place × Playable l.session.desc
