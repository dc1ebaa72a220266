-- The bytes that are here are looked at as far as they go.
use Rattle.terminal.proofs.Takes.{taken-ready}
use Rattle.terminal.proofs.input.take_here.Goals as goal

pub returns : goal.returns
returns c = search taken-ready
