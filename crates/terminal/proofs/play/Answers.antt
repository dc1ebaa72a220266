-- A first line that is good gives parameters with which calls are played.
use Rattle.terminal.proofs.Rooms.{started, begun-playable}
use Rattle.terminal.proofs.play.Goals as goal

pub play_calls-requires : goal.play_calls-requires
play_calls-requires c c' = (c'.in_ok-line.ensures, search (begun-playable, started))
