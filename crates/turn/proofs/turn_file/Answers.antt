-- `turn::turn_file` meets its contract: marked, turned, and the marks given back.
use Rattle.turn.proofs.Marks.{turn-fit}
use Rattle.turn.proofs.Steps.{turn-words, marks-kept, whole-turned, marks-back}
use Rattle.turn.proofs.turn_file.Goals as goal

pub turn_blocks-requires : goal.turn_blocks-requires
turn_blocks-requires c = (search turn-fit, search turn-words, search marks-kept)

pub returns : goal.returns
returns c = (search whole-turned, search marks-back)
