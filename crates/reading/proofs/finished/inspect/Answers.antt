-- As under Layout, and finished.
use Rattle.reading.proofs.Order.{inspected, not-laid, marks-none, is-laid, marks-kept, not-finished, marks-cleared}
use Rattle.reading.proofs.finished.inspect.Goals as goal

pub returns-then-not-inspect : goal.returns-then-not-inspect
returns-then-not-inspect c = (search not-laid, search marks-none)

pub is_finished-requires : goal.is_finished-requires
is_finished-requires c = search inspected

pub returns-then-is_finished : goal.returns-then-is_finished
returns-then-is_finished c = (search is-laid, search marks-kept)

pub returns : goal.returns
returns c = (search not-finished, search marks-cleared)
