-- `printed::start_with` meets its contract: each `return` is a case of the definition.
use Rattle.printed.proofs.Starting.{start-range, start-large, start-good}
use Rattle.printed.proofs.start_with.Goals as goal

pub returns-then-not-is_good : goal.returns-then-not-is_good
returns-then-not-is_good c = search start-range

pub returns-then-file_size-gt8192 : goal.returns-then-file_size-gt8192
returns-then-file_size-gt8192 c = search start-large

pub returns : goal.returns
returns c = search start-good
