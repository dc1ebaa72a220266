-- `capi::session::session_of` meets its contract: the words read one by one, the position copied.
use Rattle.capi.proofs.Words.{session-by}
use Rattle.capi.proofs.session.session_of.Goals as goal

pub returns : goal.returns
returns c = search session-by
