-- `capi::session::session_in` meets its contract: words that are a session's are long enough to be read as one.
use Rattle.capi.proofs.Words.{asked-whole}
use Rattle.capi.proofs.session.session_in.Goals as goal

pub session_of-requires : goal.session_of-requires
session_of-requires c = search asked-whole
