-- `capi::session::parameters_in` meets its contract: six words read, and the form.
use Rattle.capi.proofs.Words.{parameters-by}
use Rattle.capi.proofs.session.parameters_in.Goals as goal

pub returns : goal.returns
returns c = search parameters-by
