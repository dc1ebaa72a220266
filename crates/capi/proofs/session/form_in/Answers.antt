-- `capi::session::form_in` meets its contract: the first form where there is no word for it, else word 73.
use Rattle.capi.proofs.Words.{form-none, form-read}
use Rattle.capi.proofs.session.form_in.Goals as goal

pub returns-then-words-le-FORM_PLACE : goal.returns-then-words-le-FORM_PLACE
returns-then-words-le-FORM_PLACE c = search form-none

pub returns-else-words-le-FORM_PLACE : goal.returns-else-words-le-FORM_PLACE
returns-else-words-le-FORM_PLACE c = search form-read
