-- When each of the first four numbers is given. Document 01, "Numbers returned (octal)", column "when": "Checked in this order; the first that
-- applies is given, and none otherwise." Nothing is proved here.
use Rattle.std.specs.Prelude.{ℕ, ◌≡◌, Bool, true, false, not, ◌&&◌, ◌||◌, eqb, length}
use Rattle.numbers.specs.Numbers.{wrong_size, already_open, is_closed, wrong_key}
use Rattle.numbers.specs.Checked.{Checked, passed, refused, ◌>>◌, require}
use Rattle.words.specs.Words.{part, all_words}
use Rattle.words.specs.Keys.{is_ones}
use Rattle.drum.specs.Params.{sized}
use Rattle.rules.specs.State.{State, Outcome, desc, key_in, unchanged}
use Rattle.rules.specs.Requests.{Request, opening, closing, seeking, advancing, inserting, deleting, updating, extending}

-- "parameter or slice length wrong": of file and buffer; of the workspace too; of the marks too [N1, P10, P12]
abbrev pub lent_right : State → Bool
lent_right st = sized (desc st) (length st.file) (length st.buffer)

-- of the workspace [N1, P12]
abbrev pub work_right : State → Bool
work_right st = eqb (length st.work) (desc st).wpr

-- what each call is lent, the marks too [N1, P12]
unfoldable pub sizes_right : Request → State → Bool
sizes_right (opening marks) st = lent_right st && eqb (length marks) (desc st).n
sizes_right closing st = lent_right st
sizes_right (seeking work) st = lent_right st && work_right st
sizes_right (advancing work) st = lent_right st && work_right st
sizes_right (inserting work) st = lent_right st && work_right st
sizes_right (deleting work) st = lent_right st && work_right st
sizes_right (updating work) st = lent_right st && work_right st
sizes_right (extending work) st = lent_right st && work_right st

-- "OPEN, already open", "other call, closed" [N2, N3]
unfoldable pub open_right : Request → State → Checked Bool
open_right (opening marks) st = require (not st.session.opened) already_open
open_right closing st = require st.session.opened is_closed
open_right (seeking work) st = require st.session.opened is_closed
open_right (advancing work) st = require st.session.opened is_closed
open_right (inserting work) st = require st.session.opened is_closed
open_right (deleting work) st = require st.session.opened is_closed
open_right (updating work) st = require st.session.opened is_closed
open_right (extending work) st = require st.session.opened is_closed

-- "keyed call: workspace word it reads above 262143, or key ONES (SEEK, DLETE read the key only)" [N4]
abbrev pub reads_right : ℕ → State → Bool
reads_right reads st = all_words (part 0 reads st.work) && not (is_ones (key_in (desc st) st.work))

-- which calls are keyed, and how many words each reads [N4]
unfoldable pub key_right : Request → State → Bool
key_right (opening marks) st = true
key_right closing st = true
key_right (seeking work) st = reads_right (desc st).k st
key_right (advancing work) st = true
key_right (inserting work) st = reads_right (desc st).wpr st
key_right (deleting work) st = reads_right (desc st).k st
key_right (updating work) st = reads_right (desc st).wpr st
key_right (extending work) st = reads_right (desc st).wpr st

-- "Checked in this order"
unfoldable pub early : Request → State → Checked Bool
early q st = do
  require (sizes_right q st) wrong_size
  open_right q st
  require (key_right q st) wrong_key

-- one of the numbers that are given before a call's steps [N1, N2, N3, N4]
unfoldable pub is_early : ℕ → Bool
is_early n = eqb n wrong_size || (eqb n already_open || (eqb n is_closed || eqb n wrong_key))

-- the call q, given st, came to o: "the first that applies is given, and none otherwise" [N1, N2, N3, N4]
pub record When (q : Request) (st : State) (o : Outcome) : Type 0 where
  pub first : (n : ℕ) → early q st ≡ refused n → o ≡ unchanged st n
  pub none : early q st ≡ passed true → is_early o.number ≡ false
