-- The refusals before a call's own steps. Document 01, "Numbers returned (octal)", in its order.
use Rattle.std.specs.Prelude.{ℕ, Bool, not, ◌&&◌, eqb, length}
use Rattle.numbers.specs.Numbers.{wrong_size, is_closed, wrong_key}
use Rattle.numbers.specs.Checked.{Checked, ◌>>=◌, ◌>>◌, require}
use Rattle.words.specs.Words.{part, all_words}
use Rattle.words.specs.Keys.{is_ones}
use Rattle.drum.specs.Params.{sized}
use Rattle.rules.specs.State.{State, Outcome, Effect, desc, key_in, settle}

-- 020007: "parameter or slice length wrong", of file and buffer; "Workspace: WPR" [N1, P10, P12]
unfoldable pub sizes_ok : State → Checked Bool
sizes_ok st = require (sized (desc st) (length st.file) (length st.buffer)) wrong_size

-- 020007: "Workspace: WPR" [N1, P12]
unfoldable pub work_ok : State → Checked Bool
work_ok st = require (eqb (length st.work) (desc st).wpr) wrong_size

-- 020005: "other call, closed" [N3]
unfoldable pub is_open : State → Checked Bool
is_open st = require st.session.opened is_closed

-- 030001: "workspace word it reads above 262143, or key ONES (SEEK, DLETE read the key only)" [N4]
unfoldable pub key_ok : ℕ → State → Checked Bool
key_ok reads st = require (all_words (part 0 reads st.work) && not (is_ones (key_in (desc st) st.work))) wrong_key

-- a keyed call that reads so many words of the workspace: 020007, 020005, 030001 in this order, and then its steps [N1, N3, N4]
abbrev pub keyed_call : ℕ → State → Checked Effect → Outcome
keyed_call reads st steps = settle st do
  sizes_ok st
  work_ok st
  is_open st
  key_ok reads st
  steps
