-- Document 01: CREATE and OPEN. What OPEN tests of the file is in layout's Inspect.
use Rattle.std.specs.Prelude.{ℕ, Bool, true, cond, not, ◌&&◌, List, [], eqb, length}
use Rattle.numbers.specs.Numbers.{done, wrong_size, already_open}
use Rattle.numbers.specs.Checked.{Checked, passed, refused, ◌>>=◌, ◌>>◌, require}
use Rattle.words.specs.Words.{zeros}
use Rattle.drum.specs.declared.Description.{Description}
use Rattle.drum.specs.Params.{good_params, file_size}
use Rattle.layout.specs.Create.{created}
use Rattle.layout.specs.Inspect.{layout_marks}
use Rattle.rules.specs.State.{State, Outcome, desc, lent, at_rest, unchanged}
use Rattle.rules.specs.Checks.{sizes_ok}

-- "CREATE has no session and can answer only 020007 or 0.": its number, and the file it leaves [S8, N12]
pub record Created : Type 0 where
  pub number : ℕ
  pub file : List ℕ

-- CREATE: 020007 and the file as it was, or 0 and a new file [L17, N12]
unfoldable pub create : Description → List ℕ → Created
create p f =
    cond (good_params p && eqb (length f) (file_size p))
    (record { number = done; file = created p })
    (record { number = wrong_size; file = f })

-- OPEN: what it does, and the marks it leaves
pub record Opened : Type 0 where
  pub outcome : Outcome
  pub marks : List ℕ

-- the refusals of OPEN before the file is looked at: 020007 ("OPEN is also lent N marks"), 020006 [N1, N2, P12]
unfoldable pub open_checks : State → List ℕ → Checked Bool
open_checks st marks = do
  sizes_ok st
  require (eqb (length marks) (desc st).n) wrong_size
  require (not st.session.opened) already_open

-- "answering 0 it leaves 1 for a block reached from the master, 2 for a chained one, 0 for one never used; answering 070003 it leaves all 0" [S2, S6, N5, T2]
unfoldable pub open_layout : State → Checked (List ℕ) → Opened
open_layout st (refused n) = record { outcome = unchanged st n; marks = zeros (desc st).n }
open_layout st (passed marks) = record {
  outcome = record { number = done; transfers = []; after = lent (at_rest true st.session) st.file st.buffer st.work };
  marks = marks;
}

-- the refusals, which leave the marks, or what the inspection of the file comes to [S6]
unfoldable pub open_done : State → List ℕ → Checked Bool → Opened
open_done st marks (refused n) = record { outcome = unchanged st n; marks = marks }
open_done st marks (passed x) = open_layout st (layout_marks (desc st) st.file)

-- OPEN: 020007, 020006, 070003, or open [S2, S6]
unfoldable pub open_file : State → List ℕ → Opened
open_file st marks = open_done st marks (open_checks st marks)
