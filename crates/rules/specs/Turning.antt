-- Document 02, "Blocks that say what they are": the call that turns a file from one block form to the other. What the words of the turned file are is in
-- layout's Turned.
use Rattle.std.specs.Prelude.{ℕ, Bool, not, List, [], ◌∷◌, eqb, length}
use Rattle.numbers.specs.Numbers.{done, wrong_size, already_open}
use Rattle.numbers.specs.Checked.{Checked, passed, refused, ◌>>◌, require}
use Rattle.words.specs.Words.{zeros}
use Rattle.drum.specs.declared.Description.{Description}
use Rattle.drum.specs.Params.{every, good_params, file_size}
use Rattle.layout.specs.Inspect.{layout_marks}
use Rattle.layout.specs.Turned.{other_form, turned}
use Rattle.rules.specs.State.{Session, State, Outcome, desc, lent}

-- what the call leaves: its number, the description of the session, the file and the marks [K5, K6]
pub record Turning : Type 0 where
  pub number : ℕ
  pub desc : Description
  pub file : List ℕ
  pub marks : List ℕ

-- the same as a function of them
abbrev pub turn_left : ℕ → Description → List ℕ → List ℕ → Turning
turn_left n p f marks = record { number = n; desc = p; file = f; marks = marks }

-- 020007: the parameters, the file's length, one mark for each block [N1, K6]
unfoldable pub turn_sizes : Description → ℕ → ℕ → Bool
turn_sizes p file marks = every (good_params p ∷ eqb file (file_size p) ∷ eqb marks p.n ∷ [])

-- "the turning call answers 020007, 020006 when open" [K6]
unfoldable pub turn_checks : Description → Bool → ℕ → ℕ → Checked Bool
turn_checks p opened file marks = do
  require (turn_sizes p file marks) wrong_size
  require (not opened) already_open

-- "then 070003", the marks all 0 as after OPEN; else the file in the other form, with the session's description of it and OPEN's marks [K5, K6, S6]
unfoldable pub turn_layout : Description → List ℕ → Checked (List ℕ) → Turning
turn_layout p f (refused n) = turn_left n p f (zeros p.n)
turn_layout p f (passed marks) = turn_left done (other_form p) (turned p marks f) marks

-- the refusals before the file is looked at, or what its inspection comes to [K6]
unfoldable pub turn_done : Description → List ℕ → List ℕ → Checked Bool → Turning
turn_done p f marks (refused n) = turn_left n p f marks
turn_done p f marks (passed x) = turn_layout p f (layout_marks p f)

-- of a session with parameters p, open or closed: the file f turned [K5]
unfoldable pub turning : Description → Bool → List ℕ → List ℕ → Turning
turning p opened f marks = turn_done p f marks (turn_checks p opened (length f) (length marks))

-- a session like s with these parameters [S1, K5]
unfoldable pub describing : Description → Session → Session
describing p s =
    record { desc = p; opened = s.opened; current = s.current; flag = s.flag; placed = s.placed; position = s.position }

-- the call of a session: what it does, and the marks it leaves [K6, S6]
pub record TurnedFile : Type 0 where
  pub outcome : Outcome
  pub marks : List ℕ

-- "free of transfers": the file turned, and the session like before but with the other form, where it answers 0 [K5, K6, T2]
unfoldable pub turn_file : State → List ℕ → TurnedFile
turn_file st marks =
    let r = turning (desc st) st.session.opened st.file marks in
    record {
      outcome = record { number = r.number; transfers = []; after = lent (describing r.desc st.session) r.file st.buffer st.work };
      marks = r.marks;
    }
