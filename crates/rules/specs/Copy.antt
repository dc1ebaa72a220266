-- Document 02, "More sections": the call that copies a file into a second one with another CONTROL. What the words of the copy are is in layout's Copied.
use Rattle.std.specs.Prelude.{ℕ, Bool, not, List, [], ◌∷◌, leb, eqb, length}
use Rattle.numbers.specs.Numbers.{done, wrong_size, already_open}
use Rattle.numbers.specs.Checked.{Checked, passed, refused, ◌>>◌, require}
use Rattle.words.specs.Words.{zeros}
use Rattle.drum.specs.declared.Description.{Description}
use Rattle.drum.specs.Params.{every, good_params, file_size}
use Rattle.drum.specs.Blocks.{sections}
use Rattle.layout.specs.Inspect.{layout_marks}
use Rattle.layout.specs.Copied.{under_control, copied}
use Rattle.rules.specs.State.{State, Outcome, desc, unchanged}

-- what the call leaves: its number, the second file, and the marks; all else stays [M5, M6]
pub record Copy : Type 0 where
  pub number : ℕ
  pub second : List ℕ
  pub marks : List ℕ

-- the same as a function of them
abbrev pub copy_left : ℕ → List ℕ → List ℕ → Copy
copy_left n second marks = record { number = n; second = second; marks = marks }

-- "020007 if the new CONTROL is below the sections in use or the second file's length is wrong": the lengths of second file and marks, word 0 as it stands [M3]
unfoldable pub copy_sizes : Description → ℕ → List ℕ → ℕ → ℕ → Bool
copy_sizes p c f second marks =
    every
    (good_params p ∷ eqb (length f) (file_size p) ∷ eqb marks p.n
    ∷ good_params (under_control c p) ∷ eqb second (file_size (under_control c p))
    ∷ leb (sections f) c
    ∷ [])

-- 020007, then "020006 when open" [M3, M4]
unfoldable pub copy_checks : Description → Bool → ℕ → List ℕ → ℕ → ℕ → Checked Bool
copy_checks p opened c f second marks = do
  require (copy_sizes p c f second marks) wrong_size
  require (not opened) already_open

-- "then 070003; each leaves the second file unchanged"; else every word of it is written; the marks are OPEN's [M4, M5, M6, S6]
unfoldable pub copy_layout : Description → ℕ → List ℕ → List ℕ → Checked (List ℕ) → Copy
copy_layout p c f second (refused n) = copy_left n second (zeros p.n)
copy_layout p c f second (passed marks) = copy_left done (copied c p f) marks

-- the refusals before the file is looked at, or what its inspection comes to [M5]
unfoldable pub copy_done : Description → ℕ → List ℕ → List ℕ → List ℕ → Checked Bool → Copy
copy_done p c f second marks (refused n) = copy_left n second marks
copy_done p c f second marks (passed x) = copy_layout p c f second (layout_marks p f)

-- of a session with parameters p, open or closed: the file f copied into `second` with CONTROL c [M1, M2]
unfoldable pub copy : Description → Bool → ℕ → List ℕ → List ℕ → List ℕ → Copy
copy p opened c f second marks = copy_done p c f second marks (copy_checks p opened c f (length second) (length marks))

-- the call of a session: "free of transfers", and the session and its file as they were [M6, T2]
pub record Copying : Type 0 where
  pub outcome : Outcome
  pub second : List ℕ
  pub marks : List ℕ

-- the outcome of the call [M6]
unfoldable pub copy_file : State → List ℕ → ℕ → List ℕ → Copying
copy_file st second c marks =
    let r = copy (desc st) st.session.opened c st.file second marks in
    record { outcome = unchanged st r.number; second = r.second; marks = r.marks }
