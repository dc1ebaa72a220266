-- The form of the promises: what a function gives back, with the words and bytes it leaves, beside what Output.antt says.
use Rattle.std.specs.Prelude.{ℕ, ◌+◌, Bool, true, false, cond, List, [], length, Result, Ok, Err}
use Rattle.words.specs.Words.{put}
use Rattle.rules.specs.declared.Call.{Call}
use Rattle.rules.specs.State.{State}
use Rattle.rules.specs.Run.{shows}
use Rattle.texts.specs.Results.{result_text}
use Rattle.searchfile.specs.declared.Session.{Session}
use Rattle.searchfile.specs.Promise.{given}
use Rattle.printed.specs.declared.Over.{Over}
use Rattle.printed.specs.declared.Turn.{Turn}
use Rattle.printed.specs.Output.{Played, Refused}

-- a line of calls that was played, with the lent bytes and the place behind its text
pub record Shown : Type 0 where
  pub over : Bool
  pub after : State
  pub out : List ℕ
  pub at : ℕ

-- the text put into the lent bytes `out` from place `at` on
abbrev pub shown_at : List ℕ → ℕ → Played → Shown
shown_at out at o = record { over = o.over; after = o.after; out = put out at o.text; at = at + length o.text }

-- what the code gives back, with the words and bytes it leaves; a bad line leaves the session s
abbrev pub shown : Session → Result Turn Over → List ℕ → List ℕ → List ℕ → List ℕ → Shown
shown s (Ok t) file buffer work out = record { over = false; after = given t.session file buffer work; out = out; at = t.at }
shown s (Err e) file buffer work out = record { over = true; after = given s file buffer work; out = out; at = e.at }

-- the place behind what was printed
abbrev pub turn_end : Result Turn Over → ℕ
turn_end (Ok t) = t.at
turn_end (Err e) = e.at

-- the same of a line with parameters out of range
pub record Said : Type 0 where
  pub over : Bool
  pub out : List ℕ
  pub at : ℕ

-- its text put likewise
abbrev pub said_at : List ℕ → ℕ → Refused → Said
said_at out at o = record { over = o.over; out = put out at o.text; at = at + length o.text }

-- what the code gives back of it
abbrev pub said : Result ℕ Over → List ℕ → Said
said (Ok at) out = record { over = false; out = out; at = at }
said (Err e) out = record { over = true; out = out; at = e.at }

-- the place behind what was printed
abbrev pub said_end : Result ℕ Over → ℕ
said_end (Ok at) = at
said_end (Err e) = e.at

-- what `line_of` shows, of number, count and workspace: "prints call, number as six octal digits, transfers, and for SEEK and ADV answering 0 or
-- 030002 the workspace"
unfoldable pub told_line : Call → ℕ → ℕ → List ℕ → List ℕ
told_line c number count work = result_text c (record { number = number; count = count; shown = cond (shows c number) work [] })
