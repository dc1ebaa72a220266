-- Document 02, "The reading set": a profile with SEEK, ADV and VIEW only, CONTROL 1. Its calls are the rules' own on a session whose flag is off.
use Rattle.std.specs.Prelude.{ℕ, Bool, false, cond, ◌&&◌, List, [], eqb, length}
use Rattle.numbers.specs.Numbers.{wrong_size, reading_only}
use Rattle.numbers.specs.Checked.{Checked, passed, refused, ◌>>◌, require}
use Rattle.drum.specs.declared.Description.{Description}
use Rattle.drum.specs.Parts.{Borrowed, Part, part_text}
use Rattle.rules.specs.State.{Session, State, Outcome, desc, lent, unchanged, settle}
use Rattle.rules.specs.Checks.{sizes_ok, work_ok, is_open}
use Rattle.rules.specs.Open.{Opened, open_checks, open_layout}
use Rattle.rules.specs.Close.{close, view}
use Rattle.rules.specs.Seek.{seek}
use Rattle.rules.specs.Adv.{adv}
use Rattle.face.specs.Counted.{Counted, CountedOpen}
use Rattle.face.specs.Parts.{shown}
use Rattle.reading.specs.Finished.{finished_marks}
use Rattle.reading.specs.declared.ReadingSession.{ReadingSession}
use Rattle.reading.specs.Answers.{Answer}

-- "CONTROL 1": the profile is of files with one section [V1]
abbrev pub one_section : Description → Bool
one_section p = eqb p.control 1

-- a reading session as one of the rules: it has no write flag, which is off [V4]
abbrev pub as_session : ReadingSession → Session
as_session r = record {
  desc = r.desc;
  opened = r.opened;
  current = r.current;
  flag = false;
  placed = r.placed;
  position = r.position;
}

-- what a call is given: the session, and the words lent to it
abbrev pub given : ReadingSession → List ℕ → List ℕ → List ℕ → State
given s f b w = lent (as_session s) f b w

-- a call of the profile: 020007 where CONTROL is not 1, else the call itself [V1, N1]
unfoldable pub profile : (State → Outcome) → State → Outcome
profile call st = cond (one_section (desc st)) (call st) (unchanged st wrong_size)

-- what refuses a call of the profile: 020007 where CONTROL is not 1, and then the call's own refusals [V1, N1]
abbrev pub profile_checks : Description → Checked Bool → Checked Bool
profile_checks p checks = require (one_section p) wrong_size >> checks

-- SEEK and ADV of the profile are the rules' [V1]
abbrev pub read_seek : State → Outcome
read_seek = profile seek

-- ADV of the profile [V1]
abbrev pub read_adv : State → Outcome
read_adv = profile adv

-- CLOSE of the profile: nothing is flagged, so nothing is written [V4]
abbrev pub read_close : State → Outcome
read_close = profile close

-- "altering calls answer 020010, after 020005": NSERT, DLETE, UPDAT and XTEND [V6]
unfoldable pub altering : State → Outcome
altering st = settle st do
  sizes_ok st
  work_ok st
  is_open st
  refused reading_only

-- NSERT, DLETE, UPDAT and XTEND of the profile [V6]
abbrev pub read_alter : State → Outcome
read_alter = profile altering

-- the refusals of OPEN before the file is looked at, which leave the marks, or what the inspection of the file comes to [S6]
unfoldable pub read_open_done : State → List ℕ → Checked Bool → Opened
read_open_done st marks (refused n) = record { outcome = unchanged st n; marks = marks }
read_open_done st marks (passed x) = open_layout st (finished_marks (desc st) st.file)

-- OPEN of the profile: 020007 where CONTROL is not 1, 020007 and 020006 as OPEN's, 070003 for any file that is not finished, or open [V1, V5]
unfoldable pub read_open : State → List ℕ → Opened
read_open st marks = read_open_done st marks do
  require (one_section (desc st)) wrong_size
  open_checks st marks

-- what a call gives back, with the words in file, buffer and workspace
abbrev pub answered : Answer → List ℕ → List ℕ → List ℕ → Counted
answered r f b w = record { number = r.number; transfers = r.transfers; after = given r.session f b w }

-- what OPEN gives back, with the marks it leaves
abbrev pub answered_open : Answer → List ℕ → List ℕ → List ℕ → CountedOpen
answered_open r f b m = record { outcome = answered r f b []; marks = m }

-- whether VIEW shows block b: as the rules' VIEW, and not where CONTROL is not 1 [V1, S5]
unfoldable pub read_shown : Session → ℕ → ℕ → ℕ → Bool
read_shown s file buffer b = one_section s.desc && shown s file buffer b

-- what VIEW lends back: the rules' text of block b, or an empty part at the file's first word [V1, S5]
abbrev pub read_part : Session → Borrowed → Borrowed → ℕ → Part
read_part s file buffer b =
    let lends = read_shown s (length file.now) (length buffer.now) b in
    record {
      address = cond lends (part_text s.desc s.current file buffer b) file.ref_ptr;
      words = cond (one_section s.desc) (view (lent s file.now buffer.now []) b) [];
    }
