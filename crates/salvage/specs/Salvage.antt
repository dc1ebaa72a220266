-- Document 02, "Salvage": "Build a fresh file in a second lent area by NSERT", and the report.
use Rattle.std.specs.Prelude.{ℕ, ◌+◌, ◌*◌, Bool, true, false, cond, ◌&&◌, List, [], ◌∷◌, leb, eqb, length}
use Rattle.numbers.specs.Numbers.{done, wrong_size, not_found, accepted}
use Rattle.words.specs.Words.{put, zeros}
use Rattle.words.specs.Keys.{is_ones}
use Rattle.drum.specs.declared.Description.{Description}
use Rattle.drum.specs.Params.{D, file_size, sized}
use Rattle.layout.specs.Create.{created}
use Rattle.rules.specs.State.{Session, Outcome, key_in, lent}
use Rattle.rules.specs.Close.{close}
use Rattle.rules.specs.NsertDone.{nsert}
use Rattle.salvage.specs.Met.{Met, over, found, met}

-- the fresh file as it is being built, the report, and what is counted
pub record Walk : Type 0 where
  pub session : Session
  pub file : List ℕ
  pub buffer : List ℕ
  pub report : List ℕ
  pub lines : ℕ
  pub transfers : ℕ

-- one line more: three words, "block, place" and the reason, behind the lines before it; "one line per block passed over" has place 0 [Z5]
unfoldable pub lined : ℕ → ℕ → ℕ → Walk → Walk
lined b i reason w = record {
  session = w.session;
  file = w.file;
  buffer = w.buffer;
  report = put w.report (3 * w.lines) (b ∷ i ∷ reason ∷ []);
  lines = w.lines + 1;
  transfers = w.transfers;
}

-- "whether it was a second copy (NSERT gave 1) or lacked room": 5, or 6 [Z5]
abbrev pub why_not : ℕ → ℕ
why_not n = cond (eqb n not_found) 5 6

-- after an NSERT: what it leaves, its transfers counted [Z4, Z7]
unfoldable pub after : Outcome → Walk → Walk
after o w = record {
  session = o.after.session;
  file = o.after.file;
  buffer = o.after.buffer;
  report = w.report;
  lines = w.lines;
  transfers = w.transfers + length o.transfers;
}

-- "by NSERT" of a record, lent where it lies in the copy [Z4]
unfoldable pub tried : List ℕ → Walk → Outcome
tried r w = nsert (lent w.session w.file w.buffer r)

-- an ordinary record is carried where its NSERT answers 0 or 070001; else there is "one [line] per record not carried" [Z4, Z5]
unfoldable pub settled : ℕ → ℕ → ℕ → Walk → Walk
settled n b i w = cond (accepted n) w (lined b i (why_not n) w)

-- what one thing that is met does; "A record with key ONES is left" [Z3, Z4, Z5]
unfoldable pub step : Walk → Met → Walk
step w (over b reason) = lined b 0 reason w
step w (found b i r) = cond (is_ones (key_in w.session.desc r)) w (let o = tried r w in settled o.number b i (after o w))

-- all that is met, one after the other: 070002 does not end the walk [Z4]
unfoldable pub run : Walk → List Met → Walk
run w [] = w
run w (m ∷ ms) = run (step w m) ms

-- "a fresh file": CREATE, and the session after an OPEN of what CREATE wrote [Z4]
unfoldable pub begun : Description → List ℕ → List ℕ → Walk
begun p buffer report = record {
  session = record { desc = p; opened = true; current = 0; flag = false; placed = false; position = zeros 63 };
  file = created p;
  buffer = buffer;
  report = report;
  lines = 0;
  transfers = 0;
}

-- what a caller sees: number, transfers and lines, and the words of the second area, of the buffer and of the report; the copy is only read [Z7]
pub record Salvaging : Type 0 where
  pub number : ℕ
  pub transfers : ℕ
  pub lines : ℕ
  pub fresh : List ℕ
  pub buffer : List ℕ
  pub report : List ℕ

-- CLOSE at the end [Z4, Z7]
unfoldable pub ended : Walk → Salvaging
ended w =
    let o = close (lent w.session w.file w.buffer []) in
    record {
      number = done;
      transfers = w.transfers + length o.transfers;
      lines = w.lines;
      fresh = o.after.file;
      buffer = o.after.buffer;
      report = w.report;
    }

-- "020007 only, also where the report area lacks room for a line per block and per record place": not so [Z6]
unfoldable pub roomy : Description → ℕ → ℕ → ℕ → ℕ → Bool
roomy p copy fresh buffer report = sized p fresh buffer && (eqb copy (file_size p) && leb (3 * (p.n * (1 + D p))) report)

-- the call: 020007, all unchanged; or the fresh file and the report [Z4, Z6]
unfoldable pub salvage : Description → List ℕ → List ℕ → List ℕ → List ℕ → Salvaging
salvage p copy fresh buffer report =
    cond (roomy p (length copy) (length fresh) (length buffer) (length report))
    (ended (run (begun p buffer report) (met p copy)))
    (record { number = wrong_size; transfers = 0; lines = 0; fresh = fresh; buffer = buffer; report = report })
