-- Document 02, "The reading set": what is claimed of its calls, whatever session and words they are given. Nothing is proved here.
use Rattle.std.specs.Prelude.{ℕ, ◌≤◌, ◌≡◌, true, false, ◌⊎◌, List, [], length}
use Rattle.numbers.specs.Numbers.{reading_only}
use Rattle.drum.specs.Params.{sized}
use Rattle.drum.specs.Blocks.{writes}
use Rattle.rules.specs.State.{State, Outcome, lent, unchanged}
use Rattle.rules.specs.Seek.{seek}
use Rattle.rules.specs.Adv.{adv}
use Rattle.rules.specs.Open.{open_file}
use Rattle.rules.specs.Close.{close, view}
use Rattle.reading.specs.declared.ReadingSession.{ReadingSession}
use Rattle.reading.specs.Finished.{finished}
use Rattle.reading.specs.Reading.{as_session, given, read_seek, read_adv, read_close, read_alter, read_open, read_part}
use Rattle.drum.specs.Parts.{Borrowed}

-- "a profile with SEEK, ADV and VIEW only, CONTROL 1": where CONTROL is 1 each call is the rules' on the same session with its flag off, OPEN's where the
-- file is finished [V1, V4]
pub record ReadingIsRules (s : ReadingSession) (one : s.desc.control ≡ 1) : Type 0 where
  pub seeks : (f b w : List ℕ) → read_seek (given s f b w) ≡ seek (given s f b w)
  pub advances : (f b w : List ℕ) → read_adv (given s f b w) ≡ adv (given s f b w)
  pub closes : (f b w : List ℕ) → read_close (given s f b w) ≡ close (given s f b w)
  pub opens : (f b w marks : List ℕ) → finished s.desc f ≡ true → read_open (given s f b w) marks ≡ open_file (given s f b w) marks
  pub views : (file buffer : Borrowed) (b : ℕ) → (read_part (as_session s) file buffer b).words ≡ view (lent (as_session s) file.now buffer.now []) b

-- "In this profile SEEK costs 0 or 2" [V7]
abbrev pub SeekTwo : Type 0
SeekTwo =
    (s : ReadingSession) (f b w : List ℕ) → (length (read_seek (given s f b w)).transfers ≡ 0) ⊎ (length (read_seek (given s f b w)).transfers ≡ 2)

-- "ADV at most 3" [V7]
abbrev pub AdvThree : Type 0
AdvThree = (s : ReadingSession) (f b w : List ℕ) → length (read_adv (given s f b w)).transfers ≤ 3

-- "and no word of the file changes": a call that leaves the file it was lent and the flag off, and whose transfers write no block [V7]
pub record Unwritten (st : State) (o : Outcome) : Type 0 where
  pub file : o.after.file ≡ st.file
  pub off : o.after.session.flag ≡ false
  pub reads : (b : ℕ) → writes o.transfers b ≡ false

-- of every call of the profile [V7]
pub record FileKept : Type 0 where
  pub seeks : (s : ReadingSession) (f b w : List ℕ) → Unwritten (given s f b w) (read_seek (given s f b w))
  pub advances : (s : ReadingSession) (f b w : List ℕ) → Unwritten (given s f b w) (read_adv (given s f b w))
  pub closes : (s : ReadingSession) (f b w : List ℕ) → Unwritten (given s f b w) (read_close (given s f b w))
  pub opens : (s : ReadingSession) (f b w marks : List ℕ) → Unwritten (given s f b w) (read_open (given s f b w) marks).outcome
  pub alters : (s : ReadingSession) (f b w : List ℕ) → Unwritten (given s f b w) (read_alter (given s f b w))

-- "altering calls answer 020010, after 020005": an open session with right sizes answers it, all unchanged [V6]
abbrev pub Refused020010 : Type 0
Refused020010 =
    (s : ReadingSession) (f b w : List ℕ) → s.desc.control ≡ 1 → sized s.desc (length f) (length b) ≡ true → length w ≡ s.desc.wpr → s.opened ≡ true
    → read_alter (given s f b w) ≡ unchanged (given s f b w) reading_only
