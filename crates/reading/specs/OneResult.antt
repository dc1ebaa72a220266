-- Document 01, "What the promises pin": "Two results allowed by one promise are proved equal". Of the reading set's promises. Nothing is proved here.
use Rattle.std.specs.Prelude.{ℕ, ◌≡◌, List}
use Rattle.drum.specs.Parts.{Borrowed, part_of}
use Rattle.rules.specs.State.{Session, Outcome}
use Rattle.rules.specs.Open.{Opened}
use Rattle.face.specs.Counted.{counted, counted_open}
use Rattle.reading.specs.Answers.{Answer}
use Rattle.reading.specs.Reading.{answered, answered_open, read_part}

-- of each promise: the answer with its session, and every word lent
pub record OneReading : Type 0 where
  pub answers : (o : Outcome) (r s : Answer) (f g b d w u : List ℕ) → answered r f b w ≡ counted o → answered s g d u ≡ counted o
      → (r ≡ s) × (f ≡ g) × (b ≡ d) × (w ≡ u)
  pub opens : (o : Opened) (r s : Answer) (f g b d m n : List ℕ) → answered_open r f b m ≡ counted_open o → answered_open s g d n ≡ counted_open o
      → (r ≡ s) × (f ≡ g) × (b ≡ d) × (m ≡ n)
  pub views : (s : Session) (file buffer : Borrowed) (b : ℕ) (one other : Borrowed) → part_of one ≡ read_part s file buffer b
      → part_of other ≡ read_part s file buffer b → (one.ref_ptr ≡ other.ref_ptr) × (one.now ≡ other.now)
