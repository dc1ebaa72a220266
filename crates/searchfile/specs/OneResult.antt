-- Document 01, "What the promises pin": "Two results allowed by one promise are proved equal". Of the public promises. Nothing is proved here.
use Rattle.std.specs.Prelude.{ℕ, ◌≡◌, List}
use Rattle.rules.specs.State.{Session, Outcome}
use Rattle.rules.specs.Open.{Opened}
use Rattle.searchfile.specs.Answers.{Answer}
use Rattle.searchfile.specs.Promise.{counted, counted_open, answered, answered_open}
use Rattle.searchfile.specs.Parts.{Borrowed, part_of, view_part}

-- CREATE, SEEK, ADV, NSERT, DLETE, UPDAT, XTEND, CLOSE: the answer with its session, and every word lent
abbrev pub OneAnswer : Type 0
OneAnswer =
    (o : Outcome) (r s : Answer) (f g b d w u : List ℕ) → answered r f b w ≡ counted o → answered s g d u ≡ counted o
    → (r ≡ s) × (f ≡ g) × (b ≡ d) × (w ≡ u)

-- OPEN: and its marks
abbrev pub OneOpen : Type 0
OneOpen =
    (o : Opened) (r s : Answer) (f g b d m n : List ℕ) → answered_open r f b m ≡ counted_open o → answered_open s g d n ≡ counted_open o
    → (r ≡ s) × (f ≡ g) × (b ≡ d) × (m ≡ n)

-- VIEW: where the part lies that is lent back, and its words
abbrev pub OneView : Type 0
OneView =
    (s : Session) (file buffer : Borrowed) (b : ℕ) (one other : Borrowed) → part_of one ≡ view_part s file buffer b → part_of other ≡ view_part s file buffer b
    → (one.ref_ptr ≡ other.ref_ptr) × (one.now ≡ other.now)
