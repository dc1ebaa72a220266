-- Document 01, "The session": "VIEW of block b lends back that text, one part of the buffer or of the file". Which of the two, and where in it.
use Rattle.std.specs.Prelude.{ℕ, Bool, cond, ◌&&◌, [], length}
use Rattle.numbers.specs.Checked.{between}
use Rattle.drum.specs.Params.{sized}
use Rattle.drum.specs.Parts.{Borrowed, Part, part_text}
use Rattle.rules.specs.State.{Session, lent}
use Rattle.rules.specs.Close.{view}

-- whether VIEW shows block b: not "for a closed session, bad sizes, or b outside 1..N" [S5]
unfoldable pub shown : Session → ℕ → ℕ → ℕ → Bool
shown s file buffer b = s.opened && (sized s.desc file buffer && between 1 s.desc.n b)

-- where VIEW's part lies; an empty part lies at the file's first word [S5]
unfoldable pub view_at : Session → Borrowed → Borrowed → ℕ → ℕ × ℕ
view_at s file buffer b =
    cond (shown s (length file.now) (length buffer.now) b) (part_text s.desc s.current file buffer b) file.ref_ptr

-- what VIEW lends back
abbrev pub view_part : Session → Borrowed → Borrowed → ℕ → Part
view_part s file buffer b = record { address = view_at s file buffer b; words = view (lent s file.now buffer.now []) b }
