-- `nasturakh_view(session, file, buffer, block)`: where the part lies that VIEW lends back.
use Rattle.std.specs.Prelude.{ℕ, ◌+◌, ◌-◌, cond, ◌≡◌, List, [], eqb, ltb, length}
use Rattle.numbers.specs.Numbers.{wrong_size}
use Rattle.words.specs.Words.{part}
use Rattle.drum.specs.Params.{start}
use Rattle.rules.specs.State.{Session, State, desc, lent}
use Rattle.rules.specs.Close.{view}
use Rattle.drum.specs.Parts.{Borrowed, word_of}
use Rattle.searchfile.specs.Parts.{shown, view_at}
use Rattle.capi.specs.Words.{is_session, session_of, packed}

-- "2^32 plus the word offset of the part in the file"
abbrev pub in_file : ℕ
in_file = 4294967296

-- "or 2^33 for the buffer"
abbrev pub lent_in_buffer : ℕ
lent_in_buffer = 8589934592

-- "returns 0 for an empty part, 2^32 plus the word offset of the part in the file, or 2^33 for the buffer" [S5]
unfoldable pub place_of : State → ℕ → ℕ
place_of st b =
    cond (shown st.session (length st.file) (length st.buffer) b)
    (cond (eqb b st.session.current) lent_in_buffer (in_file + start (desc st) b))
    0

-- "A session slice of another length, or a word 6, 8 or 9 above 1, answers 020007", VIEW too
unfoldable pub viewed : List ℕ → List ℕ → List ℕ → ℕ → ℕ
viewed ws f b block = cond (is_session ws) (place_of (lent (session_of ws) f b []) block) (packed 0 wrong_size)

-- the part that such a number names: WPB words of the file, or the buffer; below 2^32 an empty part
unfoldable pub part_at : State → ℕ → List ℕ
part_at st x =
    cond (ltb x in_file) []
    (cond (eqb x lent_in_buffer) st.buffer (part (x - in_file) (desc st).wpb st.file))

-- the address that such a number names in the slices lent
unfoldable pub address_at : Borrowed → Borrowed → ℕ → ℕ × ℕ
address_at file buffer x = cond (ltb x in_file) file.ref_ptr (cond (eqb x lent_in_buffer) buffer.ref_ptr (word_of file (x - in_file)))

-- the number names the part that VIEW lends back: its words, and where they lie
pub record Named (s : Session) (file buffer : Borrowed) (block : ℕ) : Type 0 where
  pub words : let st = lent s file.now buffer.now [] in part_at st (place_of st block) ≡ view st block
  pub address : address_at file buffer (place_of (lent s file.now buffer.now []) block) ≡ view_at s file buffer block
