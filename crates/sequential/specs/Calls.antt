-- Document 02, request 1: PUT and GET. "Refusals: 020012 for a record too large or a length of 0, after 020007; then 070002 for a PUT with no
-- block left, all unchanged; end of data is 030002."
use Rattle.std.specs.Prelude.{ℕ, ◌-◌, Bool, true, not, ◌&&◌, List, leb, ltb, eqb, length}
use Rattle.numbers.specs.Numbers.{wrong_size, wrong_length, no_room, at_end, done}
use Rattle.numbers.specs.Checked.{Checked, passed, refused, ◌>>◌, require}
use Rattle.words.specs.Words.{part, put}
use Rattle.sequential.specs.declared.Kind.{Kind}
use Rattle.sequential.specs.declared.Kind.TheVariants.{Fixed, Variable}
use Rattle.sequential.specs.declared.Layout.{Layout}
use Rattle.sequential.specs.declared.Place.{Place}
use Rattle.sequential.specs.declared.Row.{Row}
use Rattle.sequential.specs.declared.PutAnswer.{PutAnswer}
use Rattle.sequential.specs.declared.GetAnswer.{GetAnswer}
use Rattle.sequential.specs.Rows.{sized, blocks, size, right, room, word_of, behind, put_place, laid, get_place}

-- where PUT lays the record in the workspace w, in a file of so many words [R6, R8, R9, R10]
unfoldable pub put_spot : Layout → Place → ℕ → List ℕ → Checked Row
put_spot l q file w =
    let n = size l.kind 0 w in do
      require (sized l file (length w)) wrong_size
      require (right l n) wrong_length
      require (ltb q.block (blocks l file)) no_room
      require (ltb (put_place l q n).block (blocks l file)) no_room
      passed (record { place = put_place l q n; words = n })

-- a fixed record is neither of length 0 nor too large; of a variable one its own length tells [R9]
abbrev pub right_of : Kind → Layout → Bool
right_of (Fixed n) l = right l n
right_of Variable l = true

-- the same of a layout [R9]
abbrev pub fixed_right : Layout → Bool
fixed_right l = right_of l.kind l

-- the record at a place: there is a block, and in it a right length [R7, R9, R11]
unfoldable pub row_from : Layout → Place → List ℕ → Checked Row
row_from l q f =
    let n = size l.kind (word_of l q) f in do
      require (ltb q.block (blocks l (length f))) at_end
      require (leb 1 n && room l q.at n) wrong_length
      passed (record { place = q; words = n })

-- where the record lies that GET reads next; "GET is told how many were put", and so many are left [R7, R8, R9, R11]
unfoldable pub get_spot : Layout → Place → ℕ → List ℕ → ℕ → Checked Row
get_spot l q left f work = do
  require (sized l (length f) work) wrong_size
  require (fixed_right l) wrong_length
  require (not (eqb left 0)) at_end
  require (ltb q.block (blocks l (length f))) at_end
  row_from l (get_place l q f) f

-- what PUT leaves: its number, the place, and the file [R6]
pub record Stored : Type 0 where
  pub number : ℕ
  pub place : Place
  pub file : List ℕ

-- what GET leaves: its number, the place, how many are left, and the workspace [R7]
pub record Read : Type 0 where
  pub number : ℕ
  pub place : Place
  pub left : ℕ
  pub work : List ℕ

-- a PUT that is refused leaves "all unchanged" [R6, R10]
abbrev pub put_told : Layout → Place → List ℕ → List ℕ → Checked Row → Stored
put_told l q f w (refused n) = record { number = n; place = q; file = f }
put_told l q f w (passed r) = record { number = done; place = behind r; file = laid l r w f }

-- PUT of the record in the workspace w at place q of the file f [R6]
unfoldable pub put_row : Layout → Place → List ℕ → List ℕ → Stored
put_row l q f w = put_told l q f w (put_spot l q (length f) w)

-- a GET that is refused leaves all unchanged; else the record stands in the first words of the workspace [R7]
abbrev pub get_told : Layout → Place → ℕ → List ℕ → List ℕ → Checked Row → Read
get_told l q left f w (refused n) = record { number = n; place = q; left = left; work = w }
get_told l q left f w (passed r) =
    record { number = done; place = behind r; left = left - 1; work = put w 0 (part (word_of l r.place) r.words f) }

-- GET into the workspace w from place q of the file f, of which so many are left [R7]
unfoldable pub get_row : Layout → Place → ℕ → List ℕ → List ℕ → Read
get_row l q left f w = get_told l q left f w (get_spot l q left f (length w))

-- what PUT's code gave back, with the file it left [R6]
abbrev pub put_gave : PutAnswer → List ℕ → Stored
put_gave r f = record { number = r.number; place = r.place; file = f }

-- what GET's code gave back, with the workspace it left [R7]
abbrev pub get_gave : GetAnswer → List ℕ → Read
get_gave r w = record { number = r.number; place = r.place; left = r.left; work = w }
