-- Document 02, request 1, "Records in a row": blocks of one size; in each some leader words, which are the user's, and then the data area
-- with records of one kind. Blocks count from 0, and words from the start of the data area.
use Rattle.std.specs.Prelude.{ℕ, ◌+◌, ◌*◌, ◌-◌, ◌/◌, ◌%◌, Bool, false, cond, not, ◌&&◌, ◌||◌, List, [], ◌∷◌, ◌++◌, leb, ltb, eqb, get_or}
use Rattle.words.specs.Words.{part, put}
use Rattle.sequential.specs.declared.Kind.{Kind}
use Rattle.sequential.specs.declared.Kind.TheVariants.{Fixed, Variable}
use Rattle.sequential.specs.declared.Layout.{Layout}
use Rattle.sequential.specs.declared.Place.{Place}
use Rattle.sequential.specs.declared.Row.{Row}

-- the data area: the words of a block behind its leader words [R1]
unfoldable pub area : Layout → ℕ
area l = l.wpb - l.leaders

-- blocks of an even size, 6..4096 as document 01 has it; "Leader words number 0..63", and leave at least one word of data [R1]
unfoldable pub good_layout : Layout → Bool
good_layout l =
    eqb (l.wpb % 2) 0
    && (leb 6 l.wpb && (leb l.wpb 4096 && (leb l.leaders 63 && ltb l.leaders l.wpb)))

-- "GET and PUT work on a lent file of blocks": whole blocks, of these many words in all [R2]
unfoldable pub whole : Layout → ℕ → Bool
whole l file = good_layout l && eqb (file % l.wpb) 0

-- how many blocks those are [R2]
unfoldable pub blocks : Layout → ℕ → ℕ
blocks l file = file / l.wpb

-- the words of a workspace: those of a fixed record, or as many as a variable one may have [R3]
abbrev pub work_of : Kind → ℕ → ℕ
work_of (Fixed n) most = n
work_of Variable most = most

-- 020007: "parameter or slice length wrong", for a file and a workspace of these lengths [R3, R8]
unfoldable pub sized : Layout → ℕ → ℕ → Bool
sized l file work = whole l file && eqb work (work_of l.kind (area l))

-- the words of the record that begins at word i of t: fixed ones have all the same, variable ones are "led by their length in words" [R4, R5]
abbrev pub size : Kind → ℕ → List ℕ → ℕ
size (Fixed n) i t = n
size Variable i t = get_or t i 0

-- 020012: "a record too large or a length of 0" [R9]
unfoldable pub right : Layout → ℕ → Bool
right l n = leb 1 n && leb n (area l)

-- "as many whole ones as the data area holds": a record of n words has room from word `at` on [R4]
unfoldable pub room : Layout → ℕ → ℕ → Bool
room l at n = leb (at + n) (area l)

-- the word of the file at a place [R1]
unfoldable pub word_of : Layout → Place → ℕ
word_of l q = q.block * l.wpb + l.leaders + q.at

-- the first place of the next block [R4]
unfoldable pub next : Place → Place
next q = record { block = q.block + 1; at = 0 }

-- the place behind a record [R6]
unfoldable pub behind : Row → Place
behind r = record { block = r.place.block; at = r.place.at + r.words }

-- where a record of n words goes that is put at a place: there, or to the next block [R6]
unfoldable pub put_place : Layout → Place → ℕ → Place
put_place l q n = cond (room l q.at n) q (next q)

-- "closed by a zero word unless the block is exactly full": of the two kinds the variable one, where words of the data area are left [R5]
abbrev pub closed_of : Kind → Bool → Bool
closed_of (Fixed n) left = false
closed_of Variable left = left

-- whether a zero word goes behind this record [R5]
unfoldable pub closed : Layout → Row → Bool
closed l r = closed_of l.kind (ltb (r.place.at + r.words) (area l))

-- what is written for the record in the workspace w: its words, and that zero word [R5, R6]
unfoldable pub row_words : Layout → Row → List ℕ → List ℕ
row_words l r w = part 0 r.words w ++ cond (closed l r) (0 ∷ []) []

-- the file once the record in the workspace w is put [R5, R6]
unfoldable pub laid : Layout → Row → List ℕ → List ℕ → List ℕ
laid l r w f = put f (word_of l r.place) (row_words l r w)

-- whether a record of the kind is at a place where this word stands: a fixed one has room there, a variable one ends at no zero word [R4, R5]
abbrev pub stays_of : Kind → Layout → ℕ → ℕ → Bool
stays_of (Fixed n) l at word = room l at n
stays_of Variable l at word = eqb at 0 || (ltb at (area l) && not (eqb word 0))

-- whether the next record is in the block that the place names [R7]
unfoldable pub stays_at : Layout → Place → List ℕ → Bool
stays_at l q f = stays_of l.kind l q.at (get_or f (word_of l q) 0)

-- where the next record is: there, or at the start of the next block [R7]
unfoldable pub get_place : Layout → Place → List ℕ → Place
get_place l q f = cond (stays_at l q f) q (next q)
