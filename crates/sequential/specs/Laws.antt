-- What is claimed of PUT and GET, for both kinds of records alike.
use Rattle.std.specs.Prelude.{◌≡◌, ◌⊎◌, true, cond, List, [], ◌∷◌, ℕ, ◌+◌, ◌*◌, ◌-◌, ◌/◌, ◌%◌, ◌≤◌, ◌<◌, ltb, length, get_or}
use Rattle.numbers.specs.Numbers.{at_end, no_room, done}
use Rattle.numbers.specs.Checked.{Checked, passed, refused, ◌>>=◌}
use Rattle.words.specs.Words.{part, put}
use Rattle.sequential.specs.declared.Kind.TheVariants.{Fixed, Variable}
use Rattle.sequential.specs.declared.Layout.{Layout}
use Rattle.sequential.specs.declared.Place.{Place}
use Rattle.sequential.specs.Rows.{area, blocks, size, right, sized, word_of, behind, closed_of, laid, work_of}
use Rattle.sequential.specs.Calls.{put_spot, get_spot, fixed_right, put_row, get_row}

-- the first place of a file [R6]
abbrev pub first : Place
first = record { block = 0; at = 0 }

-- a file, and the place behind what is put so far
pub record File : Type 0 where
  pub words : List ℕ
  pub place : Place

-- a PUT that answers 0, of the record in the workspace w [R6]
unfoldable pub puts : Layout → File → List ℕ → Checked File
puts l x w = do
  r ← put_spot l x.place (length x.words) w
  passed (record { words = laid l r w x.words; place = behind r })

-- PUTs that all answer 0, of the records in these workspaces one after the other [R6]
unfoldable pub put_all : Layout → File → List (List ℕ) → Checked File
put_all l x [] = passed x
put_all l x (w ∷ ws) = do
  y ← puts l x w
  put_all l y ws

-- records read: the workspaces then, the place behind the last one, and how many are left
pub record Reads : Type 0 where
  pub rows : List (List ℕ)
  pub place : Place
  pub left : ℕ

-- GETs that all answer 0, one after the other, each into its own workspace [R7]
unfoldable pub get_all : Layout → Place → ℕ → List ℕ → List (List ℕ) → Checked Reads
get_all l q left f [] = passed (record { rows = []; place = q; left = left })
get_all l q left f (v ∷ vs) = do
  r ← get_spot l q left f (length v)
  rest ← get_all l (behind r) (left - 1) f vs
  passed (record {
    rows = put v 0 (part (word_of l r.place) r.words f) ∷ rest.rows;
    place = rest.place;
    left = rest.left;
  })

-- a workspace v once the record in the workspace w is read into it: the words behind the record are kept [R7]
unfoldable pub over : Layout → List ℕ → List ℕ → List ℕ
over l w v = put v 0 (part 0 (size l.kind 0 w) w)

-- the same for each of some records [R7]
unfoldable pub over_all : Layout → List (List ℕ) → List (List ℕ) → List (List ℕ)
over_all l [] vs = []
over_all l (w ∷ ws) [] = []
over_all l (w ∷ ws) (v ∷ vs) = over l w v ∷ over_all l ws vs

-- workspaces of the right length [R3]
abbrev pub Workspaces : Layout → List (List ℕ) → Type 0
Workspaces l [] = Unit {0}
Workspaces l (v ∷ vs) = (length v ≡ work_of l.kind (area l)) × Workspaces l vs

-- "What PUT writes, GET reads back in order, for both kinds": whatever stood in the file before, and whatever is put behind it later.
-- Told that so many more are left, GETs leave that number [R12]
abbrev pub ReadBack : Type 0
ReadBack =
    (l : Layout) (f : List ℕ) (ws later : List (List ℕ)) (x y : File) (vs : List (List ℕ)) (more : ℕ)
    → put_all l (record { words = f; place = first }) ws ≡ passed x
    → put_all l x later ≡ passed y
    → Workspaces l vs
    → length vs ≡ length ws
    → get_all l first (length ws + more) y.words vs ≡ passed (record { rows = over_all l ws vs; place = x.place; left = more })

-- "end of data is 030002": where as many were read as were put, all is unchanged [R11]
abbrev pub EndOfData : Type 0
EndOfData =
    (l : Layout) (q : Place) (f v : List ℕ)
    → sized l (length f) (length v) ≡ true
    → fixed_right l ≡ true
    → get_row l q 0 f v ≡ record { number = at_end; place = q; left = 0; work = v }

-- how many zero words stand behind the record that ends at a place: one behind a variable record that does not fill its block [R5]
unfoldable pub zeros_at : Layout → Place → ℕ
zeros_at l q = cond (closed_of l.kind (ltb q.at (area l))) 1 0

-- PUT changes no word but its record's and the zero word behind it [R6]
abbrev pub OnlyItsWords : Type 0
OnlyItsWords =
    (l : Layout) (x y : File) (w : List ℕ)
    → puts l x w ≡ passed y
    → (i : ℕ)
    → (i + size l.kind 0 w < word_of l y.place) ⊎ (word_of l y.place + zeros_at l y.place ≤ i)
    → get_or y.words i 0 ≡ get_or x.words i 0

-- leader words are neither read nor written [R1]
abbrev pub LeadersKept : Type 0
LeadersKept =
    (l : Layout) (x y : File) (w : List ℕ)
    → puts l x w ≡ passed y
    → (b i : ℕ)
    → i < l.leaders
    → get_or y.words (b * l.wpb + i) 0 ≡ get_or x.words (b * l.wpb + i) 0

-- "closed by a zero word unless the block is exactly full" [R5]
abbrev pub ZeroBehind : Type 0
ZeroBehind =
    (l : Layout) (x y : File) (w : List ℕ)
    → l.kind ≡ Variable
    → puts l x w ≡ passed y
    → y.place.at < area l
    → get_or y.words (word_of l y.place) 0 ≡ 0

-- "fixed records, as many whole ones as the data area holds": the record put after j others goes behind them, so many to a block, and
-- 070002 is given from the first one on that no block has room for [R4, R10]
abbrev pub WholeOnes : Type 0
WholeOnes =
    (l : Layout) (f : List ℕ) (n : ℕ) (ws : List (List ℕ)) (x : File) (w : List ℕ)
    → l.kind ≡ Fixed n
    → right l n ≡ true
    → put_all l (record { words = f; place = first }) ws ≡ passed x
    → sized l (length f) (length w) ≡ true
    → put_spot l x.place (length f) w
    ≡ cond (ltb (length ws) (blocks l (length f) * (area l / n)))
    (passed (record { place = record { block = length ws / (area l / n); at = length ws % (area l / n) * n }; words = n }))
    (refused no_room)

-- a refusal leaves "all unchanged" [R8, R9, R10, R11]
abbrev pub Unchanged : Type 0
Unchanged =
    (l : Layout) (q : Place) (left : ℕ) (f w : List ℕ)
    → (((put_row l q f w).number ≡ done → ⊥) → ((put_row l q f w).place ≡ q) × ((put_row l q f w).file ≡ f))
    × (((get_row l q left f w).number ≡ done → ⊥)
    → ((get_row l q left f w).place ≡ q) × ((get_row l q left f w).left ≡ left) × ((get_row l q left f w).work ≡ w))
