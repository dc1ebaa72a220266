-- What the code of a split asks and leaves, of a cut.
use Rattle.std.specs.Prelude.{ℕ, ◌+◌, ◌*◌, ◌≤◌, ◌<◌, ◌≡◌, true, List, length}
use Rattle.words.specs.Words.{part}
use Rattle.table.specs.Splits.{one_more}
use Rattle.drum.specs.Params.{good_params}
use Rattle.drum.specs.Blocks.{Fitting}
use Rattle.split.specs.declared.Cut.{Cut}
use Rattle.split.specs.Halves.{staying, leaving, halved, low_entry}

-- a full table in the buffer, a row more, and the number of one of all these rows
pub record HasRow (x : Cut) (j : ℕ) (t row : List ℕ) : Type 0 where
  pub good : good_params x.desc ≡ true
  pub text-is : length t ≡ x.desc.wpb
  pub row-long : x.shape.stride ≤ length row
  pub row-most : j ≤ x.rows

-- the words of the rows of t with one more put in, and row j of them [C12]
abbrev pub all_rows : Cut → List ℕ → List ℕ → List ℕ
all_rows x row t = one_more x.shape x.rows x.place (part 0 x.shape.stride row) t

-- row j of them [C12]
abbrev pub more_row : Cut → ℕ → List ℕ → List ℕ → List ℕ
more_row x j row t = part (j * x.shape.stride) x.shape.stride (all_rows x row t)

-- a full block in the buffer, of which `low` rows stay, the block for the others, and a row more that is whole
pub record Shares (x : Cut) (low : ℕ) (f b row : List ℕ) : Type 0 where
  pub fitting : Fitting x.desc f b
  pub new-least : 1 ≤ x.new
  pub new-most : x.new ≤ x.desc.n
  pub low-least : 1 ≤ low
  pub low-most : low ≤ x.rows
  pub row-long : x.shape.stride ≤ length row

-- a full block in the buffer, its own block and the one for the rows that leave; a row more that is whole, and room for an entry
pub record Divides (x : Cut) (f b row entry : List ℕ) : Type 0 where
  pub fitting : Fitting x.desc f b
  pub old-least : 1 ≤ x.old
  pub old-most : x.old ≤ x.desc.n
  pub new-least : 1 ≤ x.new
  pub new-most : x.new ≤ x.desc.n
  pub apart : x.old ≡ x.new → ⊥
  pub key-within : x.shape.width ≤ x.shape.stride
  pub row-long : x.shape.stride ≤ length row
  pub entry-long : x.shape.width + 1 ≤ length entry

-- the same, where the entry at the place becomes two, the second of block b [C13, C15]
pub record DividesIn (x : Cut) (b : ℕ) (f t row entry : List ℕ) : Type 0 where
  pub divides : Divides x f t row entry
  pub below : x.place < x.rows
  pub named : x.shape.width < x.shape.stride
  pub number : b ≤ 262143

-- the two texts when `low` rows stay, of row r and text t [C12]
abbrev pub lower : Cut → ℕ → List ℕ → List ℕ → List ℕ
lower x low r t = staying x.desc.wpb x.shape x.rows low x.place r t

-- the upper of the two texts [C12]
abbrev pub upper : Cut → ℕ → List ℕ → List ℕ → List ℕ
upper x low r t = leaving x.desc.wpb x.shape x.rows low x.place r t

-- the file with the two halves written [C12]
abbrev pub halved_by : Cut → List ℕ → List ℕ → List ℕ → List ℕ
halved_by x r t f = halved x.desc x.shape x.rows x.place r t x.old x.new f

-- the entry of the half that stays [C13]
abbrev pub entry_by : Cut → List ℕ → List ℕ → List ℕ
entry_by x r t = low_entry x.desc x.shape x.rows x.place r t x.old
