-- What NSERT's deed, once it passed its checks, tells the code that does it.
use Rattle.std.specs.Prelude.{ℕ, ◌≤◌, ◌<◌, ◌≡◌, Bool, List, length}
use Rattle.table.specs.Tables.{count}
use Rattle.drum.specs.declared.Description.{Description}
use Rattle.drum.specs.Params.{D, I, detail_shape, index_shape}
use Rattle.drum.specs.Blocks.{Fitting, Texts, text_of, sections, Block}
use Rattle.rules.specs.declared.Held.{Held}
use Rattle.rules.specs.declared.Path.{Path}
use Rattle.rules.specs.declared.Taken.{Taken}
use Rattle.rules.specs.declared.Insert.{Insert}
use Rattle.rules.specs.declared.Insert.TheVariants.{Stop, Room, Split, Both}
use Rattle.rules.specs.Fits.{PathFits, FlushFits, WayFits, New, OneNew}
use Rattle.nsert.specs.declared.splits.Overflow.{Overflow}

-- what a plan to insert tells the code that carries it out [C11]
pub record RoomFits (v : Texts) (flag : Bool) (w : Path) (i : ℕ) : Type 0 where
  pub flush : FlushFits v flag
  pub path : PathFits v w
  pub place : i ≤ count (detail_shape v.desc) (text_of v w.detail)
  pub room : count (detail_shape v.desc) (text_of v w.detail) < D v.desc

-- the detail block is split: what both kinds of a split have
pub record CutFits (v : Texts) (flag : Bool) (c : Overflow) : Type 0 where
  pub flush : FlushFits v flag
  pub path : PathFits v c.path
  pub place : c.place ≤ D v.desc
  pub new : OneNew v c.path c.new

-- the two blocks of a split detail block
pub record HalfFits (p : Description) (c : Overflow) : Type 0 where
  pub old-least : 1 ≤ c.path.detail
  pub old-most : c.path.detail ≤ p.n
  pub new-least : 1 ≤ c.new.block
  pub new-most : c.new.block ≤ p.n

-- what a plan to split tells it [C12]
pub record SplitFits (v : Texts) (flag : Bool) (c : Overflow) : Type 0 where
  pub cut : CutFits v flag c
  pub room : count (index_shape v.desc) (text_of v c.path.index) < I v.desc

-- what a plan to split the index block too tells it: x is the new index block [C15]
pub record BothFits (v : Texts) (flag : Bool) (c : Overflow) (x : ℕ) : Type 0 where
  pub cut : CutFits v flag c
  pub index : New v c.path x
  pub two : c.new.block ≡ x → ⊥
  pub section : sections v.file < v.desc.control

-- one split, and the first of two
abbrev pub one_split : Path → ℕ → Taken → Overflow
one_split w i d = record { path = w; place = i; new = d }

-- the first of two: words 1 and 2 are those after the second new block
abbrev pub first_split : Path → ℕ → ℕ → Taken → Overflow
first_split w i b x = one_split w i (record { block = b; head = x.head; lowest = x.lowest })

-- what any plan of NSERT tells it [C10]
abbrev pub InsertFits : Texts → Bool → Insert → Type 0
InsertFits v flag (Stop way n) = WayFits v flag way
InsertFits v flag (Room w i n) = RoomFits v flag w i
InsertFits v flag (Split w i d n) = SplitFits v flag (one_split w i d)
InsertFits v flag (Both w i b x n) = BothFits v flag (first_split w i b x) x.block

-- the words lent are the file's and the buffer's, and the record put in is whole
pub record Lent (at : Held) (f b work : List ℕ) : Type 0 where
  pub fitting : Fitting at.desc f b
  pub whole : length work ≡ at.desc.wpr

-- a full index block in the file f, and a section left in the master: x is its new block
pub record AboveFits (p : Description) (f : List ℕ) (c : Overflow) (x : ℕ) : Type 0 where
  pub index : Block p c.path.index
  pub new : Block p x
  pub apart : c.path.index ≡ x → ⊥
  pub entry-below : c.path.entry < I p
  pub named : c.new.block ≤ p.n
  pub section-below : c.path.section < sections f
  pub section-left : sections f < p.control

-- the new index block of two splits, with the same words 1 and 2
abbrev pub second_of : Overflow → ℕ → Taken
second_of c x = record { block = x; head = c.new.head; lowest = c.new.lowest }
