-- What a plan of XTEND that passed its checks tells the code that follows it, and what that code asks of the words it changes.
use Rattle.std.specs.Prelude.{ℕ, ◌+◌, ◌≤◌, ◌<◌, ◌≡◌, Bool, true, List, length}
use Rattle.table.specs.declared.Shape.{Shape}
use Rattle.table.specs.Tables.{count, place}
use Rattle.drum.specs.declared.Description.{Description}
use Rattle.drum.specs.Params.{D, I, good_params, detail_shape, index_shape}
use Rattle.drum.specs.Blocks.{Texts, Fitting, text_of, block_at, sections, Block}
use Rattle.drum.specs.Inside.{HasBlock}
use Rattle.rules.specs.declared.Held.{Held}
use Rattle.rules.specs.declared.Path.{Path}
use Rattle.rules.specs.declared.Way.{Way}
use Rattle.rules.specs.declared.Way.TheVariants.{Here, By}
use Rattle.rules.specs.declared.Insert.{Insert}
use Rattle.rules.specs.declared.Extend.{Extend}
use Rattle.rules.specs.declared.Extend.TheVariants as extend-is
use Rattle.rules.specs.Lookup.{text_at}
use Rattle.rules.specs.Fits.{PathFits, BufferFits, WayFits, New, Outside}
use Rattle.free.specs.Readied.{ReadyFits}
use Rattle.nsert.specs.Fits.{InsertFits}
use Rattle.xtend.specs.declared.deeds.Start.{Start}
use Rattle.xtend.specs.Steps.{starting}

-- the block at the end of a way, looked at where its text is
abbrev pub AtFits : Texts → Way → Type 0
AtFits v Here = BufferFits v
AtFits v (By w) = PathFits v w

-- what a deed is given beside its plan: words that fit the description, and a whole record
pub record Given (at : Held) (f b work : List ℕ) : Type 0 where
  pub fit : Fitting at.desc f b
  pub whole : length work ≡ at.desc.wpr

-- what a plan to insert tells the code that carries it out [C26]
pub record LastTakes (v : Texts) (flag : Bool) (way : Way) : Type 0 where
  pub reached : WayFits v flag way
  pub room : count (detail_shape v.desc) (text_at v way) < D v.desc

-- the end record starts a block: what both kinds of a new block have
pub record StartFits (v : Texts) (flag : Bool) (s : Start) : Type 0 where
  pub ready : ReadyFits v flag s.way s.path s.new
  pub new : New v s.path s.new.block

-- what a plan to start a block tells it [C27]
pub record NewFits (v : Texts) (flag : Bool) (s : Start) : Type 0 where
  pub start : StartFits v flag s
  pub room : count (index_shape v.desc) (text_of v s.path.index) < I v.desc

-- what a plan to start a section too tells it: x is the new index block [C29]
pub record SectionFits (v : Texts) (flag : Bool) (s : Start) (x : ℕ) : Type 0 where
  pub start : StartFits v flag s
  pub index : Block v.desc x
  pub section : sections v.file < v.desc.control

-- what a plan to do as NSERT does tells it: w is the path to the last block [E2, E4]
pub record BeforeFits (v : Texts) (flag : Bool) (w : Path) (d : Insert) : Type 0 where
  pub last : PathFits v w
  pub insert : InsertFits v flag d
  pub outside : Outside d

-- what any plan of XTEND tells it [C23]
abbrev pub ExtendFits : Texts → Bool → Extend → Type 0
ExtendFits v flag (extend-is.Stop way x n) = WayFits v flag way
ExtendFits v flag (extend-is.Room way x n) = LastTakes v flag way
ExtendFits v flag (extend-is.New way w d n) = NewFits v flag (starting way w d)
ExtendFits v flag (extend-is.Both way w b x n) =
    SectionFits v flag (starting way w (record { block = b; head = x.head; lowest = x.lowest })) x.block
ExtendFits v flag (extend-is.Before way w d) = BeforeFits v flag w d

-- the text of a detail block with n records or more
pub record RecordsIn (p : Description) (t : List ℕ) (n : ℕ) : Type 0 where
  pub good : good_params p ≡ true
  pub text-is : length t ≡ p.wpb
  pub least : n ≤ count (detail_shape p) t
  pub most : count (detail_shape p) t ≤ D p

-- the last block's text in the buffer, with the record that takes the end record's place
pub record EndIn (p : Description) (f b work : List ℕ) : Type 0 where
  pub fit : Fitting p f b
  pub records : RecordsIn p b 1
  pub record_is : length work ≡ p.wpr

-- a table with an entry, and a key for its last bound
pub record LastIn (p : Description) (h : Shape) (t key : List ℕ) : Type 0 where
  pub base : 1 ≤ h.base
  pub stride : h.stride ≡ p.k + 1
  pub least : 1 ≤ count h t
  pub within : place h (count h t) ≤ length t
  pub key-is : p.k ≤ length key

-- the same with room for an entry more, of block b
pub record LastRoomIn (p : Description) (h : Shape) (t key : List ℕ) (b : ℕ) : Type 0 where
  pub good : good_params p ≡ true
  pub last : LastIn p h t key
  pub most : h.tag + count h t < 262143
  pub room : place h (count h t) + h.stride ≤ length t
  pub block : b ≤ 262143

-- index block i, where it lies in the file, and a key for its last bound
pub record IndexTakes (p : Description) (f : List ℕ) (i : ℕ) (key : List ℕ) : Type 0 where
  pub held : HasBlock p f i
  pub least : 1 ≤ count (index_shape p) (block_at p f i)
  pub most : count (index_shape p) (block_at p f i) ≤ I p
  pub key-is : p.k ≤ length key

-- the same with a new index block x for the entry of block b, and room for its section
pub record SectionIn (p : Description) (f : List ℕ) (i : ℕ) (key : List ℕ) (b x : ℕ) : Type 0 where
  pub old : IndexTakes p f i key
  pub new : HasBlock p f x
  pub entry : b ≤ p.n
  pub least : 1 ≤ sections f
  pub room : sections f < p.control
