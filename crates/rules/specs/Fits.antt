-- What a way that passed its checks tells the code that follows it.
use Rattle.std.specs.Prelude.{ℕ, ◌≤◌, ◌<◌, ◌≡◌, Bool, true}
use Rattle.table.specs.Tables.{count}
use Rattle.drum.specs.Params.{D, I, detail_shape, index_shape}
use Rattle.drum.specs.Blocks.{Texts, text_of, sections, Block}
use Rattle.rules.specs.declared.Path.{Path}
use Rattle.rules.specs.declared.Taken.{Taken}
use Rattle.rules.specs.declared.Pair.{Pair}
use Rattle.rules.specs.declared.Way.{Way}
use Rattle.rules.specs.declared.Way.TheVariants.{Here, By}
use Rattle.rules.specs.Lookup.{text_at}
use Rattle.rules.specs.declared.Look.{Look}
use Rattle.rules.specs.declared.Look.TheVariants as look_is
use Rattle.rules.specs.declared.Step.{Step}
use Rattle.rules.specs.declared.Step.TheVariants as step_is
use Rattle.rules.specs.declared.Insert.{Insert}
use Rattle.rules.specs.declared.Insert.TheVariants as insert-is

-- a path: its places are below the counts, its blocks are two of 1..N, and the counts are in range
pub record PathFits (v : Texts) (w : Path) : Type 0 where
  pub sections-most : sections v.file ≤ v.desc.control
  pub section-below : w.section < sections v.file
  pub index-least : 1 ≤ w.index
  pub index-most : w.index ≤ v.desc.n
  pub entries-most : count (index_shape v.desc) (text_of v w.index) ≤ I v.desc
  pub entry-below : w.entry < count (index_shape v.desc) (text_of v w.index)
  pub detail-least : 1 ≤ w.detail
  pub detail-most : w.detail ≤ v.desc.n
  pub apart : w.index ≡ w.detail → ⊥
  pub records-least : 1 ≤ count (detail_shape v.desc) (text_of v w.detail)
  pub records-most : count (detail_shape v.desc) (text_of v w.detail) ≤ D v.desc

-- a flagged buffer has a block to be written to
abbrev pub FlushFits : Texts → Bool → Type 0
FlushFits v flag = flag ≡ true → (1 ≤ v.current) × (v.current ≤ v.desc.n)

-- the buffered block, where a test of its keys was made
pub record BufferFits (v : Texts) : Type 0 where
  pub current-least : 1 ≤ v.current
  pub current-most : v.current ≤ v.desc.n
  pub records-least : 1 ≤ count (detail_shape v.desc) v.buffer
  pub records-most : count (detail_shape v.desc) v.buffer ≤ D v.desc

-- a way: the buffered block is good; or the path is, and the buffer can be written
abbrev pub WayFits : Texts → Bool → Way → Type 0
WayFits v flag Here = BufferFits v
WayFits v flag (By w) = PathFits v w × FlushFits v flag

-- what a lookup comes to: a place in the block at the end of the way
abbrev pub LookFits : Texts → Bool → Look → Type 0
LookFits v flag (look_is.Found way i) = WayFits v flag way × (i < count (detail_shape v.desc) (text_at v way))
LookFits v flag (look_is.Missing w) = PathFits v w × FlushFits v flag

-- what ADV comes to: a place in the block reached, or in the block after the one that the first path leads to
abbrev pub StepFits : Texts → Bool → Step → Type 0
StepFits v flag (step_is.At way i) = WayFits v flag way × (i < count (detail_shape v.desc) (text_at v way))
StepFits v flag (step_is.Beyond w x i) = PathFits v x × FlushFits v flag × (i < count (detail_shape v.desc) (text_of v x.detail))

-- a new block: one of 1..N, and neither block of the path
pub record New (v : Texts) (w : Path) (b : ℕ) : Type 0 where
  pub block : Block v.desc b
  pub not-index : w.index ≡ b → ⊥
  pub not-detail : w.detail ≡ b → ⊥

-- one new block taken, and the chain's head then
pub record OneNew (v : Texts) (w : Path) (d : Taken) : Type 0 where
  pub new : New v w d.block
  pub head-most : d.head ≤ v.desc.n

-- two new blocks taken, with a section left, and the chain's head then
pub record TwoNew (v : Texts) (w : Path) (t : Pair) : Type 0 where
  pub detail : New v w t.detail
  pub index : New v w t.index.block
  pub two : t.detail ≡ t.index.block → ⊥
  pub head-most : t.index.head ≤ v.desc.n
  pub section : sections v.file < v.desc.control

-- what NSERT will do, if nothing is bad, after a lookup that the buffer did not answer: all but the write of a flagged buffer is then the same, flag or no
abbrev pub Outside : Insert → Type 0
Outside (insert-is.Stop Here n) = ⊥
Outside (insert-is.Stop (By w) n) = Unit {0}
Outside (insert-is.Room w i n) = Unit {0}
Outside (insert-is.Split w i d n) = Unit {0}
Outside (insert-is.Both w i b x n) = Unit {0}
