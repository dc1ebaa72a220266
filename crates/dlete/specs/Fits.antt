-- What a plan of DLETE that passed its checks tells the code that follows it.
use Rattle.std.specs.Prelude.{ℕ, ◌≤◌, ◌<◌, ◌≡◌, Bool, true, List, length}
use Rattle.table.specs.Tables.{count}
use Rattle.drum.specs.declared.Description.{Description}
use Rattle.drum.specs.Params.{I, good_params, file_size, detail_shape, index_shape}
use Rattle.drum.specs.Blocks.{Block, block_at, Texts, text_of}
use Rattle.rules.specs.declared.Path.{Path}
use Rattle.rules.specs.declared.Way.{Way}
use Rattle.rules.specs.declared.Way.TheVariants.{By}
use Rattle.rules.specs.declared.Delete.{Delete}
use Rattle.rules.specs.declared.Delete.TheVariants.{Stop, Remove, Empty, Both}
use Rattle.rules.specs.Lookup.{text_at}
use Rattle.rules.specs.Fits.{PathFits, WayFits}

-- the text of an index block, with an entry that is not the only one
pub record HasEntry (p : Description) (t : List ℕ) (j : ℕ) : Type 0 where
  pub good : good_params p ≡ true
  pub text-is : length t ≡ p.wpb
  pub others : 1 < count (index_shape p) t
  pub most : count (index_shape p) t ≤ I p
  pub below : j < count (index_shape p) t

-- the same of index block b, where it lies in the file
pub record EntryIn (p : Description) (f : List ℕ) (b j : ℕ) : Type 0 where
  pub file-is : length f ≡ file_size p
  pub block : Block p b
  pub entry : HasEntry p (block_at p f b) j

-- a record taken out of its block: the way that reaches the block is good, and the record is in it
pub record RemoveFits (v : Texts) (flag : Bool) (way : Way) (i : ℕ) : Type 0 where
  pub reached : WayFits v flag way
  pub below : i < count (detail_shape v.desc) (text_at v way)

-- an emptied block: the way that reaches it, the path to it, and the head of the chain are good
pub record EmptyFits (v : Texts) (flag : Bool) (way : Way) (w : Path) (head : ℕ) : Type 0 where
  pub reached : WayFits v flag way
  pub path : PathFits v w
  pub chained : head ≤ v.desc.n

-- an emptied block whose index block is not left empty
pub record OneFits (v : Texts) (flag : Bool) (way : Way) (w : Path) (head : ℕ) : Type 0 where
  pub emptied : EmptyFits v flag way w head
  pub others : 1 < count (index_shape v.desc) (text_of v w.index)

-- what a plan of DLETE tells the code that carries it out
abbrev pub DeleteFits : Texts → Bool → Delete → Type 0
DeleteFits v flag (Stop w) = WayFits v flag (By w)
DeleteFits v flag (Remove way i) = RemoveFits v flag way i
DeleteFits v flag (Empty way w head) = OneFits v flag way w head
DeleteFits v flag (Both way w head) = EmptyFits v flag way w head
