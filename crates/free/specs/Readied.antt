-- The file made ready for new blocks, as the code leaves it. The index block's text stands in the file before it is changed there, so that
-- the buffer is free for the detail block; the write of the index block that follows makes no difference to it.
use Rattle.std.specs.Prelude.{ℕ, ◌≤◌, ◌≡◌, Bool, List}
use Rattle.drum.specs.Blocks.{Texts, text_of, put_block, written}
use Rattle.rules.specs.declared.Path.{Path}
use Rattle.rules.specs.declared.Way.{Way}
use Rattle.rules.specs.declared.Taken.{Taken}
use Rattle.rules.specs.Lookup.{reached, text_at}
use Rattle.rules.specs.Free.{with_free}
use Rattle.rules.specs.Fits.{PathFits, WayFits}

-- the way is good, the path leads to the block at its end, and word 1 will be a block's number or 0
pub record ReadyFits (v : Texts) (flag : Bool) (way : Way) (w : Path) (d : Taken) : Type 0 where
  pub reached : WayFits v flag way
  pub path : PathFits v w
  pub text : text_at v way ≡ text_of v w.detail
  pub head-most : d.head ≤ v.desc.n

-- words 1 and 2 of the master set, and the way followed
unfoldable pub reached_file : Texts → Bool → Way → Taken → List ℕ
reached_file v flag way d = written v.desc (reached v flag way).moves (with_free d.head d.lowest v.file)

-- and the index block as it was when the call began
unfoldable pub ready_file : Texts → Bool → Way → Path → Taken → List ℕ
ready_file v flag way w d = put_block v.desc (reached_file v flag way d) w.index (text_of v w.index)
