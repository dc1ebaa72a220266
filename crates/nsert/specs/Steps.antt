-- The file between the steps of a split, as the code leaves it.
use Rattle.std.specs.Prelude.{ℕ, Bool, List}
use Rattle.table.specs.Splits.{renamed, entered}
use Rattle.drum.specs.declared.Description.{Description}
use Rattle.drum.specs.Params.{I, index_shape, master_shape}
use Rattle.drum.specs.Blocks.{Texts, block_at, put_block}
use Rattle.rules.specs.declared.Path.{Path}
use Rattle.rules.specs.declared.Way.TheVariants.{By}
use Rattle.rules.specs.NsertDone.{detail_low, detail_high}
use Rattle.free.specs.Readied.{ready_file}
use Rattle.split.specs.Halves.{halved, low_entry}
use Rattle.nsert.specs.declared.splits.Overflow.{Overflow}

-- the detail block split, r the record put in
unfoldable pub cut_file : Texts → Bool → Overflow → List ℕ → List ℕ
cut_file v flag c r =
    let w = c.path in
    put_block v.desc (put_block v.desc (ready_file v flag (By w) w c.new) w.detail (detail_low v w c.place r)) c.new.block
    (detail_high v w c.place r)

-- the full index block split, with its entry that becomes two, r and block b; x its new block, and "the master entered likewise"
unfoldable pub above_file : Description → Path → List ℕ → ℕ → ℕ → List ℕ → List ℕ
above_file p w r b x f =
    let t = renamed (index_shape p) w.entry b (block_at p f w.index) in
    entered (master_shape p) w.section (low_entry p (index_shape p) (I p) w.entry r t w.index) x
    (halved p (index_shape p) (I p) w.entry r t w.index x f)
