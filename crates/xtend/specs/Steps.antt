-- The file between the steps of XTEND, as the code leaves it. The new block is written before the old one, whose end record it takes; that
-- makes no difference to the file once the index block is written.
use Rattle.std.specs.Prelude.{ℕ, ◌+◌, ◌-◌, Bool, cond, List, [], ◌∷◌, ◌++◌, eqb}
use Rattle.numbers.specs.Checked.{Checked, passed}
use Rattle.table.specs.Tables.{count, row, inserted, replaced, laid}
use Rattle.drum.specs.declared.Description.{Description}
use Rattle.drum.specs.Params.{master_shape, index_shape, detail_shape}
use Rattle.drum.specs.Blocks.{Transfer, Read, Texts, block_at, put_block}
use Rattle.rules.specs.declared.Path.{Path}
use Rattle.rules.specs.declared.Way.{Way}
use Rattle.rules.specs.declared.Way.TheVariants.{Here, By}
use Rattle.rules.specs.declared.Taken.{Taken}
use Rattle.rules.specs.declared.Done.{Done}
use Rattle.rules.specs.State.{Effect, record_in}
use Rattle.rules.specs.Lookup.{reached, text_at, storing}
use Rattle.rules.specs.XtendDone.{ones_entry, bounded, extended, new_moves, section_moves, new_file, section_file}
use Rattle.free.specs.Readied.{ready_file}
use Rattle.xtend.specs.declared.deeds.Start.{Start}

-- "read the index (1), buffer kept": the read of index block x, where it is not 0 [C24]
unfoldable pub read_of : ℕ → List Transfer
read_of x = cond (eqb x 0) [] (Read x ∷ [])

-- how many transfers reach the last block and read its index block, a flagged buffer's write apart [C23, C24, E2]
abbrev pub lead : Way → ℕ
lead Here = 1
lead (By w) = 3

-- transfers counted besides: that read; or those of "the last block is reached as now and a lookup for the key follows" [C24, E2]
abbrev pub counting : ℕ → Done → Done
counting more d = record {
  number = d.number;
  transfers = d.transfers + more;
  current = d.current;
  flag = d.flag;
  keyed = d.keyed;
}

-- "insert before the end record, flag on", no index block read besides [C26]
unfoldable pub room_done : Texts → Bool → List ℕ → Way → ℕ → Checked Effect
room_done v flag work way n =
    let here = reached v flag way in
    passed (storing n work here (inserted (detail_shape v.desc) (count (detail_shape v.desc) here.buffer - 1) (record_in v.desc work) here.buffer))

-- a new block to be started, of its three parts
abbrev pub starting : Way → Path → Taken → Start
starting way w d = record { way = way; path = w; new = d }

-- "the record takes the end record's place and the end record starts a new block": t is the old block's text, b the new block [C27]
unfoldable pub swapped : Description → ℕ → ℕ → List ℕ → List ℕ → List ℕ → List ℕ
swapped p b old work t f =
    put_block p (put_block p f b (laid p.wpb ((detail_shape p).tag + 1) (row (detail_shape p) t (count (detail_shape p) t - 1)))) old
    (replaced (detail_shape p) (count (detail_shape p) t - 1) (record_in p work) t)

-- the file with the new block laid [C27]
unfoldable pub started_file : Texts → Bool → Start → List ℕ → List ℕ
started_file v flag s work = swapped v.desc s.new.block s.path.detail work (text_at v s.way) (ready_file v flag s.way s.path s.new)

-- "the entry starts a new index block": i is the old index block, its last bound the key, and x the new one with the entry for block b [C29]
unfoldable pub indexed : Description → List ℕ → ℕ → ℕ → ℕ → List ℕ → List ℕ
indexed p key i b x f =
    put_block p (put_block p f i (bounded (index_shape p) key (block_at p f i))) x (laid p.wpb ((index_shape p).tag + 1) (ones_entry p b))

-- "and section, the old section's bound becoming the key" [C29]
unfoldable pub sectioned : Description → List ℕ → ℕ → ℕ → ℕ → List ℕ → List ℕ
sectioned p key i b x f = extended p (master_shape p) key x (indexed p key i b x f)

-- all transfers of a new block [C28]
unfoldable pub new_all : Texts → Bool → Start → List ℕ → List Transfer
new_all v flag s work = (reached v flag s.way).moves ++ new_moves v s.way s.path work s.new.block

-- the file that they leave [C28]
unfoldable pub new_left : Texts → Bool → Start → List ℕ → List ℕ
new_left v flag s work = new_file v flag s.way s.path work s.new

-- all transfers of a new block with a new index block x, and a section [C29]
unfoldable pub section_all : Texts → Bool → Start → ℕ → List ℕ → List Transfer
section_all v flag s x work = (reached v flag s.way).moves ++ section_moves v s.way s.path work s.new.block x

-- the file that they leave [C29]
unfoldable pub section_left : Texts → Bool → Start → ℕ → List ℕ → List ℕ
section_left v flag s x work =
    section_file v flag s.way s.path work s.new.block (record { block = x; head = s.new.head; lowest = s.new.lowest })
