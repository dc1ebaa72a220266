-- Ways to blocks. Document 01, "Lookup": "the index block under the first master bound not below the key .. the detail block the same
-- way"; ADV's first and next block, XTEND's last. Every number on the way is checked, in current texts.
use Rattle.std.specs.Prelude.{ℕ, ◌-◌, not, List, [], ltb, eqb}
use Rattle.numbers.specs.Numbers.{bad_file}
use Rattle.numbers.specs.Checked.{Checked, passed, ◌>>=◌, ◌>>◌, require, within}
use Rattle.table.specs.declared.Shape.{Shape}
use Rattle.table.specs.Tables.{count, row_from, block_in}
use Rattle.drum.specs.declared.Description.{Description}
use Rattle.drum.specs.Params.{D, I, master_shape, index_shape, detail_shape}
use Rattle.drum.specs.Blocks.{Texts, text_of}
use Rattle.rules.specs.declared.Which.{Which}
use Rattle.rules.specs.declared.Which.TheVariants.{First, Last, Place, Covering}
use Rattle.rules.specs.declared.Entry.{Entry}
use Rattle.rules.specs.declared.Path.{Path}

-- the place in the table t that is wanted
abbrev pub chosen : Which → Shape → List ℕ → List ℕ → ℕ
chosen First h key t = 0
chosen Last h key t = count h t - 1
chosen (Place i) h key t = i
chosen Covering h key t = row_from h key t

-- the entry there: "a count outside ..", "no bound reached", "a block used outside 1..N" are bad [B1, B2, B3]
unfoldable pub entry_of : Description → Shape → ℕ → Which → List ℕ → List ℕ → Checked Entry
entry_of p h most which key t = do
  n ← within 1 most (count h t)
  require (ltb (chosen which h key t) n) bad_file
  b ← within 1 p.n (block_in h t (chosen which h key t))
  passed (record { place = chosen which h key t; block = b })

-- the way by master entry m and index entry e: "an index block that is also the detail block under it", "a count outside 1..D" are bad [B1, B4]
unfoldable pub path_at : Texts → Entry → Entry → Checked Path
path_at v m e = do
  require (not (eqb m.block e.block)) bad_file
  within 1 (D v.desc) (count (detail_shape v.desc) (text_of v e.block))
  passed (record { section = m.place; index = m.block; entry = e.place; detail = e.block })

-- the way by master entry m and the entry of its index block that is wanted: "a count outside .. 1..I" [B1]
unfoldable pub path_under : Texts → Which → List ℕ → Entry → Checked Path
path_under v which key m = do
  e ← entry_of v.desc (index_shape v.desc) (I v.desc) which key (text_of v m.block)
  path_at v m e

-- the way by the master's entry that is wanted, and its index block's: "sections outside 1..CONTROL" [B1]
unfoldable pub path_by : Texts → Which → Which → List ℕ → Checked Path
path_by v top which key = do
  m ← entry_of v.desc (master_shape v.desc) v.desc.control top key v.file
  path_under v which key m

-- the way to the block that covers the key; to the first block; to the last [C2]
abbrev pub path_to : Texts → List ℕ → Checked Path
path_to v key = path_by v Covering Covering key

-- the way to the first block [C7]
abbrev pub first_path : Texts → Checked Path
first_path v = path_by v First First []

-- the way to the last block, by last entries [C23]
abbrev pub last_path : Texts → Checked Path
last_path v = path_by v Last Last []
