-- Document 01, NSERT: what it will do, decided from current texts alone, every number checked.
use Rattle.std.specs.Prelude.{ℕ, ◌+◌, ◌-◌, Bool, cond, List, ltb, eqb}
use Rattle.numbers.specs.Numbers.{not_found, no_room, bad_file}
use Rattle.numbers.specs.Checked.{Checked, passed, refused, ◌>>=◌, ◌>>◌}
use Rattle.table.specs.Tables.{count, row_above}
use Rattle.table.specs.Splits.{low_count}
use Rattle.drum.specs.Params.{D, I, detail_shape, index_shape}
use Rattle.drum.specs.Blocks.{Texts, text_of, chain_head, lowest_unused}
use Rattle.rules.specs.declared.Path.{Path}
use Rattle.rules.specs.declared.Way.TheVariants.{By}
use Rattle.rules.specs.declared.Look.{Look}
use Rattle.rules.specs.declared.Look.TheVariants as look_is
use Rattle.rules.specs.declared.Insert.{Insert}
use Rattle.rules.specs.declared.Insert.TheVariants.{Stop, Room, Split, Both}
use Rattle.rules.specs.Lookup.{look}
use Rattle.rules.specs.Free.{take_one, take_two, stored_number}

-- how many records the half has in which the one put in at place i of n falls [C12]
abbrev pub half_count : ℕ → ℕ → ℕ
half_count n i = cond (ltb i (low_count n)) (low_count n) (n + 1 - low_count n)

-- "if the block has room, insert": at place i [C11]
unfoldable pub room_deed : Texts → Path → ℕ → Checked Insert
room_deed v w i = do
  number ← stored_number v.desc (count (detail_shape v.desc) (text_of v w.detail) + 1) (chain_head v.file) (lowest_unused v.file)
  passed (Room w i number)

-- "Full": one new block is needed [C12, N8, N9]
unfoldable pub split_deed : Texts → Bool → Path → ℕ → Checked Insert
split_deed v flag w i = do
  d ← take_one v flag w
  cond (eqb d.block 0) (passed (Stop (By w) no_room)) (do
    number ← stored_number v.desc (half_count (D v.desc) i) d.head d.lowest
    passed (Split w i d number))

-- "A full index splits likewise": two new blocks are needed, and a section [C15, N8, N9]
unfoldable pub both_deed : Texts → Bool → Path → ℕ → Checked Insert
both_deed v flag w i = do
  t ← take_two v flag w
  cond (eqb t.detail 0) (passed (Stop (By w) no_room)) (do
    number ← stored_number v.desc (half_count (D v.desc) i) t.index.head t.index.lowest
    passed (Both w i t.detail t.index number))

-- "not found": the record goes to place i of the block at the end of the way w [C11, C12, C15]
unfoldable pub insert_at : Texts → Bool → Path → ℕ → Checked Insert
insert_at v flag w i =
    cond (ltb (count (detail_shape v.desc) (text_of v w.detail)) (D v.desc)) (room_deed v w i)
    (cond (ltb (count (index_shape v.desc) (text_of v w.index)) (I v.desc)) (split_deed v flag w i) (both_deed v flag w i))

-- "NSERT duplicate"; else before the first record above the key [C10, N6]
unfoldable pub insert_after : Texts → Bool → List ℕ → Look → Checked Insert
insert_after v flag key (look_is.Found way i) = passed (Stop way not_found)
insert_after v flag key (look_is.Missing w) =
    insert_at v flag w (row_above (detail_shape v.desc) key (text_of v w.detail))

-- the lookup, and then what NSERT will do [C10]
unfoldable pub insert_deed : Texts → Bool → List ℕ → Checked Insert
insert_deed v flag key = do
  l ← look v flag key
  insert_after v flag key l
