-- Document 01, XTEND, and document 02, "Extending after the last name was struck off": what it will do, decided from current texts alone, every number
-- checked.
use Rattle.std.specs.Prelude.{ℕ, ◌+◌, ◌-◌, Bool, true, cond, not, ◌&&◌, ◌||◌, List, ltb, eqb}
use Rattle.numbers.specs.Numbers.{out_of_sequence, no_room, bad_file}
use Rattle.numbers.specs.Checked.{Checked, passed, ◌>>=◌, ◌>>◌, require}
use Rattle.words.specs.Keys.{key_lt, is_ones}
use Rattle.table.specs.Tables.{count, key_at, row_with, row_above}
use Rattle.drum.specs.declared.Description.{Description}
use Rattle.drum.specs.Params.{FD, FI, master_shape, index_shape, detail_shape}
use Rattle.drum.specs.Blocks.{Texts, text_of, chain_head, lowest_unused}
use Rattle.rules.specs.declared.Path.{Path}
use Rattle.rules.specs.declared.Way.{Way}
use Rattle.rules.specs.declared.Way.TheVariants.{Here, By}
use Rattle.rules.specs.declared.Insert.{Insert}
use Rattle.rules.specs.declared.Insert.TheVariants as insert-is
use Rattle.rules.specs.declared.Extend.{Extend}
use Rattle.rules.specs.declared.Extend.TheVariants.{Stop, Room, New, Both, Before}
use Rattle.rules.specs.Paths.{path_to, last_path}
use Rattle.rules.specs.Lookup.{on_buffer, flush_ok, text_at}
use Rattle.rules.specs.Free.{take_one, take_two, stored_number}
use Rattle.rules.specs.Nsert.{insert_at}

-- the key of the last record is ONES [C23]
abbrev pub ends_in_ones : Description → List ℕ → Bool
ends_in_ones p t = is_ones (key_at (detail_shape p) t (count (detail_shape p) t - 1))

-- "else write if flagged, index and detail of the last block"; "for XTEND a last record whose key is not ONES" is bad [C23, B6]
unfoldable pub last_outside : Texts → Bool → Checked Way
last_outside v flag = do
  w ← last_path v
  require (ends_in_ones v.desc (text_of v w.detail)) bad_file
  require (flush_ok v flag) bad_file
  passed (By w)

-- "buffer ends in ONES: 0, else .." [C23]
unfoldable pub last_way : Texts → Bool → Checked Way
last_way v flag = do
  here ← on_buffer v (ends_in_ones v.desc v.buffer)
  cond here (passed Here) (last_outside v flag)

-- the path to the last block: the one it was brought by; of a buffered block the last entries', and "an index entry, the last one for XTEND,
-- that names another block than the one in the buffer" is bad [B8]
unfoldable pub last_of : Texts → Way → Checked Path
last_of v (By w) = passed w
last_of v Here = do
  w ← last_path v
  require (eqb w.detail v.current) bad_file
  passed w

-- "Fewer than FD records: insert before the end record": x is the index block that was read for it, or 0 [C26]
unfoldable pub last_room : Texts → Way → ℕ → Checked Extend
last_room v way x = do
  number ← stored_number v.desc (count (detail_shape v.desc) (text_at v way) + 1) (chain_head v.file) (lowest_unused v.file)
  passed (Room way x number)

-- "not above the bound before that block (never, with none before)": w is the path to that block [C25, E2]
unfoldable pub not_above_before : Texts → List ℕ → Path → Bool
not_above_before v key w =
    cond (eqb w.entry 0)
    (not (eqb w.section 0) && not (key_lt (key_at (master_shape v.desc) v.file (w.section - 1)) key))
    (not (key_lt (key_at (index_shape v.desc) (text_of v w.index) (w.entry - 1)) key))

-- "the one before the last block": the entry of the path q is the one just before that of w, in its index block or the last of the section before [E3]
unfoldable pub just_before : Texts → Path → Path → Bool
just_before v q w =
    cond (eqb w.entry 0)
    (eqb (q.section + 1) w.section && eqb (q.entry + 1) (count (index_shape v.desc) (text_of v q.index)))
    (eqb q.section w.section && eqb (q.entry + 1) w.entry)

-- "If it finds the key, stops at another bound than the one before the last block, or shows a last key not below the key, the answer is 5" [E3]
unfoldable pub not_behind : Texts → List ℕ → Path → Path → Bool
not_behind v key w q =
    let h = detail_shape v.desc in
    let t = text_of v q.detail in
    ltb (row_with h key t) (count h t) || (not (just_before v q w) || not (key_lt (key_at h t (count h t - 1)) key))

-- "a new block equal to any other block in the call's list of transfers" is bad: besides those of NSERT's list, the last block's index block,
-- which is read, and the last block where it was brought [B5, E2]
unfoldable pub apart : Way → Path → ℕ → Bool
apart Here w b = not (eqb b w.index)
apart (By _) w b = not (eqb b w.index) && not (eqb b w.detail)

-- the same of each new block that NSERT takes [B5, E4]
unfoldable pub new_apart : Way → Path → Insert → Bool
new_apart way w (insert-is.Stop _ _) = true
new_apart way w (insert-is.Room _ _ _) = true
new_apart way w (insert-is.Split q i d n) = apart way w d.block
new_apart way w (insert-is.Both q i b x n) = apart way w b && apart way w x.block

-- "otherwise the record is stored as NSERT stores it": in the block at the end of the path q, before the first record above the key [E4, E7]
unfoldable pub insert_before : Texts → Bool → List ℕ → Way → Path → Path → Checked Extend
insert_before v flag key way w q = do
  d ← insert_at v flag q (row_above (detail_shape v.desc) key (text_of v q.detail))
  require (new_apart way w d) bad_file
  passed (Before way w d)

-- "a lookup for the key follows": never answered by the buffer, which holds the last block, whose one key is ONES [E2, E3]
unfoldable pub look_deed : Texts → Bool → List ℕ → Way → Path → Checked Extend
look_deed v flag key way w = do
  q ← path_to v key
  cond (not_behind v key w q) (passed (Before way w (insert-is.Stop (By q) out_of_sequence))) (insert_before v flag key way w q)

-- "If it holds only the end record, read the index (1), buffer kept"; "Where .. the key is not above the bound before it .. a lookup for the key follows"
-- [C24, E2]
unfoldable pub alone_deed : Texts → Bool → List ℕ → Way → Checked Extend
alone_deed v flag key way = do
  w ← last_of v way
  cond (not_above_before v key w) (look_deed v flag key way w) (last_room v way w.index)

-- "the end record starts a new block": one new block is needed; n is the number of records that the record's block keeps [C27, N8, N9]
unfoldable pub start_deed : Texts → Bool → Way → Path → ℕ → Checked Extend
start_deed v flag way w n = do
  d ← take_one v flag w
  cond (eqb d.block 0) (passed (Stop way 0 no_room)) (do
    number ← stored_number v.desc n d.head d.lowest
    passed (New way w d number))

-- "the entry starts a new index block and section": two new blocks are needed, and a section [C29, N8, N9]
unfoldable pub section_deed : Texts → Bool → Way → Path → ℕ → Checked Extend
section_deed v flag way w n = do
  t ← take_two v flag w
  cond (eqb t.detail 0) (passed (Stop way 0 no_room)) (do
    number ← stored_number v.desc n t.index.head t.index.lowest
    passed (Both way w t.detail t.index number))

-- "If the index holds FI or more" [C27, C29]
unfoldable pub new_at : Texts → Bool → Way → Path → ℕ → Checked Extend
new_at v flag way w n =
    cond (ltb (count (index_shape v.desc) (text_of v w.index)) (FI v.desc)) (start_deed v flag way w n) (section_deed v flag way w n)

-- the path to the last block, and then its new block [C27]
unfoldable pub new_deed : Texts → Bool → Way → Checked Extend
new_deed v flag way = do
  w ← last_of v way
  new_at v flag way w (count (detail_shape v.desc) (text_at v way))

-- "Out of sequence (5) when the key is not above the highest ordinary key there" [C25, C26, C27]
unfoldable pub extend_at : Texts → Bool → List ℕ → Way → Checked Extend
extend_at v flag key way =
    let h = detail_shape v.desc in
    let t = text_at v way in
    cond (eqb (count h t) 1) (alone_deed v flag key way)
    (cond (not (key_lt (key_at h t (count h t - 2)) key)) (passed (Stop way 0 out_of_sequence))
    (cond (ltb (count h t) (FD v.desc)) (last_room v way 0) (new_deed v flag way)))

-- the way to the last block, and then what XTEND will do [C23]
unfoldable pub extend_deed : Texts → Bool → List ℕ → Checked Extend
extend_deed v flag key = do
  way ← last_way v flag
  extend_at v flag key way
