-- Document 01, XTEND, and document 02, "Extending after the last name was struck off": what it does.
use Rattle.std.specs.Prelude.{ℕ, ◌+◌, ◌-◌, Bool, cond, List, [], ◌∷◌, ◌++◌, eqb}
use Rattle.numbers.specs.Numbers.{bad_file}
use Rattle.numbers.specs.Checked.{Checked, passed, refused, ◌>>=◌, ◌>>◌}
use Rattle.words.specs.Keys.{ones}
use Rattle.table.specs.declared.Shape.{Shape}
use Rattle.table.specs.Tables.{count, row, inserted, replaced, laid}
use Rattle.drum.specs.declared.Description.{Description}
use Rattle.drum.specs.Params.{master_shape, index_shape, detail_shape}
use Rattle.drum.specs.Blocks.{Transfer, Read, Write, written, Texts, text_of}
use Rattle.rules.specs.declared.Path.{Path}
use Rattle.rules.specs.declared.Way.{Way}
use Rattle.rules.specs.declared.Taken.{Taken}
use Rattle.rules.specs.declared.Extend.{Extend}
use Rattle.rules.specs.declared.Extend.TheVariants.{Stop, Room, New, Both, Before}
use Rattle.rules.specs.State.{State, Outcome, Effect, desc, texts, key_in, record_in}
use Rattle.rules.specs.Checks.{keyed_call}
use Rattle.rules.specs.Lookup.{Reached, reached, text_at, stopping, storing, landing}
use Rattle.rules.specs.Free.{with_free}
use Rattle.rules.specs.NsertDone.{insert_done}
use Rattle.rules.specs.Xtend.{extend_deed}

-- "read the index (1), buffer kept": index block x is read besides, where it is not 0 [C24]
unfoldable pub reading : ℕ → Reached → Reached
reading x r = record {
  file = r.file;
  current = r.current;
  flag = r.flag;
  buffer = r.buffer;
  moves = r.moves ++ cond (eqb x 0) [] (Read x ∷ []);
}

-- the old block: "the record takes the end record's place" [C27]
unfoldable pub old_text : Texts → Way → List ℕ → List ℕ
old_text v way work =
    replaced (detail_shape v.desc) (count (detail_shape v.desc) (text_at v way) - 1) (record_in v.desc work) (text_at v way)

-- the new block: "the end record starts a new block" [C27]
unfoldable pub end_text : Texts → Way → List ℕ
end_text v way =
    let h = detail_shape v.desc in
    laid v.desc.wpb (h.tag + 1) (row h (text_at v way) (count h (text_at v way) - 1))

-- the entry "with a new ONES" bound for block b [C27]
unfoldable pub ones_entry : Description → ℕ → List ℕ
ones_entry p b = ones p.k ++ (b ∷ [])

-- a table of entries: "the old bound becomes the key"; and with "a new ONES entry" for block b behind it [C27, C29]
unfoldable pub bounded : Shape → List ℕ → List ℕ → List ℕ
bounded h key t = replaced h (count h t - 1) key t

-- and with "a new ONES entry" for block b behind it [C27, C29]
unfoldable pub extended : Description → Shape → List ℕ → ℕ → List ℕ → List ℕ
extended p h key b t = inserted h (count h t) (ones_entry p b) (bounded h key t)

-- "Write old, read index, write index, write new: 4." [C28]
unfoldable pub new_moves : Texts → Way → Path → List ℕ → ℕ → List Transfer
new_moves v way w work b =
    Write w.detail (old_text v way work)
    ∷ Read w.index
    ∷ Write w.index (extended v.desc (index_shape v.desc) (key_in v.desc work) b (text_of v w.index))
    ∷ Write b (end_text v way)
    ∷ []

-- "the entry starts a new index block ..: 1 more." [C28, C29]
unfoldable pub section_moves : Texts → Way → Path → List ℕ → ℕ → ℕ → List Transfer
section_moves v way w work b x =
    Write w.detail (old_text v way work)
    ∷ Read w.index
    ∷ Write w.index (bounded (index_shape v.desc) (key_in v.desc work) (text_of v w.index))
    ∷ Write b (end_text v way)
    ∷ Write x (laid v.desc.wpb ((index_shape v.desc).tag + 1) (ones_entry v.desc b))
    ∷ []

-- the file then: words 1 and 2 of the master, what the list writes, and "section, the old section's bound becoming the key" [C28]
unfoldable pub new_file : Texts → Bool → Way → Path → List ℕ → Taken → List ℕ
new_file v flag way w work d =
    written v.desc ((reached v flag way).moves ++ new_moves v way w work d.block) (with_free d.head d.lowest v.file)

-- the same with a new section: "the old section's bound becoming the key" [C29]
unfoldable pub section_file : Texts → Bool → Way → Path → List ℕ → ℕ → Taken → List ℕ
section_file v flag way w work b x =
    extended v.desc (master_shape v.desc) (key_in v.desc work) x.block
    (written v.desc ((reached v flag way).moves ++ section_moves v way w work b x.block) (with_free x.head x.lowest v.file))

-- what e does, under another list of transfers: that of the whole call [E2]
unfoldable pub listed : List Transfer → Effect → Effect
listed moves e = record {
  number = e.number;
  transfers = moves;
  current = e.current;
  flag = e.flag;
  keyed = e.keyed;
  file = e.file;
  buffer = e.buffer;
  work = e.work;
}

-- "insert before the end record, flag on"; "Buffer: the new block, flag off." [C26, C27, C29, C30]
unfoldable pub extend_done : Texts → Bool → List ℕ → Extend → Checked Effect
extend_done v flag work (Stop way x n) = passed (stopping n work (reading x (reached v flag way)))
extend_done v flag work (Room way x n) =
    let here = reading x (reached v flag way) in
    passed (storing n work here (inserted (detail_shape v.desc) (count (detail_shape v.desc) here.buffer - 1) (record_in v.desc work) here.buffer))
extend_done v flag work (New way w d n) =
    passed (landing v.desc n work ((reached v flag way).moves ++ new_moves v way w work d.block) d.block (new_file v flag way w work d))
extend_done v flag work (Both way w b x n) =
    passed (landing v.desc n work ((reached v flag way).moves ++ section_moves v way w work b x.block) b (section_file v flag way w work b x))
-- "the last block is reached as now and a lookup for the key follows": those transfers come first; a flagged buffer that was written on the way
-- to the last block is not flagged any more [E2, E3, E4, E7]
extend_done v flag work (Before way w d) = do
  e ← insert_done v flag work d
  then ← insert_done v (reached v flag way).flag work d
  passed (listed ((reading w.index (reached v flag way)).moves ++ then.transfers) e)

-- XTEND's steps, after the refusals [C23]
unfoldable pub xtend_steps : Texts → Bool → List ℕ → Checked Effect
xtend_steps v flag work = do
  d ← extend_deed v flag (key_in v.desc work)
  extend_done v flag work d

-- XTEND: 020007, 020005, 030001, and then its steps, which give 070003, 000005, 070002, 070001 or 0 [C23, N1, N3, N4]
unfoldable pub xtend : State → Outcome
xtend st = keyed_call (desc st).wpr st (xtend_steps (texts st) st.session.flag st.work)
