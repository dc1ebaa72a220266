-- Document 01, NSERT: what it does.
use Rattle.std.specs.Prelude.{ℕ, Bool, cond, List, [], ◌∷◌, ◌++◌, ltb}
use Rattle.numbers.specs.Numbers.{bad_file}
use Rattle.numbers.specs.Checked.{Checked, passed, refused, ◌>>=◌, ◌>>◌}
use Rattle.table.specs.Tables.{inserted}
use Rattle.table.specs.Splits.{low_count, low_text, high_text, low_bound, renamed, entered}
use Rattle.drum.specs.Params.{D, I, master_shape, index_shape, detail_shape}
use Rattle.drum.specs.Blocks.{Transfer, Read, Write, written, Texts, text_of}
use Rattle.rules.specs.declared.Path.{Path}
use Rattle.rules.specs.declared.Way.TheVariants.{By}
use Rattle.rules.specs.declared.Taken.{Taken}
use Rattle.rules.specs.declared.Insert.{Insert}
use Rattle.rules.specs.declared.Insert.TheVariants.{Stop, Room, Split, Both}
use Rattle.rules.specs.State.{State, Outcome, Effect, desc, texts, key_in, record_in}
use Rattle.rules.specs.Checks.{keyed_call}
use Rattle.rules.specs.Lookup.{reached, stopping, storing, landing}
use Rattle.rules.specs.Free.{with_free}
use Rattle.rules.specs.Nsert.{insert_deed}

-- the two halves of the full detail block, with record r at place i [C12]
unfoldable pub detail_low : Texts → Path → ℕ → List ℕ → List ℕ
detail_low v w i r = low_text v.desc.wpb (detail_shape v.desc) (D v.desc) i r (text_of v w.detail)

-- the upper half: "the rest go to a new block" [C12]
unfoldable pub detail_high : Texts → Path → ℕ → List ℕ → List ℕ
detail_high v w i r = high_text v.desc.wpb (detail_shape v.desc) (D v.desc) i r (text_of v w.detail)

-- the entry of the old block: "the old block's bound becomes its highest key" [C13]
unfoldable pub detail_entry : Texts → Path → ℕ → List ℕ → List ℕ
detail_entry v w i r = low_bound (detail_shape v.desc) (D v.desc) (detail_low v w i r) ++ (w.detail ∷ [])

-- the index block with the new block b entered: "a new block, which keeps the old bound" [C13]
unfoldable pub index_entered : Texts → Path → ℕ → List ℕ → ℕ → List ℕ
index_entered v w i r b = entered (index_shape v.desc) w.entry (detail_entry v w i r) b (text_of v w.index)

-- "A full index splits likewise, the lower (I+2)/2 of I+1 staying": its two halves, and the entry of the old one [C15]
unfoldable pub index_low : Texts → Path → ℕ → List ℕ → ℕ → List ℕ
index_low v w i r b =
    low_text v.desc.wpb (index_shape v.desc) (I v.desc) w.entry (detail_entry v w i r)
    (renamed (index_shape v.desc) w.entry b (text_of v w.index))

-- the upper half of the full index block [C15]
unfoldable pub index_high : Texts → Path → ℕ → List ℕ → ℕ → List ℕ
index_high v w i r b =
    high_text v.desc.wpb (index_shape v.desc) (I v.desc) w.entry (detail_entry v w i r)
    (renamed (index_shape v.desc) w.entry b (text_of v w.index))

-- the old index block's entry in the master [C15]
unfoldable pub index_entry : Texts → Path → ℕ → List ℕ → ℕ → List ℕ
index_entry v w i r b = low_bound (index_shape v.desc) (I v.desc) (index_low v w i r b) ++ (w.index ∷ [])

-- "Read index, write old detail, new detail, index: 4." [C14]
unfoldable pub split_moves : Texts → Path → ℕ → List ℕ → ℕ → List Transfer
split_moves v w i r b =
    Read w.index
    ∷ Write w.detail (detail_low v w i r)
    ∷ Write b (detail_high v w i r)
    ∷ Write w.index (index_entered v w i r b)
    ∷ []

-- "A full index splits ..: 1 more." [C14, C15]
unfoldable pub both_split_moves : Texts → Path → ℕ → List ℕ → ℕ → ℕ → List Transfer
both_split_moves v w i r b x =
    Read w.index
    ∷ Write w.detail (detail_low v w i r)
    ∷ Write b (detail_high v w i r)
    ∷ Write w.index (index_low v w i r b)
    ∷ Write x (index_high v w i r b)
    ∷ []

-- the file then: words 1 and 2 of the master, what the list writes, and "the master entered likewise" [C14]
unfoldable pub split_file : Texts → Bool → Path → ℕ → List ℕ → Taken → List ℕ
split_file v flag w i r d =
    written v.desc ((reached v flag (By w)).moves ++ split_moves v w i r d.block) (with_free d.head d.lowest v.file)

-- the same where the index block is split too: "the master entered likewise" [C15]
unfoldable pub both_split_file : Texts → Bool → Path → ℕ → List ℕ → ℕ → Taken → List ℕ
both_split_file v flag w i r b x =
    entered (master_shape v.desc) w.section (index_entry v w i r b) x.block
    (written v.desc ((reached v flag (By w)).moves ++ both_split_moves v w i r b x.block) (with_free x.head x.lowest v.file))

-- of the two blocks of a split, "the half with the record" put in at place i of n [C16]
abbrev pub half_of : ℕ → ℕ → ℕ → ℕ → ℕ
half_of n i old new = cond (ltb i (low_count n)) old new

-- what NSERT does, of what it will do: it stops where it is, inserts, or splits [C11, C12, C15, C16]
unfoldable pub insert_done : Texts → Bool → List ℕ → Insert → Checked Effect
insert_done v flag work (Stop way n) = passed (stopping n work (reached v flag way))
insert_done v flag work (Room w i n) =
    let here = reached v flag (By w) in
    passed (storing n work here (inserted (detail_shape v.desc) i (record_in v.desc work) here.buffer))
insert_done v flag work (Split w i d n) =
    let r = record_in v.desc work in
    passed (landing v.desc n work ((reached v flag (By w)).moves ++ split_moves v w i r d.block)
    (half_of (D v.desc) i w.detail d.block) (split_file v flag w i r d))
insert_done v flag work (Both w i b x n) =
    let r = record_in v.desc work in
    passed (landing v.desc n work ((reached v flag (By w)).moves ++ both_split_moves v w i r b x.block)
    (half_of (D v.desc) i w.detail b) (both_split_file v flag w i r b x))

-- NSERT's steps, after the refusals [C10]
unfoldable pub nsert_steps : Texts → Bool → List ℕ → Checked Effect
nsert_steps v flag work = do
  d ← insert_deed v flag (key_in v.desc work)
  insert_done v flag work d

-- NSERT: 020007, 020005, 030001, and then its steps, which give 070003, 000001, 070002, 070001 or 0 [C10, N1, N3, N4]
unfoldable pub nsert : State → Outcome
nsert st = keyed_call (desc st).wpr st (nsert_steps (texts st) st.session.flag st.work)
