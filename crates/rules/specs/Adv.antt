-- Document 01, ADV: "seeks the least key above position".
use Rattle.std.specs.Prelude.{ℕ, ◌+◌, ◌-◌, Bool, true, false, cond, not, ◌&&◌, List, [], ◌∷◌, ltb, eqb}
use Rattle.numbers.specs.Numbers.{done, at_end, bad_file}
use Rattle.numbers.specs.Checked.{Checked, passed, refused, ◌>>=◌, ◌>>◌, require}
use Rattle.words.specs.Keys.{key_lt, key_le, is_ones}
use Rattle.table.specs.Tables.{count, key_at, row_above}
use Rattle.drum.specs.Params.{detail_shape, index_shape}
use Rattle.drum.specs.Blocks.{Transfer, Read, Texts, text_of}
use Rattle.rules.specs.declared.Which.TheVariants.{First, Place}
use Rattle.rules.specs.declared.Path.{Path}
use Rattle.rules.specs.declared.Way.TheVariants.{Here, By}
use Rattle.rules.specs.declared.Step.{Step}
use Rattle.rules.specs.declared.Step.TheVariants.{At, Beyond}
use Rattle.rules.specs.State.{State, Outcome, Effect, desc, texts, position_key, settle}
use Rattle.rules.specs.Checks.{sizes_ok, work_ok, is_open}
use Rattle.rules.specs.Paths.{path_by, path_to, first_path}
use Rattle.rules.specs.Lookup.{Reached, on_buffer, flush_ok, bringing, reached}
use Rattle.rules.specs.Seek.{giving}

-- of a detail block's text, the first record above position (the first record, where position is none), else the count [C5]
abbrev pub next_row : Texts → Bool → List ℕ → List ℕ → ℕ
next_row v placed at t = cond placed (row_above (detail_shape v.desc) at t) 0

-- "Buffer's first key ≤ position < its last: 0." [C6]
unfoldable pub next_in_buffer : Texts → List ℕ → Checked Bool
next_in_buffer v at =
    let h = detail_shape v.desc in
    on_buffer v (key_le (key_at h v.buffer 0) at && key_lt at (key_at h v.buffer (count (detail_shape v.desc) v.buffer - 1)))

-- the way to "the next detail block": the next entry of the index block, or the first of the next section's [C8]
unfoldable pub next_path : Texts → Path → Checked Path
next_path v w =
    cond (ltb (w.entry + 1) (count (index_shape v.desc) (text_of v w.index)))
    (path_by v (Place w.section) (Place (w.entry + 1)) [])
    (path_by v (Place (w.section + 1)) First [])

-- "If nothing greater is there, the next detail block"; "for ADV no key above position where its steps end" is bad [C8, B7]
unfoldable pub adv_beyond : Texts → Bool → List ℕ → Path → Checked Step
adv_beyond v placed at w = do
  x ← next_path v w
  require (ltb (next_row v placed at (text_of v x.detail)) (count (detail_shape v.desc) (text_of v x.detail))) bad_file
  passed (Beyond w x (next_row v placed at (text_of v x.detail)))

-- "Else write if flagged, index, detail of the block covering position" [C7]
unfoldable pub adv_at : Texts → Bool → Bool → List ℕ → Path → Checked Step
adv_at v flag placed at w = do
  require (flush_ok v flag) bad_file
  cond (ltb (next_row v placed at (text_of v w.detail)) (count (detail_shape v.desc) (text_of v w.detail)))
      (passed (At (By w) (next_row v placed at (text_of v w.detail))))
      (adv_beyond v placed at w)

-- where the buffer does not have it: the block covering position, "(the first block when none)" [C7]
unfoldable pub adv_outside : Texts → Bool → Bool → List ℕ → Checked Step
adv_outside v flag placed at = do
  w ← cond placed (path_to v at) (first_path v)  -- "(the first block when none)"
  adv_at v flag placed at w

-- the record that ADV comes to, from a position (none unless `placed`) [C5, C6, C7]
unfoldable pub adv_step : Texts → Bool → Bool → List ℕ → Checked Step
adv_step v flag false at = adv_outside v flag false at
adv_step v flag true at = do
  here ← next_in_buffer v at
  cond here (passed (At Here (next_row v true at v.buffer))) (adv_outside v flag true at)

-- "The record goes to the workspace, position = its key; for the end record the answer is 030002 and position stays." [C9, N10]
unfoldable pub adv_giving : Texts → Reached → ℕ → Effect
adv_giving v r i =
    let end = is_ones (key_at (detail_shape v.desc) r.buffer i) in
    giving v r (cond end at_end done) i (not end)

-- "the next detail block: 1, or 2 if in the next section", after the index and the detail block of the first path [C7, C8]
unfoldable pub adv_reads : Path → Path → List Transfer
adv_reads w x =
    Read w.index
    ∷ Read w.detail
    ∷ cond (eqb x.section w.section) (Read x.detail ∷ []) (Read x.index ∷ Read x.detail ∷ [])

-- what ADV does, of the step that it comes to [C6, C7, C8, C9]
unfoldable pub adv_done : Texts → Bool → Step → Checked Effect
adv_done v flag (At way i) = passed (adv_giving v (reached v flag way) i)
adv_done v flag (Beyond w x i) = passed (adv_giving v (bringing v flag x.detail (adv_reads w x)) i)

-- ADV's steps, after the refusals: the step, then what it does [C5]
unfoldable pub adv_steps : Texts → Bool → Bool → List ℕ → Checked Effect
adv_steps v flag placed at = do
  s ← adv_step v flag placed at
  adv_done v flag s

-- ADV: 020007, 020005, and then its steps, which give 070003, 030002 or 0 [C5, N1, N3]
unfoldable pub adv : State → Outcome
adv st = settle st do
  sizes_ok st
  work_ok st
  is_open st
  adv_steps (texts st) st.session.flag st.session.placed (position_key st.session)
