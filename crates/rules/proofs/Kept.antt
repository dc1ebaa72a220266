-- What a way reaches has the right lengths, and so have the effects of SEEK, UPDAT and ADV; no block changes that is not written.
use Prim.Native.Nat.{ℕ, ◌+◌, ◌≤◌, ◌<◌}
use mathlib.Core.Path.{◌≡◌, refl, ◌∙◌}
use mathlib.Core.Bool.{Bool, true, false, cond}
use mathlib.Core.List.{List, [], ◌∷◌, ◌++◌}
use native.Mathlib.Omega.{arith}
use lib.Dec.{eqb}
use lib.ListN.{length, get_or, set}
use lib.Seq.{get_or-set_other}
use Rattle.numbers.specs.Checked.{passed}
use Rattle.words.proofs.Parts.{length_part}
use Rattle.table.specs.Tables.{count, place, row, inserted, replaced}
use Rattle.table.proofs.Lengths.{length-replaced, length_inserted}
use Rattle.drum.specs.declared.Description.{Description}
use Rattle.drum.specs.Params.{D, file_size, good_params, master_shape, detail_shape}
use Rattle.drum.specs.Blocks.{Transfer, Read, written, writes, block_at, sections, Texts, Fitting, Block}
use Rattle.drum.proofs.Good.{caps}
use Rattle.drum.proofs.Forms.{count-master}
use Rattle.drum.proofs.Blocks.{length-text_of, length-block}
use Rattle.drum.proofs.Written.{Moves, moves-append, length-written, only-written, master-word-written}
use Rattle.rules.specs.declared.Path.{Path}
use Rattle.rules.specs.declared.Way.{Way}
use Rattle.rules.specs.declared.Way.TheVariants.{Here, By}
use Rattle.rules.specs.declared.Look.{Look}
use Rattle.rules.specs.declared.Look.TheVariants as look_is
use Rattle.rules.specs.declared.Step.{Step}
use Rattle.rules.specs.declared.Step.TheVariants as step_is
use Rattle.rules.specs.State.{Effect, record_in}
use Rattle.rules.specs.Lookup.{Reached, flush_moves, bringing, reached, text_at, stopping, storing, landing}
use Rattle.rules.specs.Free.{with_free}
use Rattle.rules.specs.Fits.{PathFits, FlushFits, WayFits, LookFits, StepFits}
use Rattle.rules.specs.Seek.{giving, seek_done, seek_steps, updat_done, updat_steps}
use Rattle.rules.specs.Adv.{adv_giving, adv_reads, adv_step, adv_done, adv_steps}
use Rattle.numbers.proofs.Passed.{Passed, chain, by-passed}
use Rattle.rules.proofs.Rooms.{detail-row, free-length, free-blocks}
use Rattle.rules.proofs.Fits.{looked-fits, step-passed}

-- "no block of the file changes unless that list writes it": of a list of transfers, and the file then
abbrev pub Only : Texts → List Transfer → List ℕ → Type 0
Only v moves f = (b : ℕ) → Block v.desc b → writes moves b ≡ false → block_at v.desc f b ≡ block_at v.desc v.file b

-- an effect whose words have the lengths that 020007 asks for, and which changes no other block than its transfers write
pub record Kept (v : Texts) (e : Effect) : Type 0 where
  pub file-is : length e.file ≡ file_size v.desc
  pub buffer-is : length e.buffer ≡ v.desc.wpb
  pub work-is : length e.work ≡ v.desc.wpr
  pub only : Only v e.transfers e.file

-- the blocks of a path are two of 1..N
pub index-block : (v : Texts) (w : Path) → PathFits v w → Block v.desc w.index
index-block v w h = (h.index-least, h.index-most)

pub detail-block : (v : Texts) (w : Path) → PathFits v w → Block v.desc w.detail
detail-block v w h = (h.detail-least, h.detail-most)

-- row i of a detail block's text lies in it
pub row_within : (p : Description) (t : List ℕ) (i : ℕ) → good_params p ≡ true → length t ≡ p.wpb → count (detail_shape p) t ≤ D p → i < count (detail_shape p) t
    → place (detail_shape p) i + p.wpr ≤ length t
row_within p t i good h most l =
    let r = detail-row p good i (omega arith) in
    omega arith

module _ (v : Texts) (fit : Fitting v.desc v.file v.buffer) where
  pub flush-moves : (flag : Bool) → FlushFits v flag → Moves v.desc (flush_moves v flag)
  unfolding flush_moves
  flush-moves true due = (due refl, fit.buffer-is, tt)
  flush-moves false due = tt

  -- a block brought, and a block reached on its way
  pub bringing-moves : (flag : Bool) (b : ℕ) (reads : List Transfer) → FlushFits v flag → Moves v.desc reads
      → Moves v.desc (bringing v flag b reads).moves
  unfolding bringing
  bringing-moves flag b reads due m = moves-append v.desc (flush_moves v flag) reads (flush-moves flag due) m

  pub bringing-fits : (flag : Bool) (b : ℕ) (reads : List Transfer) → FlushFits v flag → Moves v.desc reads → Block v.desc b
      → Fitting v.desc (bringing v flag b reads).file (bringing v flag b reads).buffer
  unfolding bringing
  bringing-fits flag b reads due m h = record {
    good = fit.good;
    file-is = length-written v.desc v.file fit.file-is (flush_moves v flag ++ reads) (bringing-moves flag b reads due m);
    buffer-is = length-text_of v b fit h;
  }

  pub bringing-only : (flag : Bool) (b : ℕ) (reads : List Transfer) → FlushFits v flag → Moves v.desc reads
      → Only v (bringing v flag b reads).moves (bringing v flag b reads).file
  unfolding bringing
  bringing-only flag b reads due m = only-written v.desc v.file fit.file-is (flush_moves v flag ++ reads) (bringing-moves flag b reads due m)

  pub reached-moves : (flag : Bool) (way : Way) → WayFits v flag way → Moves v.desc (reached v flag way).moves
  unfolding reached
  reached-moves flag Here h = tt
  reached-moves flag (By w) h = bringing-moves flag w.detail (Read w.index ∷ Read w.detail ∷ []) h.1 tt

  pub reached-fits : (flag : Bool) (way : Way) → WayFits v flag way → Fitting v.desc (reached v flag way).file (reached v flag way).buffer
  unfolding reached
  reached-fits flag Here h = fit
  reached-fits flag (By w) h = bringing-fits flag w.detail (Read w.index ∷ Read w.detail ∷ []) h.1 tt (detail-block v w h.0)

  pub reached-only : (flag : Bool) (way : Way) → WayFits v flag way → Only v (reached v flag way).moves (reached v flag way).file
  unfolding reached
  reached-only flag Here h b k n = refl
  reached-only flag (By w) h b k n = bringing-only flag w.detail (Read w.index ∷ Read w.detail ∷ []) h.1 tt b k n

  -- the file after a list of transfers, the master changed before it
  pub written-length : (moves : List Transfer) → Moves v.desc moves → (f : List ℕ) → length f ≡ length v.file
      → length (written v.desc moves f) ≡ file_size v.desc
  written-length moves m f l = length-written v.desc f (l ∙ fit.file-is) moves m

  pub written-only : (moves : List Transfer) → Moves v.desc moves → (f : List ℕ) → length f ≡ length v.file
      → ((b : ℕ) → block_at v.desc f b ≡ block_at v.desc v.file b) → Only v moves (written v.desc moves f)
  written-only moves m f l same b k n = only-written v.desc f (l ∙ fit.file-is) moves m b k n ∙ same b

  -- the same after words 1 and 2 of the master are changed
  pub freed-length : (moves : List Transfer) → Moves v.desc moves → (head lowest : ℕ)
      → length (written v.desc moves (with_free head lowest v.file)) ≡ file_size v.desc
  freed-length moves m head lowest = written-length moves m (with_free head lowest v.file) (free-length v.desc fit.good head lowest v.file)

  pub freed-only : (moves : List Transfer) → Moves v.desc moves → (head lowest : ℕ)
      → Only v moves (written v.desc moves (with_free head lowest v.file))
  freed-only moves m head lowest =
      written-only moves m (with_free head lowest v.file) (free-length v.desc fit.good head lowest v.file)
      (free-blocks v.desc fit.good head lowest v.file)

  -- and the sections that the master has then
  pub written_count : (moves : List Transfer) → Moves v.desc moves → (f : List ℕ) → length f ≡ length v.file
      → get_or f 0 0 ≡ sections v.file → count (master_shape v.desc) (written v.desc moves f) ≡ sections v.file
  written_count moves m f l e =
      let g = caps v.desc fit.good in
      count-master v.desc (written v.desc moves f) ∙ master-word-written v.desc f (l ∙ fit.file-is) moves m 0 (omega arith) ∙ e

  pub freed-count : (moves : List Transfer) → Moves v.desc moves → (head lowest : ℕ)
      → count (master_shape v.desc) (written v.desc moves (with_free head lowest v.file)) ≡ sections v.file
  unfolding with_free
  freed-count moves m head lowest =
      written_count moves m (with_free head lowest v.file) (free-length v.desc fit.good head lowest v.file)
      (get_or-set_other (set v.file 1 head) 2 0 lowest 0 (λ e. omega arith) ∙ get_or-set_other v.file 1 0 head 0 (λ e. omega arith))

-- the buffer then holds the text of the block at the end of the way, whose count is good
pub reached-text : (v : Texts) (flag : Bool) (way : Way) → (reached v flag way).buffer ≡ text_at v way
unfolding reached bringing
reached-text v flag Here = refl
reached-text v flag (By w) = refl

pub way-counts : (v : Texts) (flag : Bool) (way : Way) → WayFits v flag way
    → (1 ≤ count (detail_shape v.desc) (text_at v way)) × (count (detail_shape v.desc) (text_at v way) ≤ D v.desc)
way-counts v flag Here h = (h.records-least, h.records-most)
way-counts v flag (By w) h = (h.0.records-least, h.0.records-most)

module _ (v : Texts) (fit : Fitting v.desc v.file v.buffer) (flag : Bool) (work : List ℕ) (given : length work ≡ v.desc.wpr) where
  -- a call that stops, that gives the record at place i, that stores
  pub stop-kept : (n : ℕ) (way : Way) → WayFits v flag way → Kept v (stopping n work (reached v flag way))
  unfolding stopping
  stop-kept n way h =
      let f = reached-fits v fit flag way h in
      record { file-is = f.file-is; buffer-is = f.buffer-is; work-is = given; only = reached-only v fit flag way h }

  give_kept : (r : Reached) (n i : ℕ) (keyed : Bool) → Fitting v.desc r.file r.buffer → Only v r.moves r.file
      → count (detail_shape v.desc) r.buffer ≤ D v.desc
      → i < count (detail_shape v.desc) r.buffer
      → Kept v (giving v r n i keyed)
  unfolding giving row detail_shape
  give_kept r n i keyed f o c l = record {
    file-is = f.file-is;
    buffer-is = f.buffer-is;
    work-is = length_part (place (detail_shape v.desc) i) v.desc.wpr r.buffer (row_within v.desc r.buffer i fit.good f.buffer-is c l);
    only = o;
  }

  pub store_kept : (n : ℕ) (r : Reached) (t : List ℕ) → Fitting v.desc r.file r.buffer → Only v r.moves r.file → length t ≡ v.desc.wpb
      → Kept v (storing n work r t)
  unfolding storing
  store_kept n r t f o l = record { file-is = f.file-is; buffer-is = l; work-is = given; only = o }

  pub land-kept : (n : ℕ) (moves : List Transfer) (b : ℕ) (f : List ℕ) → Block v.desc b → length f ≡ file_size v.desc → Only v moves f
      → Kept v (landing v.desc n work moves b f)
  unfolding landing
  land-kept n moves b f h l o = record { file-is = l; buffer-is = length-block v.desc f l b h; work-is = given; only = o }

  pub record-length : length (record_in v.desc work) ≡ v.desc.wpr
  record-length = length_part 0 v.desc.wpr work (omega arith)

  pub replace-length : (t : List ℕ) (i : ℕ) → length t ≡ v.desc.wpb → count (detail_shape v.desc) t ≤ D v.desc → i < count (detail_shape v.desc) t
      → length (replaced (detail_shape v.desc) i (record_in v.desc work) t) ≡ v.desc.wpb
  replace-length t i h c l =
      let r = record-length in
      let w = row_within v.desc t i fit.good h c l in
      length-replaced (detail_shape v.desc) i t (record_in v.desc work) (rw r w) ∙ h

  pub insert-length : (t : List ℕ) (i : ℕ) → length t ≡ v.desc.wpb → i ≤ count (detail_shape v.desc) t → count (detail_shape v.desc) t < D v.desc
      → length (inserted (detail_shape v.desc) i (record_in v.desc work) t) ≡ v.desc.wpb
  unfolding detail_shape
  insert-length t i h l c =
      let q = detail-row v.desc fit.good (count (detail_shape v.desc) t) c in
      length_inserted (detail_shape v.desc) i t (record_in v.desc work) l record-length (rw h q) ∙ h

  -- what the buffer holds once a way is gone
  pub way-most : (way : Way) → WayFits v flag way → count (detail_shape v.desc) (reached v flag way).buffer ≤ D v.desc
  way-most way h = rw (reached-text v flag way) (way-counts v flag way h).1

  pub way-below : (way : Way) (i : ℕ) → i < count (detail_shape v.desc) (text_at v way) → i < count (detail_shape v.desc) (reached v flag way).buffer
  way-below way i l = rw (reached-text v flag way) l

  -- SEEK and UPDAT
  seek-done : (l : Look) → LookFits v flag l → Passed (Kept v) (seek_done v flag work l)
  unfolding seek_done
  seek-done (look_is.Found way i) h =
      by-passed _ (give_kept (reached v flag way) _ i _ (reached-fits v fit flag way h.0) (reached-only v fit flag way h.0) (way-most way h.0)
      (way-below way i h.1))
  seek-done (look_is.Missing w) h = by-passed _ (stop-kept _ (By w) h)

  pub seek-kept : Passed (Kept v) (seek_steps v flag work)
  unfolding seek_steps
  seek-kept = search (chain, seek-done, looked-fits)

  updat-done : (l : Look) → LookFits v flag l → Passed (Kept v) (updat_done v flag work l)
  unfolding updat_done
  updat-done (look_is.Found way i) h =
      let f = reached-fits v fit flag way h.0 in
      by-passed _ (store_kept _ (reached v flag way) _ f (reached-only v fit flag way h.0)
      (replace-length (reached v flag way).buffer i f.buffer-is (way-most way h.0) (way-below way i h.1)))
  updat-done (look_is.Missing w) h = by-passed _ (stop-kept _ (By w) h)

  pub updat-kept : Passed (Kept v) (updat_steps v flag work)
  unfolding updat_steps
  updat-kept = search (chain, updat-done, looked-fits)

  -- ADV
  next-reads : (w x : Path) → Moves v.desc (adv_reads w x)
  unfolding adv_reads
  next-reads w x = go (eqb x.section w.section)
    where
      go : (t : Bool) → Moves v.desc (cond t (Read x.detail ∷ []) (Read x.index ∷ Read x.detail ∷ []))
      go true = tt
      go false = tt

  stepped : (placed : Bool) (at : List ℕ) (s : Step) → adv_step v flag placed at ≡ passed s → StepFits v flag s
  stepped placed at s e = (step-passed v flag at placed).holds s e

  adv-done : (s : Step) → StepFits v flag s → Passed (Kept v) (adv_done v flag s)
  unfolding adv_done adv_giving bringing
  adv-done (step_is.At way i) h =
      by-passed _ (give_kept (reached v flag way) _ i _ (reached-fits v fit flag way h.0) (reached-only v fit flag way h.0) (way-most way h.0)
      (way-below way i h.1))
  adv-done (step_is.Beyond w x i) h =
      let f = bringing-fits v fit flag x.detail (adv_reads w x) h.1 (next-reads w x) (detail-block v x h.0) in
      by-passed _ (give_kept (bringing v flag x.detail (adv_reads w x)) _ i _ f
      (bringing-only v fit flag x.detail (adv_reads w x) h.1 (next-reads w x)) h.0.records-most h.2)

  pub adv-kept : (placed : Bool) (at : List ℕ) → Passed (Kept v) (adv_steps v flag placed at)
  unfolding adv_steps
  adv-kept placed at = search (chain, adv-done, stepped)
