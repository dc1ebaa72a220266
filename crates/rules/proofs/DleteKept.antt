-- The effects of DLETE have the right lengths, and change no block but those that they write.
use Prim.Native.Nat.{ℕ, ◌+◌, ◌-◌, ◌≤◌, ◌<◌}
use mathlib.Core.Path.{◌≡◌, refl, ◌∙◌}
use mathlib.Core.Bool.{Bool, true, false, cond}
use mathlib.Core.List.{List, [], ◌∷◌, ◌++◌}
use native.Mathlib.Omega.{arith}
use lib.Dec.{eqb}
use lib.ListN.{length, set, length-set, length-replicate}
use lib.Seq.{get_or-set_other}
use Rattle.numbers.specs.Checked.{passed}
use Rattle.table.specs.Tables.{count, place, key_at, removed, replaced}
use Rattle.table.proofs.Lengths.{length-replaced, length_removed}
use Rattle.table.proofs.Kept.{count-replaced, part-removed}
use Rattle.drum.specs.declared.Description.{Description}
use Rattle.drum.specs.Params.{I, start, master_size, file_size, good_params, master_shape, index_shape, detail_shape}
use Rattle.drum.specs.Blocks.{Transfer, Read, Write, written, block_at, free_text, Texts, text_of, Fitting}
use Rattle.drum.proofs.Good.{caps}
use Rattle.drum.proofs.Blocks.{length-text_of, length-free_text, block-set, start-after}
use Rattle.drum.proofs.Written.{Moves, moves-append}
use Rattle.rules.specs.declared.Path.{Path}
use Rattle.rules.specs.declared.Way.{Way}
use Rattle.rules.specs.declared.Way.TheVariants.{Here, By}
use Rattle.rules.specs.declared.Look.{Look}
use Rattle.rules.specs.declared.Look.TheVariants as look_is
use Rattle.rules.specs.declared.Delete.{Delete}
use Rattle.rules.specs.declared.Delete.TheVariants as delete-is
use Rattle.rules.specs.Paths.{path_to}
use Rattle.rules.specs.Lookup.{reached, text_at}
use Rattle.rules.specs.Dlete.{empty_deed, empty_at, delete_after, delete_deed, entry_gone, empty_moves, empty_all, both_all, empty_file, both_file, emptying}
use Rattle.rules.specs.Dlete.{delete_done, dlete_steps}
use Rattle.rules.specs.Fits.{PathFits, WayFits, LookFits}
use Rattle.numbers.proofs.Passed.{Passed, chain, by-passed}
use Rattle.rules.proofs.Fits.{path-fits, looked-fits}
use Rattle.rules.proofs.Rooms.{detail-end, index-base, index-end, index-row, index_key, master-base, master-end}
use Rattle.rules.proofs.Kept.{Kept, Only, index-block, detail-block, reached-moves, reached-fits, reached-only, written-length, written-only}
use Rattle.rules.proofs.Kept.{written_count, stop-kept, store_kept, way-most, way-below}

-- an index block's text with an entry gone
module _ (p : Description) (good : good_params p ≡ true) (t : List ℕ) (l : length t ≡ p.wpb) (most : count (index_shape p) t ≤ I p) (j : ℕ)
    (below : j < count (index_shape p) t) where
  removed-length : (u : List ℕ) → length u ≡ p.wpb → count (index_shape p) u ≡ count (index_shape p) t → length (removed (index_shape p) j u) ≡ p.wpb
  removed-length u h c =
      let e = index-end p good (count (index_shape p) u) (omega arith) in
      length_removed (index_shape p) j u (omega arith) (omega arith) ∙ h

  gone-length : length (entry_gone p j t) ≡ p.wpb
  unfolding entry_gone
  gone-length = go (eqb (j + 1) (count (index_shape p) t))
    where
      room : place (index_shape p) (j - 1) + length (key_at (index_shape p) t j) ≤ length t
      room =
          let k = index_key p good t j l (omega arith) in
          let r = index-row p good (j - 1) (omega arith) in
          omega arith

      go : (b : Bool) → length (removed (index_shape p) j (cond b (replaced (index_shape p) (j - 1) (key_at (index_shape p) t j) t) t)) ≡ p.wpb
      go true =
          removed-length (replaced (index_shape p) (j - 1) (key_at (index_shape p) t j) t)
          (length-replaced (index_shape p) (j - 1) t (key_at (index_shape p) t j) room ∙ l)
          (count-replaced (index_shape p) (j - 1) t (key_at (index_shape p) t j) room (index-base p))
      go false = removed-length t l refl

-- the master with an entry gone
module _ (p : Description) (good : good_params p ≡ true) (f : List ℕ) (i : ℕ) (l : length f ≡ file_size p) (below : i < count (master_shape p) f)
    (most : count (master_shape p) f ≤ p.control) where
  gone-room : place (master_shape p) (count (master_shape p) f) ≤ master_size p
  gone-room = master-end p good (count (master_shape p) f) most

  gone-fits : place (master_shape p) (count (master_shape p) f) ≤ length f
  gone-fits =
      let g = caps p good in
      let r = gone-room in
      omega arith

  section-length : length (removed (master_shape p) i f) ≡ file_size p
  section-length = length_removed (master_shape p) i f below gone-fits ∙ l

  section-blocks : (b : ℕ) → block_at p (removed (master_shape p) i f) b ≡ block_at p f b
  unfolding block_at
  section-blocks b =
      let s = start-after p b in
      let r = gone-room in
      part-removed (master_shape p) i f below gone-fits (start p b) p.wpb (master-base p) (omega arith)

module _ (v : Texts) (fit : Fitting v.desc v.file v.buffer) (flag : Bool) (work : List ℕ) (given : length work ≡ v.desc.wpr) where
  -- a record taken out
  remove-kept : (way : Way) (i : ℕ) → WayFits v flag way → i < count (detail_shape v.desc) (text_at v way)
      → Passed (Kept v) (delete_done v flag work (delete-is.Remove way i))
  unfolding delete_done
  remove-kept way i h l =
      let b = (reached v flag way).buffer in
      let f = reached-fits v fit flag way h in
      let e = detail-end v.desc fit.good (count (detail_shape v.desc) b) (way-most v fit flag work given way h) in
      by-passed _ (store_kept v fit flag work given _ (reached v flag way) _ f (reached-only v fit flag way h)
      (length_removed (detail_shape v.desc) i b (way-below v fit flag work given way i l) (rw f.buffer-is e) ∙ f.buffer-is))

  -- a block emptied, and its index block too
  emptied-kept : (moves : List Transfer) (f : List ℕ) → length f ≡ file_size v.desc → Only v moves f → Kept v (emptying v.desc work moves f)
  unfolding emptying
  emptied-kept moves f l o = record { file-is = l; buffer-is = length-replicate v.desc.wpb 0; work-is = given; only = o }

  module _ (way : Way) (w : Path) (head : ℕ) (reach : WayFits v flag way) (path : PathFits v w) where
    first-set : (x : ℕ) (b : ℕ) → block_at v.desc (set v.file 1 x) b ≡ block_at v.desc v.file b
    first-set x b =
        let g = caps v.desc fit.good in
        block-set v.desc v.file 1 x b (omega arith)

    moved : (link : ℕ) (t : List ℕ) → length t ≡ v.desc.wpb → Moves v.desc ((reached v flag way).moves ++ empty_moves v.desc w link t)
    unfolding empty_moves
    moved link t l =
        moves-append v.desc (reached v flag way).moves (Write w.detail (free_text v.desc link) ∷ Read w.index ∷ Write w.index t ∷ [])
        (reached-moves v fit flag way reach)
        (detail-block v w path, length-free_text v.desc link fit.good, (index-block v w path, l, tt))

    empty-kept : Passed (Kept v) (delete_done v flag work (delete-is.Empty way w head))
    unfolding delete_done empty_file empty_all
    empty-kept =
        let t = text_of v w.index in
        let m
        = moved head (entry_gone v.desc w.entry t)
        (gone-length v.desc fit.good t (length-text_of v w.index fit (index-block v w path)) path.entries-most w.entry path.entry-below) in
        let l = length-set v.file 1 w.detail in
        by-passed _ (emptied-kept _ _ (written-length v fit _ m (set v.file 1 w.detail) l)
        (written-only v fit _ m (set v.file 1 w.detail) l (first-set w.detail)))

    both-kept : Passed (Kept v) (delete_done v flag work (delete-is.Both way w head))
    unfolding delete_done both_file both_all
    both-kept =
        let m = moved head (free_text v.desc w.detail) (length-free_text v.desc w.detail fit.good) in
        let moves = (reached v flag way).moves ++ empty_moves v.desc w head (free_text v.desc w.detail) in
        let f = set v.file 1 w.index in
        let g = written v.desc moves f in
        let l = length-set v.file 1 w.index in
        let n = written-length v fit moves m f l in
        let c = written_count v fit moves m f l (get_or-set_other v.file 1 0 w.index 0 (λ e. omega arith)) in
        let below : w.section < count (master_shape v.desc) g = rw c path.section-below in
        let most : count (master_shape v.desc) g ≤ v.desc.control = rw c path.sections-most in
        by-passed _ (emptied-kept _ _ (section-length v.desc fit.good g w.section n below most)
        (λ b k o. section-blocks v.desc fit.good g w.section n below most b ∙ written-only v fit moves m f l (first-set w.index) b k o))

  -- what the plan passes
  record Deed (d : Delete) : Type 0 where
    kept : Passed (Kept v) (delete_done v flag work d)

  stopped : (w : Path) → LookFits v flag (look_is.Missing w) → Deed (delete-is.Stop w)
  unfolding delete_done
  stopped w h = record { kept = by-passed _ (stop-kept v fit flag work given _ (By w) h) }

  either : (t : Bool) (way : Way) (w : Path) (head : ℕ) → WayFits v flag way → PathFits v w
      → Deed (cond t (delete-is.Both way w head) (delete-is.Empty way w head))
  either true way w head h p = record { kept = both-kept way w head h p }
  either false way w head h p = record { kept = empty-kept way w head h p }

  removing : (way : Way) (i : ℕ) → LookFits v flag (look_is.Found way i) → Deed (delete-is.Remove way i)
  removing way i h = record { kept = remove-kept way i h.0 h.1 }

  pathed : (key : List ℕ) (w : Path) → path_to v key ≡ passed w → PathFits v w
  pathed key w e = path-fits v _ _ key w e

  after_kept : (key : List ℕ) (l : Look) → LookFits v flag l → Passed Deed (delete_after v key l)
  unfolding delete_after empty_at empty_deed
  after_kept key (look_is.Missing w) h = by-passed _ (stopped w h)
  after_kept key (look_is.Found Here i) h = let r = removing Here i h in let b : WayFits v flag Here = h.0 in search (chain, either, pathed) depth 12
  after_kept key (look_is.Found (By w) i) h = let r = removing (By w) i h in let b : WayFits v flag (By w) = h.0 in let q : PathFits v w = h.0.0 in search
      (chain, either) depth 12

  deed-kept : (key : List ℕ) → Passed Deed (delete_deed v flag key)
  unfolding delete_deed
  deed-kept key = search (chain, after_kept, looked-fits)

  done-kept : (key : List ℕ) (d : Delete) → delete_deed v flag key ≡ passed d → Passed (Kept v) (delete_done v flag work d)
  done-kept key d e = ((deed-kept key).holds d e).kept

  pub dlete-kept : Passed (Kept v) (dlete_steps v flag work)
  unfolding dlete_steps
  dlete-kept = search (chain, done-kept)
