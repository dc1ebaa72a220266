-- The effects of XTEND have the right lengths, and change no block but those that they write.
use Prim.Native.Nat.{ℕ, ◌+◌, ◌-◌, ◌≤◌, ◌<◌}
use mathlib.Core.Path.{◌≡◌, refl, sym, ap, ◌∙◌}
use mathlib.Core.Bool.{Bool, true, false}
use mathlib.Core.List.{List, ◌++◌}
use native.Mathlib.Omega.{arith}
use borrow.Author.Tests.{ltb-true, eqb-true}
use lib.Dec.{eqb, ltb}
use lib.ListN.{length}
use Rattle.numbers.specs.Checked.{passed}
use Rattle.words.specs.Words.{part}
use Rattle.words.proofs.Parts.{length_part}
use Rattle.table.specs.declared.Shape.{Shape}
use Rattle.table.specs.Tables.{count, place, row, row_above}
use Rattle.table.proofs.Places.{row_lt}
use Rattle.table.proofs.Lengths.{length_inserted, length-replaced, length-laid}
use Rattle.table.proofs.Kept.{count-replaced, part-replaced, part-inserted}
use Rattle.drum.specs.declared.Description.{Description}
use Rattle.drum.specs.Params.{D, I, FD, FI, start, master_size, file_size, good_params, master_shape, index_shape, detail_shape}
use Rattle.drum.specs.Blocks.{written, writes, block_at, Texts, text_of, Fitting, Block}
use Rattle.drum.proofs.Good.{caps}
use Rattle.drum.proofs.Blocks.{length-text_of, start-after}
use Rattle.drum.proofs.Written.{Moves, moves-append, writes-append}
use Rattle.rules.specs.declared.Path.{Path}
use Rattle.rules.specs.declared.Way.{Way}
use Rattle.rules.specs.declared.Way.TheVariants.{By}
use Rattle.rules.specs.declared.Taken.{Taken}
use Rattle.rules.specs.declared.Pair.{Pair}
use Rattle.rules.specs.declared.Insert.{Insert}
use Rattle.rules.specs.declared.Insert.TheVariants as insert-is
use Rattle.rules.specs.declared.Extend.{Extend}
use Rattle.rules.specs.declared.Extend.TheVariants as extend-is
use Rattle.rules.specs.State.{key_in}
use Rattle.rules.specs.Paths.{path_to}
use Rattle.rules.specs.Lookup.{Reached, reached, text_at, stopping}
use Rattle.rules.specs.Free.{take_one, take_two, with_free}
use Rattle.rules.specs.Nsert.{insert_at}
use Rattle.rules.specs.NsertDone.{insert_done}
use Rattle.rules.specs.Xtend.{last_way, last_of, last_room, insert_before, look_deed, alone_deed, start_deed, section_deed, new_at, new_deed, extend_at, extend_deed}
use Rattle.rules.specs.XtendDone.{reading, old_text, end_text, ones_entry, bounded, extended, new_moves, section_moves, new_file, section_file, extend_done, xtend_steps}
use Rattle.rules.specs.Fits.{PathFits, WayFits, Outside}
use Rattle.numbers.proofs.Passed.{Passed, chain, by-passed}
use Rattle.rules.proofs.Fits.{path-fits, flush-of, last-passed, last_of-fits}
pub use Rattle.rules.proofs.Sizes.{ones-length}
use Rattle.rules.proofs.Takes.{neither, one-new, two-new}
use Rattle.rules.proofs.Rooms.{detail-read, index-base, index-end, index-row, master-base, master-row}
use Rattle.rules.proofs.Kept.{Kept, Only, index-block, detail-block, reached-text, way-counts, reached-moves, reached-fits, reached-only, insert-length, replace-length, stop-kept, store_kept, land-kept, freed-length, freed-only, freed-count}
use Rattle.rules.proofs.NsertKept.{at-kept}
use Rattle.rules.proofs.Before.{insert-outside, listed_kept}

-- a table of entries whose last bound becomes the key, and with a new entry behind it
module _ (p : Description) (h : Shape) (stride : h.stride ≡ p.k + 1) (base : 1 ≤ h.base) (t key : List ℕ) (whole : length key ≡ p.k)
    (some : 1 ≤ count h t) (all : place h (count h t) ≤ length t) where
  bounded-room : place h (count h t - 1) + length key ≤ length t
  bounded-room =
      let r = row_lt (count h t - 1) (count h t) h.stride (omega arith) in
      omega arith

  pub bounded-length : length (bounded h key t) ≡ length t
  unfolding bounded
  bounded-length = length-replaced h (count h t - 1) t key bounded-room

  pub bounded-count : count h (bounded h key t) ≡ count h t
  unfolding bounded
  bounded-count = count-replaced h (count h t - 1) t key bounded-room base

  module _ (b : ℕ) (room : place h (count h t) + h.stride ≤ length t) where
    still : place h (count h (bounded h key t)) + h.stride ≤ length (bounded h key t)
    still = rw (bounded-count, bounded-length) room

    pub extended-length : length (extended p h key b t) ≡ length t
    unfolding extended
    extended-length =
        length_inserted h (count h t) (bounded h key t) (ones_entry p b) (rw bounded-count (omega arith)) (ones-length p b ∙ sym stride) still
        ∙ bounded-length

    extended-part : (a n : ℕ) → place h (count h t) + h.stride ≤ a → part a n (extended p h key b t) ≡ part a n t
    unfolding extended bounded
    extended-part a n l =
        let r = bounded-room in
        part-inserted h (count h t) (bounded h key t) (ones_entry p b) (rw bounded-count (omega arith)) (ones-length p b ∙ sym stride) still
        a n base (rw bounded-count l)
        ∙ part-replaced h (count h t - 1) t key bounded-room a n (omega (arith, row_lt (count h t - 1) (count h t) h.stride (omega arith)))

module _ (v : Texts) (fit : Fitting v.desc v.file v.buffer) (flag : Bool) (work : List ℕ) (given : length work ≡ v.desc.wpr) where
  key-length : length (key_in v.desc work) ≡ v.desc.k
  key-length =
      let g = (caps v.desc fit.good).facts in
      length_part 0 v.desc.k work (omega arith)

  -- the index read besides changes nothing
  reading-only : (x : ℕ) (r : Reached) → Only v r.moves r.file → Only v (reading x r).moves (reading x r).file
  unfolding reading
  reading-only x r o b k n = o b k (neither (writes r.moves b) _ (sym (writes-append r.moves _ b) ∙ n)).0

  module _ (way : Way) (reach : WayFits v flag way) where
    text-length : length (text_at v way) ≡ v.desc.wpb
    text-length = ap length (sym (reached-text v flag way)) ∙ (reached-fits v fit flag way reach).buffer-is

    -- the old block's text, and the new one's
    pub old-length : length (old_text v way work) ≡ v.desc.wpb
    unfolding old_text
    old-length =
        let c = way-counts v flag way reach in
        replace-length v fit flag work given (text_at v way) (count (detail_shape v.desc) (text_at v way) - 1) text-length c.1 (omega arith)

    pub end-length : length (end_text v way) ≡ v.desc.wpb
    unfolding end_text
    end-length =
        let g = caps v.desc fit.good in
        let c = way-counts v flag way reach in
        let h = detail_shape v.desc in
        let l = detail-read v.desc fit.good (text_at v way) (count h (text_at v way) - 1) text-length (omega arith) in
        length-laid v.desc.wpb (h.tag + 1) (row h (text_at v way) (count h (text_at v way) - 1)) (omega arith)

    -- the index block's
    module _ (w : Path) (path : PathFits v w) where
      index-length : length (text_of v w.index) ≡ v.desc.wpb
      index-length = length-text_of v w.index fit (index-block v w path)

      index-all : place (index_shape v.desc) (count (index_shape v.desc) (text_of v w.index)) ≤ length (text_of v w.index)
      index-all = rw index-length (index-end v.desc fit.good (count (index_shape v.desc) (text_of v w.index)) path.entries-most)

      pub index-bounded : length (bounded (index_shape v.desc) (key_in v.desc work) (text_of v w.index)) ≡ v.desc.wpb
      unfolding index_shape
      index-bounded =
          let e = path.entry-below in
          bounded-length v.desc (index_shape v.desc) refl (index-base v.desc) (text_of v w.index) (key_in v.desc work) key-length (omega arith) index-all
          ∙ index-length

      pub index-extended : (b : ℕ) → count (index_shape v.desc) (text_of v w.index) < I v.desc
          → length (extended v.desc (index_shape v.desc) (key_in v.desc work) b (text_of v w.index)) ≡ v.desc.wpb
      unfolding index_shape
      index-extended b room =
          let e = path.entry-below in
          extended-length v.desc (index_shape v.desc) refl (index-base v.desc) (text_of v w.index) (key_in v.desc work) key-length (omega arith)
          index-all b (rw index-length (index-row v.desc fit.good (count (index_shape v.desc) (text_of v w.index)) room)) ∙ index-length

      new-moves : (b : ℕ) → Block v.desc b → count (index_shape v.desc) (text_of v w.index) < I v.desc
          → Moves v.desc ((reached v flag way).moves ++ new_moves v way w work b)
      unfolding new_moves
      new-moves b new room =
          moves-append v.desc (reached v flag way).moves _ (reached-moves v fit flag way reach)
          (detail-block v w path, old-length, (index-block v w path, index-extended b room, (new, end-length, tt)))

      both-moves : (b x : ℕ) → Block v.desc b → Block v.desc x → Moves v.desc ((reached v flag way).moves ++ section_moves v way w work b x)
      unfolding section_moves
      both-moves b x new newer =
          let g = caps v.desc fit.good in
          let l = ones-length v.desc b in
          let entry-alone = length-laid v.desc.wpb ((index_shape v.desc).tag + 1) (ones_entry v.desc b) (omega arith) in
          moves-append v.desc (reached v flag way).moves _ (reached-moves v fit flag way reach)
          (detail-block v w path, old-length, (index-block v w path, index-bounded, (new, end-length, (newer, entry-alone, tt))))

-- the master with a new section
module _ (p : Description) (good : good_params p ≡ true) (f key : List ℕ) (x : ℕ) (l : length f ≡ file_size p) (whole : length key ≡ p.k)
    (some : 1 ≤ count (master_shape p) f) (most : count (master_shape p) f < p.control) where
  section-room : place (master_shape p) (count (master_shape p) f) + (p.k + 1) ≤ master_size p
  section-room = master-row p good (count (master_shape p) f) most

  section-fits : place (master_shape p) (count (master_shape p) f) + (p.k + 1) ≤ length f
  section-fits =
      let g = caps p good in
      let q = section-room in
      omega arith

  section-all : place (master_shape p) (count (master_shape p) f) ≤ length f
  section-all = let q = section-fits in omega arith

  section-length : length (extended p (master_shape p) key x f) ≡ file_size p
  unfolding master_shape
  section-length = extended-length p (master_shape p) refl (master-base p) f key whole some section-all x section-fits ∙ l

  section-blocks : (b : ℕ) → block_at p (extended p (master_shape p) key x f) b ≡ block_at p f b
  unfolding block_at master_shape
  section-blocks b =
      let s = start-after p b in
      let q = section-room in
      extended-part p (master_shape p) refl (master-base p) f key whole some section-all x section-fits (start p b) p.wpb (omega arith)

module _ (v : Texts) (fit : Fitting v.desc v.file v.buffer) (flag : Bool) (work : List ℕ) (given : length work ≡ v.desc.wpr) where
  record Deed (d : Extend) : Type 0 where
    kept : Passed (Kept v) (extend_done v flag work d)

  stopped : (n : ℕ) (way : Way) → WayFits v flag way → Passed (Kept v) (insert_done v flag work (insert-is.Stop way n))
  unfolding insert_done
  stopped n way reach = by-passed _ (stop-kept v fit flag work given n way reach)

  module _ (way : Way) (reach : WayFits v flag way) where
    stop-deed : (x n : ℕ) → Deed (extend-is.Stop way x n)
    unfolding extend_done stopping reading
    stop-deed x n =
        let f = reached-fits v fit flag way reach in
        record {
          kept = by-passed _ (record {
            file-is = f.file-is;
            buffer-is = f.buffer-is;
            work-is = given;
            only = reading-only v fit flag work given x (reached v flag way) (reached-only v fit flag way reach);
          });
        }

    room-deed : (x n : ℕ) → count (detail_shape v.desc) (text_at v way) < D v.desc → Deed (extend-is.Room way x n)
    unfolding extend_done reading
    room-deed x n room =
        let t = text_at v way in
        let f = reached-fits v fit flag way reach in
        let l = insert-length v fit flag work given t (count (detail_shape v.desc) t - 1) (text-length v fit flag work given way reach) (omega arith) room in
        record {
          kept = by-passed _ (store_kept v fit flag work given n (reading x (reached v flag way)) _ f
              (reading-only v fit flag work given x (reached v flag way) (reached-only v fit flag way reach)) (rw (reached-text v flag way) l));
        }

    room-alone : (x n : ℕ) → eqb (count (detail_shape v.desc) (text_at v way)) 1 ≡ true → Deed (extend-is.Room way x n)
    room-alone x n e =
        let g = (caps v.desc fit.good).facts in
        let c = eqb-true (count (detail_shape v.desc) (text_at v way)) 1 e in
        room-deed x n (omega arith)

    room-more : (x n : ℕ) → ltb (count (detail_shape v.desc) (text_at v way)) (FD v.desc) ≡ true → Deed (extend-is.Room way x n)
    room-more x n e =
        let g = caps v.desc fit.good in
        let c = ltb-true (count (detail_shape v.desc) (text_at v way)) (FD v.desc) e in
        room-deed x n (omega arith)

    new-deed : (w : Path) (n : ℕ) (d : Taken) → last_of v way ≡ passed w → ltb (count (index_shape v.desc) (text_of v w.index)) (FI v.desc) ≡ true
        → take_one v flag w ≡ passed d → eqb d.block 0 ≡ false → Deed (extend-is.New way w d n)
    unfolding extend_done new_file
    new-deed w n d last room e z =
        let g = caps v.desc fit.good in
        let path = last_of-fits v flag way w reach last in
        let new = (one-new v flag w d e z).new.block in
        let c = ltb-true (count (index_shape v.desc) (text_of v w.index)) (FI v.desc) room in
        let m = new-moves v fit flag work given way reach w path d.block new (omega arith) in
        record {
          kept = by-passed _ (land-kept v fit flag work given n _ _ _ new (freed-length v fit _ m d.head d.lowest)
              (freed-only v fit _ m d.head d.lowest));
        }

    both-deed : (w : Path) (n : ℕ) (t : Pair) → last_of v way ≡ passed w → take_two v flag w ≡ passed t → eqb t.detail 0 ≡ false
        → Deed (extend-is.Both way w t.detail t.index n)
    unfolding extend_done section_file
    both-deed w n t last e z =
        let path = last_of-fits v flag way w reach last in
        let x = t.index in
        let two = two-new v flag w t e z in
        let new = two.detail.block in
        let moves = (reached v flag way).moves ++ section_moves v way w work t.detail x.block in
        let m : Moves v.desc moves = both-moves v fit flag work given way reach w path t.detail x.block new two.index.block in
        let f = written v.desc moves (with_free x.head x.lowest v.file) in
        let l = freed-length v fit moves m x.head x.lowest in
        let s = freed-count v fit moves m x.head x.lowest in
        let q = path.section-below in
        let some : 1 ≤ count (master_shape v.desc) f = rw s (omega arith) in
        let most : count (master_shape v.desc) f < v.desc.control = rw s two.section in
        let key = key-length v fit flag work given in
        record {
          kept = by-passed _ (land-kept v fit flag work given n _ _ _ new
              (section-length v.desc fit.good f (key_in v.desc work) x.block l key some most)
              (λ b k o. section-blocks v.desc fit.good f (key_in v.desc work) x.block l key some most b
              ∙ freed-only v fit moves m x.head x.lowest b k o));
        }

    -- NSERT's effect, under the whole call's list
    inserted-deed : (w : Path) (d : Insert) → Outside d → Passed (Kept v) (insert_done v flag work d) → Deed (extend-is.Before way w d)
    unfolding extend_done
    inserted-deed w d out inner = record { kept = search (chain, listed_kept) }

    turned-deed : (key : List ℕ) (w q : Path) (n : ℕ) → path_to v key ≡ passed q → Deed (extend-is.Before way w (insert-is.Stop (By q) n))
    turned-deed key w q n e = inserted-deed w (insert-is.Stop (By q) n) tt (stopped n (By q) (path-fits v _ _ key q e, flush-of v flag way reach))

    before-deed : (key : List ℕ) (w q : Path) (d : Insert) → path_to v key ≡ passed q
        → insert_at v flag q (row_above (detail_shape v.desc) key (text_of v q.detail)) ≡ passed d → Deed (extend-is.Before way w d)
    before-deed key w q d e f =
        inserted-deed w d (insert-outside v flag q _ d f) (at-kept v fit flag work given key q d (path-fits v _ _ key q e) (flush-of v flag way reach) f)

  -- what the plan passes
  last_fits : (way : Way) → last_way v flag ≡ passed way → WayFits v flag way
  last_fits way e = (last-passed v flag).holds way e

  deed-kept : (key : List ℕ) → Passed Deed (extend_deed v flag key)
  unfolding extend_deed extend_at alone_deed look_deed insert_before last_room new_deed new_at start_deed section_deed
  deed-kept key = search (chain, last_fits, stop-deed, turned-deed, before-deed, room-alone, room-more, new-deed, both-deed) depth 24

  done-kept : (key : List ℕ) (d : Extend) → extend_deed v flag key ≡ passed d → Passed (Kept v) (extend_done v flag work d)
  done-kept key d e = ((deed-kept key).holds d e).kept

  pub xtend-kept : Passed (Kept v) (xtend_steps v flag work)
  unfolding xtend_steps
  xtend-kept = search (chain, done-kept)
