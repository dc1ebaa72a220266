-- The effects of NSERT have the right lengths, and change no block but those that they write.
use Prim.Native.Nat.{ℕ, ◌+◌, ◌-◌, ◌≤◌, ◌<◌}
use mathlib.Core.Path.{◌≡◌, ◌∙◌}
use mathlib.Core.Bool.{Bool, true, false, cond}
use mathlib.Core.List.{List, ◌++◌}
use native.Mathlib.Omega.{arith}
use borrow.Author.Tests.{ltb-true}
use lib.Dec.{eqb, ltb}
use lib.ListN.{length, length-append}
use Rattle.numbers.specs.Checked.{passed}
use Rattle.table.specs.Tables.{count, place, row_above, fits}
use Rattle.table.specs.declared.Want.TheVariants.{Over}
use Rattle.table.specs.Splits.{low_count, low_bound, renamed, entered}
use Rattle.table.proofs.Searches.{first-le}
use Rattle.table.proofs.Lengths.{length-entered, length-low, length_high, low-least, low-most}
use Rattle.table.proofs.Kept.{part-entered}
use Rattle.drum.specs.declared.Description.{Description}
use Rattle.drum.specs.Params.{D, I, start, master_size, file_size, good_params, master_shape, index_shape, detail_shape}
use Rattle.drum.specs.Blocks.{written, block_at, Texts, text_of, Fitting, Block}
use Rattle.drum.proofs.Good.{caps}
use Rattle.drum.proofs.Blocks.{length-text_of, start-after}
use Rattle.drum.proofs.Written.{Moves, moves-append}
use Rattle.rules.specs.declared.Path.{Path}
use Rattle.rules.specs.declared.Way.{Way}
use Rattle.rules.specs.declared.Way.TheVariants.{By}
use Rattle.rules.specs.declared.Look.{Look}
use Rattle.rules.specs.declared.Look.TheVariants as look_is
use Rattle.rules.specs.declared.Taken.{Taken}
use Rattle.rules.specs.declared.Pair.{Pair}
use Rattle.rules.specs.declared.Insert.{Insert}
use Rattle.rules.specs.declared.Insert.TheVariants as insert-is
use Rattle.rules.specs.State.{record_in}
use Rattle.rules.specs.Lookup.{reached}
use Rattle.rules.specs.Free.{take_one, take_two, with_free}
use Rattle.rules.specs.Nsert.{room_deed, split_deed, both_deed, insert_at, insert_after, insert_deed}
use Rattle.rules.specs.NsertDone.{detail_low, detail_high, detail_entry, index_entered, index_low, index_high, index_entry, split_moves, both_split_moves, split_file, both_split_file, half_of, insert_done, nsert_steps}
use Rattle.rules.specs.Fits.{PathFits, FlushFits, LookFits}
use Rattle.numbers.proofs.Passed.{Passed, chain, by-passed}
use Rattle.rules.proofs.Fits.{looked-fits}
use Rattle.rules.proofs.Takes.{one-new, two-new}
use Rattle.rules.proofs.Rooms.{detail-key, index-base, index-row, index_key, master-base, master-row}
use Rattle.rules.proofs.Kept.{Kept, index-block, detail-block, reached-text, reached-moves, reached-fits, reached-only, record-length, insert-length, stop-kept, store_kept, land-kept, freed-length, freed-only, freed-count}

-- the texts of a split have WPB words, their entries K+1
module _ (v : Texts) (fit : Fitting v.desc v.file v.buffer) (w : Path) (path : PathFits v w) (i : ℕ) (r : List ℕ)
    (whole : length r ≡ v.desc.wpr) where
  pub low-length : length (detail_low v w i r) ≡ v.desc.wpb
  unfolding detail_low detail_shape
  low-length =
      let g = caps v.desc fit.good in
      let f = g.facts in
      length-low v.desc.wpb (detail_shape v.desc) (D v.desc) i r (text_of v w.detail) (omega arith) whole g.records-fit

  pub high-length : length (detail_high v w i r) ≡ v.desc.wpb
  unfolding detail_high detail_shape
  high-length =
      let g = caps v.desc fit.good in
      let f = g.facts in
      length_high v.desc.wpb (detail_shape v.desc) (D v.desc) i r (text_of v w.detail) (omega arith) whole g.records-fit

  pub entry_length : length (detail_entry v w i r) ≡ v.desc.k + 1
  unfolding detail_entry low_bound
  entry_length =
      let g = (caps v.desc fit.good).facts in
      let a = low-least (D v.desc) in
      let b = low-most (D v.desc) (omega arith) in
      let l = detail-key v.desc fit.good (detail_low v w i r) (low_count (D v.desc) - 1) low-length (omega arith) in
      simp length-append (omega arith)

  pub entered-length : (b : ℕ) → count (index_shape v.desc) (text_of v w.index) < I v.desc → length (index_entered v w i r b) ≡ v.desc.wpb
  unfolding index_entered index_shape
  entered-length b room =
      let t = text_of v w.index in
      let l = length-text_of v w.index fit (index-block v w path) in
      let q = index-row v.desc fit.good (count (index_shape v.desc) t) room in
      let e = path.entry-below in
      length-entered (index_shape v.desc) w.entry t (detail_entry v w i r) b (index-base v.desc) (omega arith) entry_length (omega arith) ∙ l

  pub index-low-length : (b : ℕ) → length (index_low v w i r b) ≡ v.desc.wpb
  unfolding index_low index_shape
  index-low-length b =
      let g = caps v.desc fit.good in
      let f = g.facts in
      length-low v.desc.wpb (index_shape v.desc) (I v.desc) w.entry (detail_entry v w i r)
      (renamed (index_shape v.desc) w.entry b (text_of v w.index)) (omega arith) entry_length g.entries_fit

  index-high-length : (b : ℕ) → length (index_high v w i r b) ≡ v.desc.wpb
  unfolding index_high index_shape
  index-high-length b =
      let g = caps v.desc fit.good in
      let f = g.facts in
      length_high v.desc.wpb (index_shape v.desc) (I v.desc) w.entry (detail_entry v w i r)
      (renamed (index_shape v.desc) w.entry b (text_of v w.index)) (omega arith) entry_length g.entries_fit

  index-entry-length : (b : ℕ) → length (index_entry v w i r b) ≡ v.desc.k + 1
  unfolding index_entry low_bound
  index-entry-length b =
      let g = (caps v.desc fit.good).facts in
      let a = low-least (I v.desc) in
      let c = low-most (I v.desc) (omega arith) in
      let l = index_key v.desc fit.good (index_low v w i r b) (low_count (I v.desc) - 1) (index-low-length b) (omega arith) in
      simp length-append (omega arith)

  -- every transfer is of a good block, and what is written has WPB words
  module _ (flag : Bool) (due : FlushFits v flag) (b : ℕ) (new : Block v.desc b) where
    split_moves_lem : count (index_shape v.desc) (text_of v w.index) < I v.desc → Moves v.desc ((reached v flag (By w)).moves ++ split_moves v w i r b)
    unfolding split_moves
    split_moves_lem room =
        moves-append v.desc (reached v flag (By w)).moves _ (reached-moves v fit flag (By w) (path, due))
        (detail-block v w path, low-length, (new, high-length, (index-block v w path, entered-length b room, tt)))

    both-moves : (x : ℕ) → Block v.desc x → Moves v.desc ((reached v flag (By w)).moves ++ both_split_moves v w i r b x)
    unfolding both_split_moves
    both-moves x newer =
        moves-append v.desc (reached v flag (By w)).moves _ (reached-moves v fit flag (By w) (path, due))
        (detail-block v w path, low-length, (new, high-length, (index-block v w path, index-low-length b, (newer, index-high-length b, tt))))

-- the master with an entry that becomes two
module _ (p : Description) (good : good_params p ≡ true) (f : List ℕ) (i : ℕ) (r : List ℕ) (x : ℕ) (l : length f ≡ file_size p)
    (below : i < count (master_shape p) f) (most : count (master_shape p) f < p.control) (whole : length r ≡ p.k + 1) where
  section-room : place (master_shape p) (count (master_shape p) f) + (p.k + 1) ≤ master_size p
  section-room = master-row p good (count (master_shape p) f) most

  section-fits : place (master_shape p) (count (master_shape p) f) + (p.k + 1) ≤ length f
  section-fits =
      let g = caps p good in
      let q = section-room in
      omega arith

  section-length : length (entered (master_shape p) i r x f) ≡ file_size p
  unfolding master_shape
  section-length = length-entered (master_shape p) i f r x (master-base p) (omega arith) whole section-fits ∙ l

  section-blocks : (b : ℕ) → block_at p (entered (master_shape p) i r x f) b ≡ block_at p f b
  unfolding block_at master_shape
  section-blocks b =
      let s = start-after p b in
      let q = section-room in
      part-entered (master_shape p) i r x f (master-base p) (omega arith) (omega arith) whole section-fits (start p b) p.wpb (omega arith)

module _ (v : Texts) (fit : Fitting v.desc v.file v.buffer) (flag : Bool) (work : List ℕ) (given : length work ≡ v.desc.wpr) where
  record Deed (d : Insert) : Type 0 where
    kept : Passed (Kept v) (insert_done v flag work d)

  module _ (w : Path) (path : PathFits v w) (due : FlushFits v flag) where
    stop-deed : (n : ℕ) → Deed (insert-is.Stop (By w) n)
    unfolding insert_done
    stop-deed n = record { kept = by-passed _ (stop-kept v fit flag work given n (By w) (path, due)) }

    room-deed : (i n : ℕ) → i ≤ count (detail_shape v.desc) (text_of v w.detail)
        → ltb (count (detail_shape v.desc) (text_of v w.detail)) (D v.desc) ≡ true → Deed (insert-is.Room w i n)
    unfolding insert_done
    room-deed i n low e =
        let t = text_of v w.detail in
        let f = reached-fits v fit flag (By w) (path, due) in
        let whole = length-text_of v w.detail fit (detail-block v w path) in
        let l = insert-length v fit flag work given t i whole low (ltb-true (count (detail_shape v.desc) t) (D v.desc) e) in
        record {
          kept = by-passed _ (store_kept v fit flag work given n (reached v flag (By w)) _ f (reached-only v fit flag (By w) (path, due))
              (rw (reached-text v flag (By w)) l));
        }

    half-block : (n i b : ℕ) → Block v.desc b → Block v.desc (half_of n i w.detail b)
    half-block n i b new = go (ltb i (low_count n))
      where
        go : (t : Bool) → Block v.desc (cond t w.detail b)
        go true = detail-block v w path
        go false = new

    split-deed : (i n : ℕ) (d : Taken) → ltb (count (index_shape v.desc) (text_of v w.index)) (I v.desc) ≡ true
        → take_one v flag w ≡ passed d → eqb d.block 0 ≡ false → Deed (insert-is.Split w i d n)
    unfolding insert_done split_file
    split-deed i n d room e z =
        let r = record_in v.desc work in
        let new = (one-new v flag w d e z).new.block in
        let m = split_moves_lem v fit w path i r (record-length v fit flag work given) flag due d.block new (ltb-true _ _ room) in
        record {
          kept = by-passed _ (land-kept v fit flag work given n _ _ _ (half-block (D v.desc) i d.block new)
              (freed-length v fit _ m d.head d.lowest) (freed-only v fit _ m d.head d.lowest));
        }

    both-deed : (i n : ℕ) (t : Pair) → take_two v flag w ≡ passed t → eqb t.detail 0 ≡ false → Deed (insert-is.Both w i t.detail t.index n)
    unfolding insert_done both_split_file
    both-deed i n t e z =
        let b = t.detail in
        let x = t.index in
        let r = record_in v.desc work in
        let two = two-new v flag w t e z in
        let new = two.detail.block in
        let newer = two.index.block in
        let whole = record-length v fit flag work given in
        let moves = (reached v flag (By w)).moves ++ both_split_moves v w i r b x.block in
        let m : Moves v.desc moves = both-moves v fit w path i r whole flag due b new x.block newer in
        let f = written v.desc moves (with_free x.head x.lowest v.file) in
        let l = freed-length v fit moves m x.head x.lowest in
        let s = freed-count v fit moves m x.head x.lowest in
        let below : w.section < count (master_shape v.desc) f = rw s path.section-below in
        let most : count (master_shape v.desc) f < v.desc.control = rw s two.section in
        let entry = index-entry-length v fit w path i r whole b in
        record {
          kept = by-passed _ (land-kept v fit flag work given n _ _ _ (half-block (D v.desc) i b new)
              (section-length v.desc fit.good f w.section _ x.block l below most entry)
              (λ y k o. section-blocks v.desc fit.good f w.section _ x.block l below most entry y
              ∙ freed-only v fit moves m x.head x.lowest y k o));
        }

  -- what the plan passes
  duplicate-deed : (way : Way) (i n : ℕ) → LookFits v flag (look_is.Found way i) → Deed (insert-is.Stop way n)
  unfolding insert_done
  duplicate-deed way i n h = record { kept = by-passed _ (stop-kept v fit flag work given _ way h.0) }

  above_low : (key : List ℕ) (w : Path) → row_above (detail_shape v.desc) key (text_of v w.detail) ≤ count (detail_shape v.desc) (text_of v w.detail)
  above_low key w = first-le (fits Over (detail_shape v.desc) key (text_of v w.detail)) (count (detail_shape v.desc) (text_of v w.detail))

  after_kept : (key : List ℕ) (l : Look) → LookFits v flag l → Passed Deed (insert_after v flag key l)
  unfolding insert_after insert_at room_deed split_deed both_deed
  after_kept key (look_is.Found way i) h = by-passed _ (duplicate-deed way i _ h)
  after_kept key (look_is.Missing w) h =
      let p : PathFits v w = h.0 in
      let f : FlushFits v flag = h.1 in
      let low = above_low key w in
      search (chain, stop-deed, room-deed, split-deed, both-deed) depth 16

  -- of a path that a lookup came to
  pub at-kept : (key : List ℕ) (w : Path) (d : Insert) → PathFits v w → FlushFits v flag
      → insert_at v flag w (row_above (detail_shape v.desc) key (text_of v w.detail)) ≡ passed d → Passed (Kept v) (insert_done v flag work d)
  unfolding insert_after
  at-kept key w d path due e = ((after_kept key (look_is.Missing w) (path, due)).holds d e).kept

  deed-kept : (key : List ℕ) → Passed Deed (insert_deed v flag key)
  unfolding insert_deed
  deed-kept key = search (chain, after_kept, looked-fits)

  done-kept : (key : List ℕ) (d : Insert) → insert_deed v flag key ≡ passed d → Passed (Kept v) (insert_done v flag work d)
  done-kept key d e = ((deed-kept key).holds d e).kept

  pub nsert-kept : Passed (Kept v) (nsert_steps v flag work)
  unfolding nsert_steps
  nsert-kept = search (chain, done-kept)
