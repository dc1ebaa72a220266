-- Where the plan of XTEND reads: the keys of the last two records of a detail block's text, and the bound before a path's entry.
use mathlib.Core.Path.{◌≡◌, ap, ◌∙◌}
use mathlib.Core.Bool.{Bool, true}
use mathlib.Core.List.{List}
use Prim.Native.Nat.{ℕ, ◌+◌, ◌-◌, ◌*◌, ◌≤◌, ◌<◌}
use native.Mathlib.Omega.{arith}
use mir.Syntax.{w64}
use mir.Val.{Fits}
use lib.ListN.{length, take, drop}
use Rattle.words.specs.Words.{part, all_are}
use Rattle.words.specs.Keys.{key_lt, is_ones}
use Rattle.words.proofs.Parts.{length_part}
use Rattle.table.specs.declared.Shape.{Shape}
use Rattle.table.specs.Tables.{count, place, key_at}
use Rattle.drum.specs.declared.Description.{Description}
use Rattle.drum.specs.Params.{D, good_params, detail_shape, index_shape, master_shape}
use Rattle.drum.specs.Blocks.{Fitting, Texts, seen, text_of}
use Rattle.drum.proofs.Good.{caps}
use Rattle.drum.proofs.Blocks.{length-text_of}
use Rattle.rules.specs.declared.Path.{Path}
use Rattle.rules.specs.Fits.{PathFits}
use Rattle.rules.specs.Xtend.{ends_in_ones}
use Rattle.rules.proofs.Rooms.{detail-row, index-row, master-row}
use Rattle.xtend.specs.Fits.{RecordsIn}

-- the master has words 0, 1 and 2 and an entry, and a buffer has a count and a key
module _ (p : Description) (f b : List ℕ) (fit : Fitting p f b) where
  pub master-long : 3 ≤ length f
  master-long =
      let g = caps p fit.good in
      let l = fit.file-is in
      omega arith

  pub buffer-long : p.k + 1 ≤ length b
  buffer-long =
      let g = caps p fit.good in
      let l = fit.buffer-is in
      omega arith

-- words lent from a place on are a part
pub span : (a m : ℕ) (t : List ℕ) → take (a + m - a) (drop a t) ≡ part a m t
unfolding part
span a m t = ap (λ (i : ℕ). take i (drop a t)) z
  where
    z : a + m - a ≡ m
    z = omega arith

-- row i lies in the text, and its place is a small number
record RowIn (p : Description) (t : List ℕ) (i : ℕ) : Type 0 where
  within : 1 + i * p.wpr + p.wpr ≤ length t
  times : Fits w64 (i * p.wpr)
  start : Fits w64 (1 + i * p.wpr)
  end : Fits w64 (1 + i * p.wpr + p.wpr)
  bytes : Fits w64 ((1 + i * p.wpr) * 4)
  key : p.k ≤ p.wpr

row_in : (p : Description) (t : List ℕ) (i : ℕ) → good_params p ≡ true → length t ≡ p.wpb → i < D p → RowIn p t i
unfolding detail_shape
row_in p t i good l h =
    let g = caps p good in
    let q = g.facts in
    let r = detail-row p good i h in
    record {
      within = omega arith;
      times = record { fits = omega arith };
      start = record { fits = omega arith };
      end = record { fits = omega arith };
      bytes = record { fits = omega arith };
      key = q.key;
    }

module _ (p : Description) (t : List ℕ) (m : ℕ) (has : RecordsIn p t m) where
  pub records-some : 1 ≤ length t
  records-some =
      let g = caps p has.good in
      let l = has.text-is in
      omega arith

-- the last record
module _ (p : Description) (t : List ℕ) (n : ℕ) (en : n ≡ count (detail_shape p) t) where
  module _ (has : RecordsIn p t 1) where
    last_row_lem : RowIn p t (n - 1)
    last_row_lem =
        let a = has.least in
        let b = has.most in
        row_in p t (n - 1) has.good has.text-is (omega arith)

    pub last_within : 1 + (n - 1) * p.wpr + p.wpr ≤ length t
    last_within = last_row_lem.within

    pub last-key : 1 + (n - 1) * p.wpr + p.k ≤ length t
    last-key =
        let r = last_row_lem in
        omega arith

    pub last-times : Fits w64 ((n - 1) * p.wpr)
    last-times = last_row_lem.times

    pub last-start : Fits w64 (1 + (n - 1) * p.wpr)
    last-start = last_row_lem.start

    pub last_end : Fits w64 (1 + (n - 1) * p.wpr + p.wpr)
    last_end = last_row_lem.end

    pub last-bytes : Fits w64 ((1 + (n - 1) * p.wpr) * 4)
    last-bytes = last_row_lem.bytes

    -- as many words as a record has
    pub last-small : 1 + length (take (1 + (n - 1) * p.wpr + p.wpr - (1 + (n - 1) * p.wpr)) (drop (1 + (n - 1) * p.wpr) t)) ≤ p.wpb
    last-small =
        let g = caps p has.good in
        let l = ap length (span (1 + (n - 1) * p.wpr) p.wpr t) ∙ length_part (1 + (n - 1) * p.wpr) p.wpr t last_within in
        omega arith

    pub last-place : (h : Shape) → h ≡ detail_shape p → place h (n - 1) + p.wpr ≤ length t
    unfolding detail_shape
    last-place h eh = rw eh last_within

  pub ends-told : (r : Bool) → r ≡ all_are 262143 (part (1 + (n - 1) * p.wpr) p.k t) → r ≡ ends_in_ones p t
  unfolding is_ones key_at detail_shape
  ends-told r e = rw en at e

  -- a record counted from the last, which is 1
  module _ (back : ℕ) where
    module _ (has : RecordsIn p t back) (some : 1 ≤ back) where
      back-row : RowIn p t (n - back)
      back-row =
          let a = has.least in
          let b = has.most in
          row_in p t (n - back) has.good has.text-is (omega arith)

      pub back-key : 1 + (n - back) * p.wpr + p.k ≤ length t
      back-key =
          let r = back-row in
          omega arith

      pub back-times : Fits w64 ((n - back) * p.wpr)
      back-times = back-row.times

      pub back-start : Fits w64 (1 + (n - back) * p.wpr)
      back-start = back-row.start

    pub above-told : (r : Bool) (key : List ℕ) → r ≡ key_lt (part (1 + (n - back) * p.wpr) p.k t) (part 0 p.k key)
        → r ≡ key_lt (key_at (detail_shape p) t (count (detail_shape p) t - back)) (part 0 p.k key)
    unfolding key_at detail_shape
    above-told r key e = rw en at e

-- the bound before the path's entry: of the section before, or of the entry before
module _ (p : Description) (cur : ℕ) (f b : List ℕ) (w : Path) where
  abbrev v : Texts
  v = seen p cur f b

  module _ (path : PathFits v w) (fit : Fitting p f b) where
    -- places are small numbers
    pub entry_next : Fits w64 (w.entry + 1)
    entry_next =
        let g = caps p fit.good in
        let l = path.entry-below in
        let m = path.entries-most in
        record { fits = omega arith }

    section-row : 3 + (w.section - 1) * (p.k + 1) + (p.k + 1) ≤ length f
    unfolding master_shape
    section-row =
        let g = caps p fit.good in
        let l = fit.file-is in
        let s = path.section-below in
        let m = path.sections-most in
        let r = master-row p fit.good (w.section - 1) (omega arith) in
        omega arith

    file-most : length f ≤ 1074782148
    file-most =
        let g = caps p fit.good in
        let l = fit.file-is in
        omega arith

    pub section-key : 3 + (w.section - 1) * (p.k + 1) + p.k ≤ length f
    section-key =
        let r = section-row in
        omega arith

    pub section-times : Fits w64 ((w.section - 1) * (p.k + 1))
    section-times =
        let r = section-row in
        let m = file-most in
        record { fits = omega arith }

    pub section-start : Fits w64 (3 + (w.section - 1) * (p.k + 1))
    section-start =
        let r = section-row in
        let m = file-most in
        record { fits = omega arith }

    module _ (t : List ℕ) (et : t ≡ text_of v w.index) where
      text-length : length t ≡ p.wpb
      text-length = ap length et ∙ length-text_of v w.index fit (path.index-least, path.index-most)

      entry_row_lem : 1 + (w.entry - 1) * (p.k + 1) + (p.k + 1) ≤ length t
      unfolding index_shape
      entry_row_lem =
          let l = text-length in
          let s = path.entry-below in
          let m = path.entries-most in
          let r = index-row p fit.good (w.entry - 1) (omega arith) in
          omega arith

      pub entry_key : 1 + (w.entry - 1) * (p.k + 1) + p.k ≤ length t
      entry_key =
          let r = entry_row_lem in
          omega arith

    entry-most : 1 + (w.entry - 1) * (p.k + 1) ≤ 4096
    entry-most =
        let g = caps p fit.good in
        let q = g.facts in
        let l = text-length (text_of v w.index) (λ j. text_of v w.index) in
        let r = entry_row_lem (text_of v w.index) (λ j. text_of v w.index) in
        omega arith

    pub entry-times : Fits w64 ((w.entry - 1) * (p.k + 1))
    entry-times =
        let m = entry-most in
        record { fits = omega arith }

    pub entry-start : Fits w64 (1 + (w.entry - 1) * (p.k + 1))
    entry-start =
        let m = entry-most in
        record { fits = omega arith }
