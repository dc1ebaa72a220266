-- Lengths and counts that a lookup asks: of good parameters, of a block's current text, of the rows in it.
use mathlib.Core.Path.{◌≡◌, ap, ◌∙◌}
use mathlib.Core.Bool.{true}
use mathlib.Core.List.{List}
use Prim.Native.Nat.{ℕ, ◌+◌, ◌≤◌, ◌<◌}
use native.Mathlib.Omega.{arith}
use lib.ListN.{length}
use Rattle.table.specs.declared.Shape.{Shape}
use Rattle.table.specs.Tables.{count, place}
use Rattle.table.proofs.Places.{row-le}
use Rattle.drum.specs.declared.Description.{Description}
use Rattle.drum.specs.Params.{D, I, good_params, master_shape, index_shape, detail_shape}
use Rattle.drum.specs.Blocks.{Fitting, seen, text_of}
use Rattle.drum.proofs.Good.{caps}
use Rattle.drum.proofs.Blocks.{length-text_of}
use Rattle.rules.specs.declared.Path.{Path}
use Rattle.rules.specs.Fits.{PathFits}
use Rattle.lookup.specs.Tables.{Entries}

pub block-wide : (p : Description) → good_params p ≡ true → 6 ≤ p.wpb
block-wide p good = (caps p good).facts.wpb-least

-- the text of a block
module _ (p : Description) (cur : ℕ) (f b t : List ℕ) (a : ℕ) (e : t ≡ text_of (seen p cur f b) a)
    (fit : Fitting p f b) (least : 1 ≤ a) (most : a ≤ p.n) where
  pub text-long : length t ≡ p.wpb
  text-long = ap length e ∙ length-text_of (seen p cur f b) a fit (least, most)

  pub text-some : 0 < length t
  text-some =
      let l = text-long in
      let w = block-wide p fit.good in
      omega arith

-- the count of the block at the end of a way
pub text-count : (p : Description) (cur : ℕ) (f b t : List ℕ) (w : Path) → t ≡ text_of (seen p cur f b) w.detail
    → PathFits (seen p cur f b) w → count (detail_shape p) t ≤ D p
text-count p cur f b t w e h = rw e h.records-most

-- a detail block's rows lie in its text, their keys in the rows
module _ (p : Description) (h : Shape) (eh : h ≡ detail_shape p) where
  pub rows-within : (t : List ℕ) (n : ℕ) → n ≡ count (detail_shape p) t → good_params p ≡ true → length t ≡ p.wpb → count (detail_shape p) t ≤ D p
      → place h n ≤ length t
  unfolding detail_shape
  rows-within t n en good long most =
      let g = caps p good in
      let r = row-le n (D p) p.wpr (omega arith) in
      rw eh (omega arith)

  pub width-within : good_params p ≡ true → h.width ≤ h.stride
  unfolding detail_shape
  width-within good =
      let k = (caps p good).facts.key in
      rw eh k

  pub key-there : (key : List ℕ) → p.k ≤ length key → 0 + h.width ≤ length key
  unfolding detail_shape
  key-there key l = rw eh (omega arith)

-- the master's entries, and those of an index block
module _ (p : Description) (cur : ℕ) (f b key : List ℕ) (h : Shape) where
  pub master-entries : h ≡ master_shape p → Fitting p f b → p.k ≤ length key → Entries p h p.control f key
  unfolding master_shape
  master-entries eh fit l =
      let g = caps p fit.good in
      let z = fit.file-is in
      rw eh (record { base-least = omega arith; width_is = omega arith; stride-is = omega arith; room = omega arith; key-long = l })

  pub index-entries : (t : List ℕ) (a most : ℕ) → t ≡ text_of (seen p cur f b) a → h ≡ index_shape p → most ≡ I p → Fitting p f b → 1 ≤ a → a ≤ p.n
      → p.k ≤ length key → Entries p h most t key
  unfolding index_shape
  index-entries t a most et eh em fit least up l =
      let g = caps p fit.good in
      let z = text-long p cur f b t a et fit least up in
      rw (eh, em) (record { base-least = omega arith; width_is = omega arith; stride-is = omega arith; room = omega arith; key-long = l })
