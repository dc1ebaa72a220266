-- Sizes that follow from good parameters, as the code of the calls asks them: of a key, a block and its last row.
use mathlib.Core.Path.{◌≡◌, ap, ◌∙◌}
use mathlib.Core.Bool.{true}
use mathlib.Core.List.{List}
use Prim.Native.Nat.{ℕ, ◌+◌, ◌*◌, ◌-◌, ◌≤◌, ◌<◌}
use native.Mathlib.Omega.{arith}
use lib.ListN.{length}
use mir.Syntax.{w64}
use mir.Val.{Fits}
use Rattle.table.specs.Tables.{count}
use Rattle.table.proofs.Places.{row_lt}
use Rattle.drum.specs.declared.Description.{Description}
use Rattle.drum.specs.Params.{D, I, good_params, detail_shape}
use Rattle.drum.specs.Blocks.{Fitting, seen, text_of}
use Rattle.drum.proofs.Good.{caps}
use Rattle.drum.proofs.Blocks.{length-text_of}

-- good parameters
module _ (p : Description) (good : good_params p ≡ true) where
  pub block-wide : 6 ≤ p.wpb
  block-wide = (caps p good).facts.wpb-least

  pub key-short : p.k + 1 < p.wpb
  key-short = (caps p good).entry_lt

  -- the key lies in a record, and in a workspace of a record's length
  pub key-in-row : p.k ≤ p.wpr
  key-in-row = (caps p good).facts.key

  pub key-within : (work : List ℕ) → length work ≡ p.wpr → p.k ≤ length work
  key-within work e =
      let k = key-in-row in
      omega arith

  pub entries-few : I p ≤ 4096
  entries-few = (caps p good).i-most

  pub sections-few : p.control ≤ 16383
  sections-few = (caps p good).facts.control-most

  -- the number of a block fits into a word
  pub number_small : (x : ℕ) → x ≤ p.n → x ≤ 262143
  number_small x h =
      let g = caps p good in
      let q = g.facts in
      omega arith

-- the text of a block
module _ (p : Description) (cur : ℕ) (f b t : List ℕ) (a : ℕ) (e : t ≡ text_of (seen p cur f b) a)
    (fit : Fitting p f b) (least : 1 ≤ a) (most : a ≤ p.n) where
  pub text-long : length t ≡ p.wpb
  text-long = ap length e ∙ length-text_of (seen p cur f b) a fit (least, most)

  pub text-some : 0 < length t
  text-some =
      let l = text-long in
      let w = block-wide p fit.good in
      omega arith

-- the last row of a block lies in it
module _ (p : Description) (t : List ℕ) (n : ℕ) (en : n ≡ count (detail_shape p) t) (good : good_params p ≡ true)
    (long : length t ≡ p.wpb) (least : 1 ≤ count (detail_shape p) t) (most : count (detail_shape p) t ≤ D p) where
  pub last_within : 1 + (n - 1) * p.wpr + p.k ≤ length t
  last_within =
      let g = caps p good in
      let f = g.facts in
      let r = row_lt (n - 1) (D p) p.wpr (omega arith) in
      omega arith

  pub last-span : Fits w64 ((n - 1) * p.wpr)
  last-span =
      let l = last_within in
      let g = caps p good in
      let f = g.facts in
      omega arith

  pub last-place : Fits w64 (1 + (n - 1) * p.wpr)
  last-place =
      let l = last_within in
      let g = caps p good in
      let f = g.facts in
      omega arith
