-- What the code of a plan asks of the code below it: the texts of a path's blocks have counts, and the rows counted lie in them.
use mathlib.Core.Path.{◌≡◌, ap, ◌∙◌, subst}
use mathlib.Core.Bool.{Bool}
use mathlib.Core.List.{List}
use Prim.Native.Nat.{ℕ, ◌+◌, ◌≤◌, ◌<◌}
use native.Mathlib.Omega.{arith}
use mir.Syntax.{w64}
use mir.Val.{Fits}
use lib.ListN.{length}
use Rattle.numbers.specs.Checked.{passed}
use Rattle.words.specs.Words.{part}
use Rattle.table.specs.declared.Shape.{Shape}
use Rattle.table.specs.declared.Want.TheVariants.{Over}
use Rattle.table.specs.Tables.{count, place, row_above, first_where, fits}
use Rattle.drum.specs.declared.Description.{Description}
use Rattle.drum.specs.Params.{D, detail_shape}
use Rattle.drum.specs.Blocks.{Fitting, Texts, seen, text_of}
use Rattle.drum.proofs.Good.{caps}
use Rattle.drum.proofs.Blocks.{length-text_of}
use Rattle.rules.specs.declared.Path.{Path}
use Rattle.rules.specs.declared.Look.{Look}
use Rattle.rules.specs.declared.Look.TheVariants.{Missing}
use Rattle.rules.specs.Lookup.{look}
use Rattle.rules.specs.Fits.{PathFits, LookFits}
use Rattle.rules.proofs.Rooms.{detail-end}
use Rattle.lookup.proofs.Fits.{look-fits, detail-found}

-- blocks hold few records
pub few-records : (p : Description) (f b : List ℕ) → Fitting p f b → D p ≤ 4096
few-records p f b fit = let g = caps p fit.good in let h = g.facts in omega arith

module _ (p : Description) (cur : ℕ) (f b : List ℕ) where
  abbrev v : Texts
  v = seen p cur f b

  -- a current text has a count
  pub text-some : (x : ℕ) (t : List ℕ) → t ≡ text_of v x → 1 ≤ x → x ≤ p.n → Fitting p f b → 0 < length t
  text-some x t e least most fit =
      let g = caps p fit.good in
      let l = ap length e ∙ length-text_of v x fit (least, most) in
      omega arith

  -- a record's place: the rows lie in the text, keys in rows, and the key in its words; what was found is the first record above it
  module _ (h : Shape) (eh : h ≡ detail_shape p) where
    pub key-narrow : Fitting p f b → h.width ≤ h.stride
    unfolding detail_shape
    key-narrow fit = rw eh (caps p fit.good).facts.key

    pub key_in_lem : (key : List ℕ) → p.k ≤ length key → 0 + h.width ≤ length key
    unfolding detail_shape
    key_in_lem key l = rw eh (omega arith)

    module _ (w : Path) (t : List ℕ) (n : ℕ) (en : n ≡ count (detail_shape p) t) (et : t ≡ text_of v w.detail) where
      pub rows_in_lem : PathFits v w → Fitting p f b → place h n ≤ length t
      rows_in_lem path fit =
          let l = length-text_of v w.detail fit (path.detail-least, path.detail-most) in
          let m : n ≤ D p = rw (en, et) path.records-most in
          rw (eh, et, l) (detail-end p fit.good n m)

      pub found-above : (key : List ℕ) (i : ℕ) → i ≡ first_where (fits Over h (part 0 h.width key) t) n
          → i ≡ row_above (detail_shape p) (part 0 p.k key) (text_of v w.detail)
      found-above key i e = simp (← et, ← en) (detail-found p h Over key t n i eh e)

  -- one record more is still a number
  pub count_next : (w : Path) (t : List ℕ) (n : ℕ) → n ≡ count (detail_shape p) t → t ≡ text_of v w.detail → PathFits v w → Fitting p f b
      → Fits w64 (n + 1)
  count_next w t n en et path fit =
      let g = caps p fit.good in
      let m : n ≤ D p = rw (en, et) path.records-most in
      record { fits = omega arith }

  -- a lookup that finds nothing leads to a block that would hold the record
  pub missing-path : (flag : Bool) (key : List ℕ) (l : Look) (w : Path) → passed l ≡ look v flag key → l ≡ Missing w → PathFits v w
  missing-path flag key l w el e = (subst (LookFits v flag) e (look-fits v flag key l el)).0
