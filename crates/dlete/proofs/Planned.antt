-- What a plan of DLETE that passed its checks tells the code that follows it.
use Prim.Native.Nat.{ℕ, ◌≤◌}
use mathlib.Core.Path.{◌≡◌, refl, sym}
use mathlib.Core.Bool.{Bool, true, false, cond}
use mathlib.Core.List.{List}
use native.Mathlib.Omega.{arith}
use borrow.Author.Tests.{eqb-false}
use lib.Dec.{eqb}
use Rattle.numbers.specs.Numbers.{bad_file}
use Rattle.numbers.specs.Checked.{passed, ◌>>◌, require, up_to}
use Rattle.table.specs.Tables.{count}
use Rattle.drum.specs.Params.{detail_shape, index_shape}
use lib.ListN.{length}
use Rattle.drum.specs.declared.Description.{Description}
use Rattle.drum.specs.Blocks.{Fitting, Texts, text_of, chain_head}
use Rattle.drum.proofs.Good.{caps}
use Rattle.rules.specs.declared.Which.TheVariants.{Covering}
use Rattle.rules.specs.declared.Path.{Path}
use Rattle.rules.specs.declared.Way.{Way}
use Rattle.rules.specs.declared.Way.TheVariants.{Here, By}
use Rattle.rules.specs.declared.Look.{Look}
use Rattle.rules.specs.declared.Look.TheVariants as look_is
use Rattle.rules.specs.declared.Delete.{Delete}
use Rattle.rules.specs.declared.Delete.TheVariants.{Stop, Remove, Empty, Both}
use Rattle.rules.specs.Paths.{path_to}
use Rattle.rules.specs.Lookup.{look, text_at}
use Rattle.rules.specs.Fits.{PathFits, WayFits, LookFits}
use Rattle.rules.specs.Dlete.{empty_deed, empty_at, delete_after, delete_deed}
use Rattle.numbers.proofs.Passed.{Passed, chain, by-bind, by-then, by-test, by-passed, limited}
use Rattle.lookup.proofs.Fits.{path-fits, look-fits}
use Rattle.dlete.specs.Fits.{RemoveFits, EmptyFits, DeleteFits}

-- the master has a word for the chain's head, and the buffer a count
module _ (p : Description) (f b : List ℕ) (fit : Fitting p f b) where
  pub file-some : 2 ≤ length f
  file-some =
      let g = caps p fit.good in
      let l = fit.file-is in
      omega arith

  pub buffer-some : 1 ≤ length b
  buffer-some =
      let g = caps p fit.good in
      let l = fit.buffer-is in
      omega arith

module _ (v : Texts) (flag : Bool) (key : List ℕ) where
  -- an emptied block
  module _ (way : Way) (w : Path) (h : WayFits v flag way) (path : PathFits v w) where
    empty-facts : (head : ℕ) → up_to v.desc.n (chain_head v.file) ≡ passed head
        → DeleteFits v flag (cond (eqb (count (index_shape v.desc) (text_of v w.index)) 1) (Both way w head) (Empty way w head))
    empty-facts head e = go (eqb (count (index_shape v.desc) (text_of v w.index)) 1) refl
      where
        fits : EmptyFits v flag way w head
        fits =
            let a = limited v.desc.n (chain_head v.file) head e in
            record { reached = h; path = path; chained = omega arith }

        go : (t : Bool) → eqb (count (index_shape v.desc) (text_of v w.index)) 1 ≡ t → DeleteFits v flag (cond t (Both way w head) (Empty way w head))
        go true q = fits
        go false q =
            let n = eqb-false (count (index_shape v.desc) (text_of v w.index)) 1 q in
            let l = path.entry-below in
            record { emptied = fits; others = omega arith }

    empty-passed : Passed (DeleteFits v flag) (empty_deed v way w)
    unfolding empty_deed
    empty-passed = search (chain, empty-facts) depth 12

  here-passed : WayFits v flag Here → Passed (DeleteFits v flag) (empty_at v key Here)
  unfolding empty_at
  here-passed h = by-bind (path_to v key) _ led
    where
      led : (w : Path) → path_to v key ≡ passed w → Passed (DeleteFits v flag) (require (eqb w.detail v.current) bad_file >> empty_deed v Here w)
      led w e = by-then (require (eqb w.detail v.current) bad_file) _ (λ x r. empty-passed Here w h (path-fits v Covering Covering key w e))

  at-passed : (way : Way) → WayFits v flag way → Passed (DeleteFits v flag) (empty_at v key way)
  unfolding empty_at
  at-passed Here h = here-passed h
  at-passed (By w) h = empty-passed (By w) w h h.0

  after-passed : (l : Look) → LookFits v flag l → Passed (DeleteFits v flag) (delete_after v key l)
  unfolding delete_after
  after-passed (look_is.Missing w) h = by-passed (Stop w) h
  after-passed (look_is.Found way i) h =
      let gone : RemoveFits v flag way i = record { reached = h.0; below = h.1 } in
      by-test (eqb (count (detail_shape v.desc) (text_at v way)) 1) (empty_at v key way) (passed (Remove way i))
      (λ e. at-passed way h.0) (λ e. by-passed (Remove way i) gone)

  deed-passed : Passed (DeleteFits v flag) (delete_deed v flag key)
  unfolding delete_deed
  deed-passed = by-bind (look v flag key) (delete_after v key) (λ l e. after-passed l (look-fits v flag key l (sym e)))

  pub delete-fits : (d : Delete) → passed d ≡ delete_deed v flag key → DeleteFits v flag d
  delete-fits d e = deed-passed.holds d (sym e)
