-- What the checks of a way tell once they are passed: of an entry, of a path, of the buffered block, of a lookup, of ADV's step, of XTEND's
-- last block.
use Prim.Native.Nat.{ℕ, ◌-◌, ◌≤◌, ◌<◌}
use mathlib.Core.Path.{◌≡◌, refl, sym, ◌∙◌, subst}
use mathlib.Core.Bool.{Bool, true, false, cond, not, ◌&&◌}
use mathlib.Core.List.{List, []}
use native.Mathlib.Omega.{arith}
use borrow.Author.Tests.{leb-true, ltb-true, ltb-false, eqb-false, not-true}
use lib.Dec.{leb, ltb, eqb}
use Rattle.numbers.specs.Numbers.{bad_file}
use Rattle.numbers.specs.Checked.{passed, require, within}
use Rattle.words.proofs.Keys.{clash}
use Rattle.words.specs.Keys.{key_lt, key_le}
use Rattle.table.specs.declared.Shape.{Shape}
use Rattle.table.specs.Tables.{count, key_at, fits, row_with, row_above, block_in}
use Rattle.table.specs.declared.Want.TheVariants.{Over}
use Rattle.table.proofs.Searches.{first-before}
use Rattle.drum.specs.declared.Description.{Description}
use Rattle.drum.specs.Params.{D, I, master_shape, index_shape, detail_shape}
use Rattle.drum.specs.Blocks.{Texts, text_of}
use Rattle.drum.proofs.Forms.{count-master}
use Rattle.rules.specs.declared.Which.{Which}
use Rattle.rules.specs.declared.Entry.{Entry}
use Rattle.rules.specs.declared.Path.{Path}
use Rattle.rules.specs.declared.Way.{Way}
use Rattle.rules.specs.declared.Way.TheVariants.{Here, By}
use Rattle.rules.specs.declared.Look.{Look}
use Rattle.rules.specs.declared.Look.TheVariants.{Found, Missing}
use Rattle.rules.specs.declared.Step.TheVariants as step_is
use Rattle.rules.specs.Paths.{chosen, entry_of, path_at, path_under, path_by, path_to, first_path, last_path}
use Rattle.rules.specs.Lookup.{on_buffer, flush_ok, in_buffer, look_at, look_outside, look}
use Rattle.rules.specs.Adv.{next_row, next_in_buffer, next_path, adv_beyond, adv_at, adv_outside, adv_step}
use Rattle.rules.specs.Xtend.{ends_in_ones, last_outside, last_way, last_of}
use Rattle.rules.specs.Fits.{PathFits, FlushFits, BufferFits, WayFits, LookFits, StepFits}
use Rattle.numbers.proofs.Passed.{Passed, chain, required, ranged, both}

-- an entry of the table t
pub record EntryFits (p : Description) (h : Shape) (t : List ℕ) (most : ℕ) (e : Entry) : Type 0 where
  pub count_most : count h t ≤ most
  pub place-below : e.place < count h t
  pub block-least : 1 ≤ e.block
  pub block-most : e.block ≤ p.n

module _ (p : Description) (h : Shape) (most : ℕ) (which : Which) (key t : List ℕ) where
  entry-facts : (n b : ℕ) (x : Bool)
      → within 1 most (count h t) ≡ passed n
      → require (ltb (chosen which h key t) n) bad_file ≡ passed x
      → within 1 p.n (block_in h t (chosen which h key t)) ≡ passed b
      → EntryFits p h t most (record { place = chosen which h key t; block = b })
  entry-facts n b x e r f =
      let a = ranged 1 most (count h t) n e in
      let z = ranged 1 p.n (block_in h t (chosen which h key t)) b f in
      let q = ltb-true (chosen which h key t) n (required (ltb (chosen which h key t) n) bad_file x r) in
      record { count_most = a.1; place-below = omega arith; block-least = omega arith; block-most = omega arith }

  entry-passed : Passed (EntryFits p h t most) (entry_of p h most which key t)
  unfolding entry_of
  entry-passed = search (chain, entry-facts) depth 12

  pub entry-fits : (e : Entry) → entry_of p h most which key t ≡ passed e → EntryFits p h t most e
  entry-fits e q = entry-passed.holds e q

-- a path
module _ (v : Texts) (top which : Which) (key : List ℕ) where
  path-facts : (m e : Entry) (x : Bool) (n : ℕ)
      → entry_of v.desc (master_shape v.desc) v.desc.control top key v.file ≡ passed m
      → entry_of v.desc (index_shape v.desc) (I v.desc) which key (text_of v m.block) ≡ passed e
      → require (not (eqb m.block e.block)) bad_file ≡ passed x
      → within 1 (D v.desc) (count (detail_shape v.desc) (text_of v e.block)) ≡ passed n
      → PathFits v (record { section = m.place; index = m.block; entry = e.place; detail = e.block })
  path-facts m e x n a b c d =
      let f = entry-fits v.desc (master_shape v.desc) v.desc.control top key v.file m a in
      let g = entry-fits v.desc (index_shape v.desc) (I v.desc) which key (text_of v m.block) e b in
      let r = ranged 1 (D v.desc) (count (detail_shape v.desc) (text_of v e.block)) n d in
      record {
        sections-most = rw (← count-master v.desc v.file) f.count_most;
        section-below = rw (← count-master v.desc v.file) f.place-below;
        index-least = f.block-least;
        index-most = f.block-most;
        entries-most = g.count_most;
        entry-below = g.place-below;
        detail-least = g.block-least;
        detail-most = g.block-most;
        apart = eqb-false _ _ (not-true _ (required _ _ _ c));
        records-least = r.0;
        records-most = r.1;
      }

  pub path-passed : Passed (PathFits v) (path_by v top which key)
  unfolding path_by path_under path_at
  path-passed = search (chain, path-facts) depth 12

  pub path-fits : (w : Path) → path_by v top which key ≡ passed w → PathFits v w
  path-fits w e = path-passed.holds w e

-- the block that a flagged buffer is written to
pub flush-fits : (v : Texts) (flag : Bool) → flush_ok v flag ≡ true → FlushFits v flag
flush-fits v true e h =
    let d = both (leb 1 v.current) (leb v.current v.desc.n) e in
    (leb-true _ _ d.0, leb-true _ _ d.1)
flush-fits v false e h = absurd (clash (sym h))

pub flush-due : (v : Texts) (flag x : Bool) → require (flush_ok v flag) bad_file ≡ passed x → FlushFits v flag
flush-due v flag x e = flush-fits v flag (required (flush_ok v flag) bad_file x e)

-- the same of any way that was gone
pub flush-of : (v : Texts) (flag : Bool) (way : Way) → WayFits v flag way → FlushFits v flag
flush-of v flag Here h e = (h.current-least, h.current-most)
flush-of v flag (By w) h e = h.1 e

-- the buffered block, where a test of its keys was made and holds
abbrev Tested : Texts → Bool → Bool → Type 0
Tested v test here = here ≡ true → BufferFits v × (test ≡ true)

module _ (v : Texts) (test : Bool) where
  tested-none : Tested v test false
  tested-none h = absurd (clash (sym h))

  tested-facts : (x y : ℕ) → within 1 v.desc.n v.current ≡ passed x
      → within 1 (D v.desc) (count (detail_shape v.desc) v.buffer) ≡ passed y → Tested v test test
  tested-facts x y e f h =
      let a = ranged 1 v.desc.n v.current x e in
      let b = ranged 1 (D v.desc) (count (detail_shape v.desc) v.buffer) y f in
      (record { current-least = a.0; current-most = a.1; records-least = b.0; records-most = b.1 }, h)

  tested-passed : Passed (Tested v test) (on_buffer v test)
  unfolding on_buffer
  tested-passed = search (chain, tested-none, tested-facts) depth 12

  pub tested-fits : (here : Bool) → on_buffer v test ≡ passed here → here ≡ true → BufferFits v × (test ≡ true)
  tested-fits here e h = tested-passed.holds here e h

-- what a lookup comes to
module _ (v : Texts) (flag : Bool) (key : List ℕ) where
  at-fits : (w : Path) → PathFits v w → FlushFits v flag → LookFits v flag (look_at v key w)
  at-fits w a f = go (ltb i n) refl
    where
      n : ℕ
      n = count (detail_shape v.desc) (text_of v w.detail)

      i : ℕ
      i = row_with (detail_shape v.desc) key (text_of v w.detail)

      go : (t : Bool) → ltb i n ≡ t → LookFits v flag (cond t (Found (By w) i) (Missing w))
      go true e = ((a, f), ltb-true i n e)
      go false e = (a, f)

  outside-facts : (w : Path) (x : Bool) → path_to v key ≡ passed w → require (flush_ok v flag) bad_file ≡ passed x → LookFits v flag (look_at v key w)
  outside-facts w x e r = at-fits w (path-fits v _ _ key w e) (flush-due v flag x r)

  here-facts : (here : Bool) → in_buffer v key ≡ passed here → here ≡ true → LookFits v flag (Found Here (row_with (detail_shape v.desc) key v.buffer))
  unfolding in_buffer
  here-facts here e h =
      let a = tested-fits v (ltb (row_with (detail_shape v.desc) key v.buffer) (count (detail_shape v.desc) v.buffer)) here e h in
      (a.0, ltb-true _ _ a.1)

  pub look-passed : Passed (LookFits v flag) (look v flag key)
  unfolding look look_outside
  look-passed = search (chain, here-facts, outside-facts) depth 12

  -- the same of one lookup that passed
  pub looked-fits : (l : Look) → look v flag key ≡ passed l → LookFits v flag l
  looked-fits l e = look-passed.holds l e

-- ADV
pub next-passed : (v : Texts) (w : Path) → Passed (PathFits v) (next_path v w)
unfolding next_path
next-passed v w = search (chain, path-passed)

-- where position is below the last key, a record is above it
row-above : (h : Shape) (at t : List ℕ) → 1 ≤ count h t → key_lt at (key_at h t (count h t - 1)) ≡ true → row_above h at t < count h t
unfolding fits
row-above h at t c e = go (ltb (row_above h at t) (count h t)) refl
  where
    go : (b : Bool) → ltb (row_above h at t) (count h t) ≡ b → row_above h at t < count h t
    go true g = ltb-true _ _ g
    go false g =
        let l = ltb-false (row_above h at t) (count h t) g in
        absurd (clash (sym e ∙ first-before (fits Over h at t) (count h t) (count h t - 1) (omega arith)))

module _ (v : Texts) (flag : Bool) (at : List ℕ) where
  step-here : (here : Bool) → next_in_buffer v at ≡ passed here → here ≡ true → StepFits v flag (step_is.At Here (next_row v true at v.buffer))
  unfolding next_in_buffer
  step-here here e h =
      let n = detail_shape v.desc in
      let first = key_le (key_at n v.buffer 0) at in
      let last = key_lt at (key_at n v.buffer (count (detail_shape v.desc) v.buffer - 1)) in
      let a = tested-fits v (first && last) here e h in
      (a.0, row-above n at v.buffer a.0.records-least (both first last a.1).1)

  step-at : (w : Path) (x : Bool) (i : ℕ) → PathFits v w → require (flush_ok v flag) bad_file ≡ passed x
      → ltb i (count (detail_shape v.desc) (text_of v w.detail)) ≡ true
      → StepFits v flag (step_is.At (By w) i)
  step-at w x i p e l = ((p, flush-due v flag x e), ltb-true _ _ l)

  step-beyond : (w x : Path) (y z : Bool) (i : ℕ) → next_path v w ≡ passed x → require (flush_ok v flag) bad_file ≡ passed y
      → require (ltb i (count (detail_shape v.desc) (text_of v x.detail))) bad_file ≡ passed z → StepFits v flag (step_is.Beyond w x i)
  step-beyond w x y z i e f l = ((next-passed v w).holds x e, flush-due v flag y f, ltb-true _ _ (required _ bad_file z l))

  pub covering-fits : (placed : Bool) (w : Path) → cond placed (path_to v at) (first_path v) ≡ passed w → PathFits v w
  covering-fits true w e = path-fits v _ _ at w e
  covering-fits false w e = path-fits v _ _ [] w e

  outside-passed : (placed : Bool) → Passed (StepFits v flag) (adv_outside v flag placed at)
  unfolding adv_outside adv_at adv_beyond
  outside-passed placed = search (chain, step-at, step-beyond, covering-fits) depth 14

  pub step-passed : (placed : Bool) → Passed (StepFits v flag) (adv_step v flag placed at)
  unfolding adv_step
  step-passed false = outside-passed false
  step-passed true = search (chain, step-here, outside-passed)

-- XTEND: the way to the last block, and the path to it
module _ (v : Texts) (flag : Bool) where
  last-here : (here : Bool) → on_buffer v (ends_in_ones v.desc v.buffer) ≡ passed here → here ≡ true → WayFits v flag Here
  last-here here e h = (tested-fits v (ends_in_ones v.desc v.buffer) here e h).0

  last-by : (w : Path) (x : Bool) → last_path v ≡ passed w → require (flush_ok v flag) bad_file ≡ passed x → WayFits v flag (By w)
  last-by w x e f = (path-fits v _ _ [] w e, flush-due v flag x f)

  pub last-passed : Passed (WayFits v flag) (last_way v flag)
  unfolding last_way last_outside
  last-passed = search (chain, last-here, last-by) depth 12

  last-path : (w : Path) → last_path v ≡ passed w → PathFits v w
  last-path w e = path-fits v _ _ [] w e

  last-of : Passed (PathFits v) (last_of v Here)
  unfolding last_of
  last-of = search (chain, last-path)

  pub last_of-fits : (way : Way) (w : Path) → WayFits v flag way → last_of v way ≡ passed w → PathFits v w
  unfolding last_of
  last_of-fits Here w h e = last-of.holds w e
  last_of-fits (By x) w h e = subst (PathFits v) (let z : x ≡ w = cc in z) h.0
