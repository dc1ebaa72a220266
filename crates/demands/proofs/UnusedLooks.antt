-- While no block is buffered, no lookup looks at the buffer's words: SEEK, UPDAT and ADV come to the same over two buffers.
use Prim.Native.Nat.{ℕ, ◌+◌, ◌≤◌}
use mathlib.Core.Path.{◌≡◌, refl, ap}
use mathlib.Core.Bool.{Bool, true, false, cond}
use mathlib.Core.List.{List, []}
use native.Mathlib.Omega.{arith}
use lib.Dec.{ltb}
use borrow.Author.Tests.{ne_eqb}
use Rattle.numbers.specs.Checked.{Checked, passed, ◌>>=◌}
use Rattle.numbers.proofs.Passed.{Passed, chain}
use Rattle.table.specs.Tables.{count}
use Rattle.drum.specs.declared.Description.{Description}
use Rattle.drum.specs.Params.{D, I, master_shape, index_shape, detail_shape}
use Rattle.drum.specs.Blocks.{Texts, text_of, seen}
use Rattle.rules.specs.declared.Which.{Which}
use Rattle.rules.specs.declared.Entry.{Entry}
use Rattle.rules.specs.declared.Path.{Path}
use Rattle.rules.specs.declared.Way.{Way}
use Rattle.rules.specs.declared.Way.TheVariants.{Here, By}
use Rattle.rules.specs.declared.Look.{Look}
use Rattle.rules.specs.declared.Look.TheVariants as look_is
use Rattle.rules.specs.State.{Effect, key_in}
use Rattle.rules.specs.Paths.{entry_of, path_at, path_under, path_by, path_to, first_path}
use Rattle.rules.specs.Lookup.{on_buffer, in_buffer, flush_moves, bringing, reached, look_outside, look, text_at}
use Rattle.rules.specs.Seek.{giving, seek_done, seek_steps, updat_done, updat_steps}
use Rattle.rules.specs.declared.Step.{Step}
use Rattle.rules.specs.declared.Step.TheVariants as step_is
use Rattle.rules.specs.Adv.{next_row, next_in_buffer, next_path, adv_beyond, adv_at, adv_outside, adv_step, adv_giving, adv_done, adv_steps}
use Rattle.rules.specs.Fits.{PathFits, WayFits, LookFits, StepFits}
use Rattle.rules.proofs.Fits.{entry-fits, path-fits, looked-fits, step-passed, next-passed, covering-fits}
use Rattle.demands.proofs.SameChecks.{SameChecks, same_refl, same-bind, same_test}

module _ (p : Description) (f a b : List ℕ) where
  -- two buffers
  abbrev v : Texts
  v = seen p 0 f a

  abbrev u : Texts
  u = seen p 0 f b

  -- a block that is used has the file's text
  pub text_same : (c : ℕ) → 1 ≤ c → text_of v c ≡ text_of u c
  unfolding text_of
  text_same c l = rw (ne_eqb c 0 (λ e. omega arith))

  pub unused-index : (w : Path) → PathFits v w → text_of v w.index ≡ text_of u w.index
  unused-index w h = text_same w.index h.index-least

  pub unused-detail : (w : Path) → PathFits v w → text_of v w.detail ≡ text_of u w.detail
  unused-detail w h = text_same w.detail h.detail-least

  -- ways
  at_same : (m e : Entry) → 1 ≤ e.block → SameChecks (path_at v m e) (path_at u m e)
  unfolding path_at
  at_same m e l = rw (text_same e.block l) (same_refl _)

  entry-same : (which : Which) (key : List ℕ) (m : Entry) → 1 ≤ m.block
      → SameChecks (entry_of p (index_shape p) (I p) which key (text_of v m.block)) (entry_of p (index_shape p) (I p) which key (text_of u m.block))
  entry-same which key m l = rw (text_same m.block l) (same_refl _)

  under_same : (which : Which) (key : List ℕ) (m : Entry) → 1 ≤ m.block → SameChecks (path_under v which key m) (path_under u which key m)
  unfolding path_under
  under_same which key m l =
      same-bind _ _ _ _ (entry-same which key m l)
      (λ e h. at_same m e (entry-fits p (index_shape p) (I p) which key (text_of v m.block) e h).block-least)

  pub path-same : (top which : Which) (key : List ℕ) → SameChecks (path_by v top which key) (path_by u top which key)
  unfolding path_by
  path-same top which key =
      same-bind _ _ _ _ (same_refl _)
      (λ m h. under_same which key m (entry-fits p (master_shape p) p.control top key f m h).block-least)

  -- a lookup, which finds nothing in the buffer
  pub look-same : (key : List ℕ) → SameChecks (look v false key) (look u false key)
  unfolding look in_buffer on_buffer look_outside
  look-same key =
      same-bind _ _ _ _ (path-same _ _ key)
      (λ w h. rw (unused-detail w (path-fits v _ _ key w h)) (same_refl _))

  pub reached-same : (way : Way) → WayFits v false way → reached v false way ≡ reached u false way
  unfolding reached bringing flush_moves
  reached-same Here h = absurd (omega (arith, h.current-least))
  reached-same (By w) h = rw (unused-detail w h.0)

  pub way_same : (way : Way) → WayFits v false way → text_at v way ≡ text_at u way
  way_same Here h = absurd (omega (arith, h.current-least))
  way_same (By w) h = unused-detail w h.0

  -- SEEK and UPDAT
  module _ (work : List ℕ) where
    seek-done : (l : Look) → LookFits v false l → SameChecks (seek_done v false work l) (seek_done u false work l)
    unfolding seek_done giving
    seek-done (look_is.Found way i) h = rw (reached-same way h.0) (same_refl _)
    seek-done (look_is.Missing w) h = rw (reached-same (By w) h) (same_refl _)

    pub seek-same : SameChecks (seek_steps v false work) (seek_steps u false work)
    unfolding seek_steps
    seek-same = same-bind _ _ _ _ (look-same (key_in p work)) (λ l e. seek-done l (looked-fits v false (key_in p work) l e))

    updat-done : (l : Look) → LookFits v false l → SameChecks (updat_done v false work l) (updat_done u false work l)
    unfolding updat_done
    updat-done (look_is.Found way i) h = rw (reached-same way h.0) (same_refl _)
    updat-done (look_is.Missing w) h = rw (reached-same (By w) h) (same_refl _)

    pub updat-same : SameChecks (updat_steps v false work) (updat_steps u false work)
    unfolding updat_steps
    updat-same = same-bind _ _ _ _ (look-same (key_in p work)) (λ l e. updat-done l (looked-fits v false (key_in p work) l e))

  -- ADV
  next-same : (w : Path) → PathFits v w → SameChecks (next_path v w) (next_path u w)
  unfolding next_path
  next-same w h =
      same_test _ _ _ _ _ _ (ap (λ (t : List ℕ). ltb (w.entry + 1) (count (index_shape p) t)) (unused-index w h)) (λ e. path-same _ _ []) (λ e. path-same _ _ [])

  beyond-same : (placed : Bool) (at : List ℕ) (w : Path) → PathFits v w
      → SameChecks (adv_beyond v placed at w) (adv_beyond u placed at w)
  unfolding adv_beyond
  beyond-same placed at w h = same-bind _ _ _ _ (next-same w h) (λ x e. rw (unused-detail x (next_fits x e)) (same_refl _))
    where
      next_fits : (x : Path) → next_path v w ≡ passed x → PathFits v x
      next_fits x e = (next-passed v w).holds x e

  adv-at-same : (placed : Bool) (at : List ℕ) (w : Path) → PathFits v w
      → SameChecks (adv_at v false placed at w) (adv_at u false placed at w)
  unfolding adv_at
  adv-at-same placed at w h =
      let t = text_of u w.detail in
      let here = ltb (next_row u placed at t) (count (detail_shape p) t) in
      rw (unused-detail w h) (same_test here here _ _ _ _ refl (λ e. same_refl _) (λ e. beyond-same placed at w h))

  first-same : (placed : Bool) (at : List ℕ)
      → SameChecks (cond placed (path_to v at) (first_path v)) (cond placed (path_to u at) (first_path u))
  first-same true at = path-same _ _ at
  first-same false at = path-same _ _ []

  outside-same : (placed : Bool) (at : List ℕ) → SameChecks (adv_outside v false placed at) (adv_outside u false placed at)
  unfolding adv_outside
  outside-same placed at =
      same-bind _ _ _ _ (first-same placed at) (λ w e. adv-at-same placed at w (covering-fits v false at placed w e))

  step_same : (placed : Bool) (at : List ℕ) → SameChecks (adv_step v false placed at) (adv_step u false placed at)
  unfolding adv_step next_in_buffer on_buffer
  step_same true at = outside-same true at
  step_same false at = outside-same false at

  adv-done : (s : Step) → StepFits v false s → SameChecks (adv_done v false s) (adv_done u false s)
  unfolding adv_done adv_giving giving bringing flush_moves
  adv-done (step_is.At way i) h = rw (reached-same way h.0) (same_refl _)
  adv-done (step_is.Beyond w x i) h = rw (unused-detail x h.0) (same_refl _)

  pub adv-same : (placed : Bool) (at : List ℕ) → SameChecks (adv_steps v false placed at) (adv_steps u false placed at)
  unfolding adv_steps
  adv-same placed at =
      same-bind _ _ _ _ (step_same placed at) (λ s e. adv-done s ((step-passed v false at placed).holds s e))

  -- a call that plans by its lookup: the plans are the same, and so is what each comes to
  pub by-plan : {A : Type 0} (D : A → Type 0) (key : List ℕ) (pv pu : Look → Checked A) (dv du : A → Checked Effect)
      → ((l : Look) → LookFits v false l → Passed D (pv l) × SameChecks (pv l) (pu l)) → ((e : A) → D e → SameChecks (dv e) (du e))
      → SameChecks ((look v false key >>= pv) >>= dv) ((look u false key >>= pu) >>= du)
  by-plan {A} D key pv pu dv du h k = same-bind _ _ _ _ plans (λ e q. k e (all.holds e q))
    where
      plans : SameChecks (look v false key >>= pv) (look u false key >>= pu)
      plans = same-bind _ _ _ _ (look-same key) (λ l e. (h l (looked-fits v false key l e)).1)

      after : (l : Look) → look v false key ≡ passed l → Passed D (pv l)
      after l e = (h l (looked-fits v false key l e)).0

      all : Passed D (look v false key >>= pv)
      all = search (chain, after)
