-- Every call leaves what words can tell: the parameters it was given, a current block that fits a word, and at most 16 transfers.
use Prim.Native.Nat.{ℕ, ◌≤◌}
use mathlib.Core.Path.{◌≡◌, refl}
use mathlib.Core.Bool.{Bool, true, false, cond}
use mathlib.Core.List.{List, [], ◌∷◌}
use native.Mathlib.Omega.{arith}
use lib.ListN.{length}
use Rattle.numbers.specs.Numbers as number_is
use Rattle.numbers.specs.Checked.{Checked, passed, refused, ◌>>◌}
use Rattle.numbers.proofs.Passed.{Passed, chain, required}
use Rattle.drum.specs.Blocks.{Write, Fitting}
use Rattle.drum.proofs.Good.{sized-facts}
use Rattle.rules.specs.State.{State, Outcome, Effect, desc, texts, position_key, holding, positioned, at_rest, outcome, unchanged, settle}
use Rattle.rules.specs.Checks.{sizes_ok, work_ok, is_open, key_ok}
use Rattle.rules.specs.Lookup.{flush_moves}
use Rattle.rules.specs.Open.{open_checks, open_layout, open_done, open_file}
use Rattle.rules.specs.Close.{close_checks, close_done, close}
use Rattle.rules.specs.Seek.{seek, updat}
use Rattle.rules.specs.Adv.{adv}
use Rattle.rules.specs.NsertDone.{nsert}
use Rattle.rules.specs.Dlete.{dlete}
use Rattle.rules.specs.XtendDone.{xtend}
use Rattle.capi.specs.Words.{most_word}
use Rattle.capi.proofs.Modest.{Modest, seek-modest, updat-modest, adv-modest}
use Rattle.capi.proofs.Changes.{nsert-modest, dlete-modest, xtend-modest}

pub record Telling (st : State) (o : Outcome) : Type 0 where
  pub same-parameters : o.after.session.desc ≡ desc st
  pub current-most : st.session.current ≤ most_word → o.after.session.current ≤ most_word
  pub few : length o.transfers ≤ 16

module _ (st : State) where
  nothing-told : (n : ℕ) → Telling st (unchanged st n)
  nothing-told n = record { same-parameters = refl; current-most = λ h. h; few = omega arith }

  effect-told : (e : Effect) → Modest (texts st) e → Telling st (outcome st.session e)
  unfolding outcome holding positioned
  effect-told e m = go e.keyed
    where
      go : (t : Bool) → Telling st (outcome st.session (record { number = e.number; transfers = e.transfers; current = e.current; flag = e.flag; keyed = t; file = e.file; buffer = e.buffer; work = e.work }))
      go true = record { same-parameters = refl; current-most = m.current-most; few = m.few }
      go false = record { same-parameters = refl; current-most = m.current-most; few = m.few }

  settled : (c : Checked Effect) → Passed (Modest (texts st)) c → Telling st (settle st c)
  unfolding settle
  settled (refused n) p = nothing-told n
  settled (passed e) p = effect-told e (p.holds e refl)

  fitting : (a : Bool) → sizes_ok st ≡ passed a → Fitting (desc st) st.file st.buffer
  unfolding sizes_ok
  fitting a e =
      let s = sized-facts (desc st) (length st.file) (length st.buffer) (required _ number_is.wrong_size a e) in
      record { good = s.good; file-is = s.file-is; buffer-is = s.buffer-is }

  -- the steps, behind the refusals
  module _ (c : Checked Effect) (steps : Fitting (desc st) st.file st.buffer → Passed (Modest (texts st)) c) where
    after : (a : Bool) → sizes_ok st ≡ passed a → Passed (Modest (texts st)) c
    after a e = steps (fitting a e)

    keyed : (reads : ℕ) → Telling st (settle st do
      sizes_ok st
      work_ok st
      is_open st
      key_ok reads st
      c)
    keyed reads = settled _ (search (chain, after) depth 9)

    unkeyed : Telling st (settle st do
      sizes_ok st
      work_ok st
      is_open st
      c)
    unkeyed = settled _ (search (chain, after) depth 9)

  pub seek-telling : Telling st (seek st)
  unfolding seek
  seek-telling = keyed _ (λ f. seek-modest (texts st) f st.session.flag st.work) (desc st).k

  pub updat-telling : Telling st (updat st)
  unfolding updat
  updat-telling = keyed _ (λ f. updat-modest (texts st) f st.session.flag st.work) (desc st).wpr

  pub nsert-telling : Telling st (nsert st)
  unfolding nsert
  nsert-telling = keyed _ (λ f. nsert-modest (texts st) f st.session.flag st.work) (desc st).wpr

  pub dlete-telling : Telling st (dlete st)
  unfolding dlete
  dlete-telling = keyed _ (λ f. dlete-modest (texts st) f st.session.flag st.work) (desc st).k

  pub xtend-telling : Telling st (xtend st)
  unfolding xtend
  xtend-telling = keyed _ (λ f. xtend-modest (texts st) f st.session.flag st.work) (desc st).wpr

  pub adv-telling : Telling st (adv st)
  unfolding adv
  adv-telling = unkeyed _ (λ f. adv-modest (texts st) f st.session.flag st.session.placed (position_key st.session))

  layout-telling : (c : Checked (List ℕ)) → Telling st (open_layout st c).outcome
  unfolding open_layout at_rest
  layout-telling (refused n) = nothing-told n
  layout-telling (passed ms) = record { same-parameters = refl; current-most = λ h. omega arith; few = omega arith }

  opening-telling : (marks : List ℕ) (c : Checked Bool) → Telling st (open_done st marks c).outcome
  unfolding open_done
  opening-telling marks (refused n) = nothing-told n
  opening-telling marks (passed x) = layout-telling _

  pub open-telling : (marks : List ℕ) → Telling st (open_file st marks).outcome
  unfolding open_file
  open-telling marks = opening-telling marks (open_checks st marks)

  pub close-telling : Telling st (close st)
  unfolding close close_done at_rest flush_moves
  close-telling = go (close_checks st)
    where
      one : (t : Bool) → length (cond t (Write (texts st).current (texts st).buffer ∷ []) []) ≤ 16
      one true = omega arith
      one false = omega arith

      go : (c : Checked Bool) → Telling st (close_done st c)
      go (refused n) = nothing-told n
      go (passed x) = record { same-parameters = refl; current-most = λ h. omega arith; few = one st.session.flag }
