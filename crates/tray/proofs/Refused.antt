-- What a tray refuses: 020007 and 020005 are given for their reasons alone, in this order, and leave all.
use Prim.Native.Nat.{ℕ, zero, suc, ◌+◌, ◌*◌, ◌≤◌}
use mathlib.Core.Path.{◌≡◌, refl, sym, ap, subst, ◌∙◌}
use mathlib.Core.Bool.{Bool, true, false, cond, ◌&&◌}
use mathlib.Core.List.{List, [], ◌∷◌}
use native.Mathlib.Omega.{arith}
use borrow.Author.Tests.{eq-eqb}
use lib.ListN.{length}
use Rattle.numbers.specs.Numbers.{done, wrong_size, is_closed, wrong_key, accepted}
use Rattle.numbers.specs.Checked.{Checked, passed, refused, ◌>>◌, require}
use Rattle.numbers.proofs.Passed.{both}
use Rattle.words.proofs.Keys.{clash}
use Rattle.words.proofs.Parts.{length_part}
use Rattle.drum.specs.declared.Description.{Description}
use Rattle.drum.specs.Params.{sized}
use Rattle.rules.specs.State.{State, Effect, Outcome, desc, holding, positioned, outcome, settle}
use Rattle.rules.specs.Checks.{sizes_ok, is_open}
use Rattle.rules.specs.NsertDone.{nsert}
use Rattle.rules.specs.Requests.{inserting, lending, given, answer}
use Rattle.demands.specs.When.{early, is_early, sizes_right, open_right, key_right}
use Rattle.demands.proofs.When.{when-refused}
use Rattle.demands.proofs.Lengths.{lengths-kept}
use Rattle.tray.specs.Tray.{TrayOutcome, count_of, records_at, records_of, matches, none_made, nsert_one, stopped_by, stored_before, inserts}
use Rattle.tray.specs.Tray.{tray_checks, after_checks, nsert_tray}
use Rattle.tray.specs.Singles.{TrayRefused}
use Rattle.tray.proofs.Rows.{words_left, matches-long}

-- the refusals by the tests that they make
abbrev checks_of : Bool → Bool → Bool → Checked Bool
checks_of a b c = require a wrong_size >> (require b wrong_size >> require c is_closed)

module _ (st : State) (t : List ℕ) where
  abbrev sizes : Bool
  sizes = sized (desc st) (length st.file) (length st.buffer)

  checks-by : (a b c : Bool) → sizes ≡ a → matches (desc st) t ≡ b → st.session.opened ≡ c → tray_checks st t ≡ checks_of a b c
  unfolding tray_checks sizes_ok is_open
  checks-by a b c x y z = λ j. checks_of (x j) (y j) (z j)

  tray-by : (a b c : Bool) → sizes ≡ a → matches (desc st) t ≡ b → st.session.opened ≡ c → nsert_tray st t ≡ after_checks st t (checks_of a b c)
  unfolding nsert_tray
  tray-by a b c x y z = ap (after_checks st t) (checks-by a b c x y z)

  pub wrong_size_lem : sizes && matches (desc st) t ≡ false → nsert_tray st t ≡ none_made st wrong_size
  unfolding after_checks
  wrong_size_lem = go sizes (matches (desc st) t) refl refl
    where
      go : (a b : Bool) → sizes ≡ a → matches (desc st) t ≡ b → a && b ≡ false → nsert_tray st t ≡ none_made st wrong_size
      go false b x y h = tray-by false b _ x y refl
      go true false x y h = tray-by true false _ x y refl
      go true true x y h = absurd (clash h)

  pub closed : sizes && matches (desc st) t ≡ true → st.session.opened ≡ false → nsert_tray st t ≡ none_made st is_closed
  unfolding after_checks
  closed h c = let (x, y) = both sizes _ h in tray-by true true false x y c

  pub made : sizes && matches (desc st) t ≡ true → st.session.opened ≡ true → nsert_tray st t ≡ inserts st (records_of (desc st) t) done
  unfolding after_checks
  made h c = let (x, y) = both sizes _ h in tray-by true true true x y c

  pub passes : sizes && matches (desc st) t ≡ true → st.session.opened ≡ true → tray_checks st t ≡ passed true
  passes h c = let (x, y) = both sizes _ h in checks-by true true true x y c

  empty : sizes && matches (desc st) t ≡ true → st.session.opened ≡ true → count_of t ≡ 0 → nsert_tray st t ≡ none_made st done
  unfolding inserts records_at
  empty h c e = made h c ∙ ap (λ (n : ℕ). inserts st (records_at n (desc st).wpr 1 t) done) e

-- ---- an NSERT of a tray never answers 020007 or 020005

-- records of w words
abbrev pub Rows : ℕ → List (List ℕ) → Type 0
Rows w [] = Unit {0}
Rows w (r ∷ rs) = (length r ≡ w) × Rows w rs

pub rows_long : (n w at : ℕ) (t : List ℕ) → at + n * w ≤ length t → Rows w (records_at n w at t)
unfolding records_at
rows_long zero w at t h = tt
rows_long (suc n) w at t h =
    let k = words_left (suc n) 0 w (omega arith) in
    (length_part at w t (omega arith), rows_long n w (at + w) t (omega arith))

-- an open session, file and buffer of the right sizes
pub record Ready (st : State) : Type 0 where
  pub sizes-right : sized (desc st) (length st.file) (length st.buffer) ≡ true
  pub is_open_lem : st.session.opened ≡ true

-- neither number
pub record Late (n : ℕ) : Type 0 where
  pub not-size : n ≡ wrong_size → ⊥
  pub not-closed : n ≡ is_closed → ⊥

late : (n : ℕ) → is_early n ≡ false → Late n
unfolding is_early
late n h = record { not-size = λ e. clash (ap is_early (sym e) ∙ h); not-closed = λ e. clash (ap is_early (sym e) ∙ h) }

wrong-key-late : (n : ℕ) → n ≡ wrong_key → Late n
wrong-key-late n h = record { not-size = λ e. omega arith; not-closed = λ e. omega arith }

module _ (st : State) (r : List ℕ) (ready : Ready st) (long : length r ≡ (desc st).wpr) where
  one-late : Late (nsert_one st r).number
  unfolding nsert_one early sizes_right open_right given lending answer
  one-late = go (key_right (inserting r) (given st (inserting r))) refl
    where
      go : (k : Bool) → key_right (inserting r) (given st (inserting r)) ≡ k → Late (answer st (inserting r)).number
      go true e = late _ ((when-refused st (inserting r)).none (simp (ready.sizes-right, eq-eqb _ _ long, ready.is_open_lem, e)))
      go false e =
          let w = (when-refused st (inserting r)).first wrong_key (simp (ready.sizes-right, eq-eqb _ _ long, ready.is_open_lem, e)) in
          wrong-key-late _ (ap (λ (o : Outcome). o.number) w)

-- NSERT keeps the parameters, and the session open
abbrev keyed : Effect → Bool → Effect
keyed e t = record {
  number = e.number;
  transfers = e.transfers;
  current = e.current;
  flag = e.flag;
  keyed = t;
  file = e.file;
  buffer = e.buffer;
  work = e.work;
}

kept : (st : State) (c : Checked Effect) → ((settle st c).after.session.desc ≡ desc st) × ((settle st c).after.session.opened ≡ st.session.opened)
unfolding settle outcome holding positioned
kept st (refused n) = (refl, refl)
kept st (passed e) = go e.keyed
  where
    go : (t : Bool)
        → ((outcome st.session (keyed e t)).after.session.desc ≡ desc st)
        × ((outcome st.session (keyed e t)).after.session.opened ≡ st.session.opened)
    go true = (refl, refl)
    go false = (refl, refl)

module _ (st : State) (r : List ℕ) where
  pub one-desc : desc (nsert_one st r).after ≡ desc st
  unfolding nsert_one nsert lending
  one-desc = (kept (lending r st) _).0

  pub one-ready : Ready st → Ready (nsert_one st r).after
  unfolding nsert_one nsert lending given answer
  one-ready h =
      let l = lengths-kept st (inserting r) in
      record {
        sizes-right = (λ j. sized (one-desc j) (l.file j) (l.buffer j)) ∙ h.sizes-right;
        is_open_lem = (kept (lending r st) _).1 ∙ h.is_open_lem;
      }

done-late : Late done
done-late = record { not-size = λ e. omega arith; not-closed = λ e. omega arith }

cond-late : (c : Bool) (x y : TrayOutcome) → Late x.number → Late y.number → Late (cond c x y).number
cond-late true x y a b = a
cond-late false x y a b = b

inserts-late : (rs : List (List ℕ)) (st : State) (n : ℕ) → Ready st → Rows (desc st).wpr rs → Late n → Late (inserts st rs n).number
unfolding inserts
inserts-late [] st n h long l = l
inserts-late (r ∷ rs) st n h long l =
    let o = nsert_one st r in
    let one = one-late st r h long.0 in
    let rest = inserts-late rs o.after o.number (one-ready st r h) (subst (λ (d : Description). Rows d.wpr rs) (sym (one-desc st r)) long.1) one in
    cond-late (accepted o.number) (stored_before o (inserts o.after rs o.number)) (stopped_by o) rest one

module _ (st : State) (t : List ℕ) where
  rows_of : matches (desc st) t ≡ true → Rows (desc st).wpr (records_of (desc st) t)
  rows_of h = rows_long (count_of t) (desc st).wpr 1 t (omega (arith, matches-long (desc st) t h))

  made-late : sized (desc st) (length st.file) (length st.buffer) && matches (desc st) t ≡ true → st.session.opened ≡ true
      → Late (nsert_tray st t).number
  made-late h c =
      let (x, y) = both (sized (desc st) (length st.file) (length st.buffer)) _ h in
      let l = inserts-late (records_of (desc st) t) st done (record { sizes-right = x; is_open_lem = c }) (rows_of y) (done-late) in
      subst (λ (o : TrayOutcome). Late o.number) (sym (made st t h c)) l

  only-size : (nsert_tray st t).number ≡ wrong_size → sized (desc st) (length st.file) (length st.buffer) && matches (desc st) t ≡ false
  only-size n = go (sized (desc st) (length st.file) (length st.buffer) && matches (desc st) t) st.session.opened refl refl
    where
      go : (a c : Bool) → sized (desc st) (length st.file) (length st.buffer) && matches (desc st) t ≡ a → st.session.opened ≡ c → a ≡ false
      go false c h k = refl
      go true false h k = absurd (let e : wrong_size ≡ is_closed = sym n ∙ ap (λ (o : TrayOutcome). o.number) (closed st t h k) in omega arith)
      go true true h k = absurd ((made-late h k).not-size n)

  only-closed : (nsert_tray st t).number ≡ is_closed → st.session.opened ≡ false
  only-closed n = go (sized (desc st) (length st.file) (length st.buffer) && matches (desc st) t) st.session.opened refl refl
    where
      go : (a c : Bool) → sized (desc st) (length st.file) (length st.buffer) && matches (desc st) t ≡ a → st.session.opened ≡ c → c ≡ false
      go a false h k = refl
      go false true h k = absurd (let e : is_closed ≡ wrong_size = sym n ∙ ap (λ (o : TrayOutcome). o.number) (wrong_size_lem st t h) in omega arith)
      go true true h k = absurd ((made-late h k).not-closed n)

  pub tray-refused : TrayRefused st t
  tray-refused = record { wrong_size_lem = wrong_size_lem st t; only-size = only-size; closed = closed st t; only-closed = only-closed; empty = empty st t }
