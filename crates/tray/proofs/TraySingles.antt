-- The tray does what single NSERTs do, up to and including the one that stopped it; on a closed session the first of them is refused.
use Prim.Native.Nat.{ℕ, zero, suc, ◌+◌, ◌≤◌}
use mathlib.Core.Path.{◌≡◌, refl, sym, ap, ◌∙◌}
use mathlib.Core.Bool.{Bool, true, false, ◌&&◌}
use mathlib.Core.Logic.{◌⊎◌, inl, inr}
use mathlib.Core.List.{List, [], ◌∷◌, ◌++◌}
use native.Mathlib.Omega.{arith}
use borrow.Author.Tests.{eq-eqb}
use lib.ListN.{length, take}
use Rattle.numbers.specs.Numbers.{done, is_closed, accepted}
use Rattle.drum.specs.Params.{sized}
use Rattle.rules.specs.State.{State, Outcome, desc, unchanged}
use Rattle.rules.specs.Requests.{Request, inserting, lending, given, answer, left, tally}
use Rattle.demands.specs.Formula.{accepted_by}
use Rattle.demands.specs.When.{early, sizes_right, open_right}
use Rattle.demands.proofs.When.{when-refused}
use Rattle.tray.specs.Tray.{TrayOutcome, count_of, records_at, records_of, matches, none_made, inserts, nsert_tray}
use Rattle.tray.specs.Singles.{singles, joined, last_number, stored_by, AsSingles, TraySingles}
use Rattle.tray.specs.Runs.{tried}
use Rattle.tray.proofs.Rows.{matches-long}
use Rattle.tray.proofs.Refused.{Rows, rows_long, closed, made}
use Rattle.tray.proofs.Singles.{inserts-made}

-- there are as many records as the count says
records-many : (n w at : ℕ) (t : List ℕ) → length (records_at n w at t) ≡ n
unfolding records_at
records-many zero w at t = refl
records-many (suc n) w at t = ap suc (records-many n w (at + w) t)

-- what the outcome of a tray is to single NSERTs of its first m records
record Does (st : State) (t : List ℕ) (rs : List (List ℕ)) (o : TrayOutcome) (m : ℕ) : Type 0 where
  does-some : m ≤ length rs
  does-after : o.after ≡ lending st.work (left st (singles (take m rs)))
  does-transfers : o.transfers ≡ joined st (singles (take m rs))
  does-number : o.number ≡ last_number st (singles (take m rs)) done
  does-stored : o.stored ≡ stored_by st (singles (take m rs))
  does-end : ((o.stored ≡ m) × (m ≡ length rs)) ⊎ ((o.stored + 1 ≡ m) × (accepted o.number ≡ false))

module _ (st : State) (t : List ℕ) where
  abbrev rows : List (List ℕ)
  rows = records_of (desc st) t

  as-singles : (o : TrayOutcome) → nsert_tray st t ≡ o → (m : ℕ) → Does st t rows o m → AsSingles st t m
  unfolding lending
  as-singles o e m d =
      let many = records-many (count_of t) (desc st).wpr 1 t in
      let f = d.does-some in
      record {
        some = omega arith;
        session = ap (λ (x : TrayOutcome). x.after.session) e ∙ ap (λ (x : State). x.session) d.does-after;
        file = ap (λ (x : TrayOutcome). x.after.file) e ∙ ap (λ (x : State). x.file) d.does-after;
        buffer = ap (λ (x : TrayOutcome). x.after.buffer) e ∙ ap (λ (x : State). x.buffer) d.does-after;
        work = ap (λ (x : TrayOutcome). x.after.work) e ∙ ap (λ (x : State). x.work) d.does-after;
        transfers = ap (λ (x : TrayOutcome). x.transfers) e ∙ d.does-transfers;
        number = ap (λ (x : TrayOutcome). x.number) e ∙ d.does-number;
        stored = ap (λ (x : TrayOutcome). x.stored) e ∙ d.does-stored;
        ends = go d.does-end many;
      }
    where
      go : ((o.stored ≡ m) × (m ≡ length rows)) ⊎ ((o.stored + 1 ≡ m) × (accepted o.number ≡ false)) → length rows ≡ count_of t
          → (((nsert_tray st t).stored ≡ m) × (m ≡ count_of t)) ⊎ (((nsert_tray st t).stored + 1 ≡ m) × (accepted (nsert_tray st t).number ≡ false))
      go (inl (a, b)) many = inl (ap (λ (x : TrayOutcome). x.stored) e ∙ a, b ∙ many)
      go (inr (a, b)) many = inr (ap (λ (x : TrayOutcome). x.stored + 1) e ∙ a, ap (λ (x : TrayOutcome). accepted x.number) e ∙ b)

  -- on an open session: the records that are tried
  opened-does : Does st t rows (inserts st rows done) (length (tried st rows))
  opened-does =
      let m = inserts-made rows st done in
      let e = ap singles m.first in
      record {
        does-some = m.some;
        does-after = m.after ∙ ap (λ (qs : List Request). lending st.work (left st qs)) e;
        does-transfers = m.transfers ∙ ap (joined st) e;
        does-number = m.number ∙ ap (λ (qs : List Request). last_number st qs done) e;
        does-stored = m.stored ∙ ap (stored_by st) e;
        does-end = m.ends;
      }

  -- on a closed one: the first
  shut : (r : List ℕ) → sized (desc st) (length st.file) (length st.buffer) ≡ true → length r ≡ (desc st).wpr → st.session.opened ≡ false
      → answer st (inserting r) ≡ unchanged (lending r st) is_closed
  unfolding early sizes_right open_right given lending
  shut r s l c = (when-refused st (inserting r)).first is_closed (simp (s, eq-eqb _ _ l, c))

  closed-does : (r : List ℕ) (rs : List (List ℕ)) → answer st (inserting r) ≡ unchanged (lending r st) is_closed → Does st t (r ∷ rs) (none_made st is_closed) 1
  unfolding left joined last_number stored_by tally accepted_by lending
  closed-does r rs e = record {
    does-some = omega arith;
    does-after = sym (ap (λ (o : Outcome). lending st.work o.after) e);
    does-transfers = sym (ap (λ (o : Outcome). o.transfers ++ []) e);
    does-number = sym (ap (λ (o : Outcome). o.number) e);
    does-stored = sym (ap (λ (o : Outcome). accepted_by o + 0) e);
    does-end = inr (refl, refl);
  }

  closed_some : (rs : List (List ℕ)) → 1 ≤ length rs → Rows (desc st).wpr rs → sized (desc st) (length st.file) (length st.buffer) ≡ true
      → st.session.opened ≡ false → Does st t rs (none_made st is_closed) 1
  closed_some [] n l s c = absurd (omega arith)
  closed_some (r ∷ rs) n l s c = closed-does r rs (shut r s l.0 c)

pub tray-singles : TraySingles
tray-singles st t s h n = go st.session.opened refl
  where
    right : sized (desc st) (length st.file) (length st.buffer) && matches (desc st) t ≡ true
    right = λ j. s j && h j

    go : (c : Bool) → st.session.opened ≡ c → (m : ℕ) × AsSingles st t m
    go true c = (length (tried st (records_of (desc st) t)), as-singles st t _ (made st t right c) _ (opened-does st t))
    go false c = (
      1,
      as-singles st t _ (closed st t right c) 1
          (closed_some st t (records_of (desc st) t) (omega (arith, records-many (count_of t) (desc st).wpr 1 t))
          (rows_long (count_of t) (desc st).wpr 1 t (omega (arith, matches-long (desc st) t h))) s c),
    )
