-- The NSERTs of a tray are single NSERTs: of the records that are tried, which are the first of the tray.
use Prim.Native.Nat.{ℕ, suc, ◌+◌, ◌≤◌}
use mathlib.Core.Path.{◌≡◌, refl, sym, ap, ◌∙◌}
use mathlib.Core.Bool.{Bool, true, false, cond}
use mathlib.Core.Logic.{◌⊎◌, inl, inr}
use mathlib.Core.List.{List, [], ◌∷◌, ◌++◌, append-nil}
use native.Mathlib.Omega.{arith}
use lib.ListN.{length, take}
use Rattle.numbers.specs.Numbers.{accepted}
use Rattle.drum.specs.Blocks.{Transfer}
use Rattle.rules.specs.State.{State, Outcome}
use Rattle.rules.specs.Requests.{Request, inserting, lending, answer, left, tally}
use Rattle.demands.specs.Formula.{accepted_by}
use Rattle.tray.specs.Tray.{TrayOutcome, none_made, nsert_one, stopped_by, stored_before, inserts}
use Rattle.tray.specs.Singles.{singles, joined, last_number, stored_by}
use Rattle.tray.specs.Runs.{tried}
use Rattle.tray.proofs.Blind.{left-blind, joined-blind, number-blind, tally-blind}

-- the outcome o of NSERTs of rs, the last number before them n, is what single NSERTs of the records ts come to; these are the first of rs, all of
-- them stored, or all but the last
pub record Made (st : State) (rs : List (List ℕ)) (n : ℕ) (o : TrayOutcome) (ts : List (List ℕ)) : Type 0 where
  pub after : o.after ≡ lending st.work (left st (singles ts))
  pub transfers : o.transfers ≡ joined st (singles ts)
  pub number : o.number ≡ last_number st (singles ts) n
  pub stored : o.stored ≡ stored_by st (singles ts)
  pub first : ts ≡ take (length ts) rs
  pub some : length ts ≤ length rs
  pub ends : ((o.stored ≡ length ts) × (length ts ≡ length rs)) ⊎ ((o.stored + 1 ≡ length ts) × (accepted o.number ≡ false))

stored-blind : (w : List ℕ) (qs : List Request) (st : State) → stored_by (lending w st) qs ≡ stored_by st qs
unfolding stored_by accepted_by
stored-blind w qs st = tally-blind (λ before q o. accepted_by o) (λ v u before q o. refl) w qs st

none_made_lem : (st : State) (n : ℕ) → Made st [] n (none_made st n) []
unfolding left joined last_number stored_by tally lending
none_made_lem st n = record {
  after = refl;
  transfers = refl;
  number = refl;
  stored = refl;
  first = refl;
  some = omega arith;
  ends = inl (refl, refl);
}

-- one NSERT more
module _ (st : State) (r : List ℕ) (rs : List (List ℕ)) (n : ℕ) where
  abbrev one : Outcome
  one = nsert_one st r

  stops : accepted one.number ≡ false → Made st (r ∷ rs) n (stopped_by one) (r ∷ [])
  unfolding left joined last_number stored_by tally accepted_by nsert_one answer lending
  stops h = record {
    after = refl;
    transfers = sym (append-nil one.transfers);
    number = refl;
    stored = sym (ap (λ (c : Bool). cond c 1 0 + 0) h);
    first = refl;
    some = omega arith;
    ends = inr (refl, h);
  }

  goes : accepted one.number ≡ true → (x : TrayOutcome) (ts : List (List ℕ)) → Made one.after rs one.number x ts
      → Made st (r ∷ rs) n (stored_before one x) (r ∷ ts)
  unfolding left joined last_number stored_by tally accepted_by nsert_one answer lending
  goes h x ts m =
      let now = (answer st (inserting r)).after in
      let l = m.some in
      let k : x.stored + 1 ≡ 1 + stored_by now (singles ts) = omega (arith, m.stored ∙ stored-blind st.work (singles ts) now) in
      record {
        after = m.after ∙ left-blind st.work st.work (singles ts) now;
        transfers = ap (λ (z : List Transfer). one.transfers ++ z) (m.transfers ∙ joined-blind st.work (singles ts) now);
        number = m.number ∙ number-blind st.work one.number (singles ts) now;
        stored = k ∙ sym (ap (λ (c : Bool). cond c 1 0 + stored_by now (singles ts)) h);
        first = ap (λ (z : List (List ℕ)). r ∷ z) m.first;
        some = omega arith;
        ends = go m.ends;
      }
    where
      go : ((x.stored ≡ length ts) × (length ts ≡ length rs)) ⊎ ((x.stored + 1 ≡ length ts) × (accepted x.number ≡ false))
          → ((x.stored + 1 ≡ suc (length ts)) × (suc (length ts) ≡ suc (length rs)))
          ⊎ ((x.stored + 1 + 1 ≡ suc (length ts)) × (accepted x.number ≡ false))
      go (inl (a, b)) = inl (omega arith, omega arith)
      go (inr (a, b)) = inr (omega arith, b)

  pub made_more : Made one.after rs one.number (inserts one.after rs one.number) (tried one.after rs)
      → Made st (r ∷ rs) n (inserts st (r ∷ rs) n) (tried st (r ∷ rs))
  unfolding inserts tried
  made_more m = go (accepted one.number) refl
    where
      go : (c : Bool) → accepted one.number ≡ c
          → Made st (r ∷ rs) n (cond c (stored_before one (inserts one.after rs one.number)) (stopped_by one)) (r ∷ cond c (tried one.after rs) [])
      go true h = goes h (inserts one.after rs one.number) (tried one.after rs) m
      go false h = stops h

pub inserts-made : (rs : List (List ℕ)) (st : State) (n : ℕ) → Made st rs n (inserts st rs n) (tried st rs)
unfolding inserts tried
inserts-made [] st n = none_made_lem st n
inserts-made (r ∷ rs) st n = made_more st r rs n (inserts-made rs (nsert_one st r).after (nsert_one st r).number)
