-- What is carried: the number of each NSERT, and the first copy of a key.
use mathlib.Core.Path.{◌≡◌, refl, sym, ap, ◌∙◌, subst}
use mathlib.Core.Bool.{Bool, true, false, cond}
use mathlib.Core.Logic.{◌⊎◌, inl, inr}
use mathlib.Core.List.{List, [], ◌∷◌, map}
use Prim.Native.Nat.{ℕ, ◌-◌}
use native.Mathlib.Omega.{arith}
use lib.ListN.{length, length-replicate}
use Rattle.numbers.specs.Numbers.{done, not_found, none_free, no_room}
use Rattle.words.specs.Words.{part, all_words, zeros}
use Rattle.words.specs.Keys.{is_ones, ones, same_key}
use Rattle.words.proofs.All.{is_ones-ones}
use Rattle.words.proofs.Keys.{clash, same_key-true}
use Rattle.words.proofs.Parts.{part-all, part-append-low}
use Rattle.drum.specs.declared.Description.{Description}
use Rattle.drum.specs.Params.{good_params}
use Rattle.layout.specs.Create.{end_record}
use Rattle.layout.specs.Holds.{All}
use Rattle.rules.specs.State.{State, Outcome, desc, key_in}
use Rattle.rules.specs.Requests.{inserting, answer, left}
use Rattle.demands.specs.History.{stored, with_key}
use Rattle.demands.specs.Contents.{changed, Contains}
use Rattle.demands.specs.Answers.{Keyed, Inserted, Answered}
use Rattle.demands.proofs.Answered.{call-answers}
use Rattle.salvage.specs.Salvage.{begun}
use Rattle.salvaged.specs.Spots.{Spot, rows_of, inserts, started, tried_after, carried_of}
use Rattle.salvaged.specs.Carried.{SecondCopy, OnlyNumbers}
use Rattle.salvaged.proofs.Stored.{Under, none, one, with-changed}
use Rattle.salvaged.proofs.Rows.{Fit, all-at, all_fit}
use Rattle.salvaged.proofs.Runs.{left-stays, from-open, contains}

pub end-key : (p : Description) → key_in p (end_record p) ≡ ones p.k
unfolding end_record
end-key p =
    let k : length (ones p.k) ≡ p.k = length-replicate {A = ℕ} p.k 262143 in
    part-append-low 0 p.k (ones p.k) (zeros (p.wpr - p.k)) (omega arith) ∙ part-all p.k (ones p.k) k

pub end-ones : (p : Description) → is_ones (key_in p (end_record p)) ≡ true
end-ones p = ap is_ones (end-key p) ∙ is_ones-ones p.k

-- an ordinary key is not the end record's
end-other : (p : Description) (key : List ℕ) → is_ones key ≡ false → with_key p key (end_record p ∷ []) ≡ []
unfolding with_key
end-other p key h = go (same_key (key_in p (end_record p)) key) refl
  where
    go : (c : Bool) → same_key (key_in p (end_record p)) key ≡ c → cond c (end_record p ∷ []) [] ≡ []
    go true e = absurd (clash (sym (ap is_ones (sym (same_key-true _ _ e)) ∙ end-ones p) ∙ h))
    go false e = refl

by-under : (some now : List (List ℕ)) → Under [] some now → (o : Outcome) → Inserted now o → Inserted some o
by-under some now (none e n) o h = subst (λ (z : List (List ℕ)). Inserted z o) (sym e) (subst (λ (z : List (List ℕ)). Inserted z o) n h)
by-under some now (one r rs x e n) o h = subst (λ (z : List (List ℕ)). Inserted z o) (sym e) (subst (λ (z : List (List ℕ)). Inserted z o) n h)

module _ (p : Description) (buffer : List ℕ) (good : good_params p ≡ true) (long : length buffer ≡ p.wpb) where
  abbrev st : State
  st = started p buffer

  pub described : (xs : List Spot) → desc (left st (inserts xs)) ≡ p
  unfolding started begun
  described xs = (left-stays xs st).described

  -- NSERT of a record that is taken is no refusal
  pub keyed : (xs : List Spot) (s : Spot) → Fit p s → Keyed (left st (inserts xs)) (desc (left st (inserts xs))).wpr s.row
  unfolding started begun
  keyed xs s f =
      subst (λ (q : Description). ((((left st (inserts xs)).session.opened ≡ true) × (length s.row ≡ q.wpr)) × (all_words (part 0 q.wpr s.row) ≡ true)
      × (is_ones (key_in q s.row) ≡ false))) (sym (described xs))
      (((left-stays xs st).opened, f.0.0), ap all_words (part-all p.wpr s.row f.0.0) ∙ f.0.1, f.1)

  -- its number, by those carried before it
  pub inserted-after : (xs : List Spot) (s : Spot) → Fit p s → Inserted (with_key p (key_in p s.row) (rows_of (carried_of st xs))) (tried_after st xs s)
  unfolding tried_after
  inserted-after xs s f =
      let rows = changed p (map stored (rows_of (carried_of st xs))) (end_record p ∷ []) in
      let c = contains p buffer good long xs in
      let a = from-open p buffer good long (λ (u : State). (rs : List (List ℕ)) → Contains u rs → Answered u rs) call-answers (inserts xs) rows c in
      let told : Inserted (with_key p (key_in p s.row) rows) (answer (left st (inserts xs)) (inserting s.row))
      = subst (λ (q : Description). Inserted (with_key q (key_in q s.row) rows) (answer (left st (inserts xs)) (inserting s.row))) (described xs)
      (a.nsert s.row (keyed xs s f)) in
      by-under (with_key p (key_in p s.row) (rows_of (carried_of st xs))) (with_key p (key_in p s.row) rows)
      (subst (λ (was : List (List ℕ)). Under was (with_key p (key_in p s.row) (rows_of (carried_of st xs))) (with_key p (key_in p s.row) rows))
      (end-other p (key_in p s.row) f.1) (with-changed p (key_in p s.row) (rows_of (carried_of st xs)) (end_record p ∷ [])))
      (answer (left st (inserts xs)) (inserting s.row)) told

pub second-copy : SecondCopy
second-copy p copy buffer l xs ys s e =
    inserted-after p buffer l.good l.buffer-is xs s (all-at (Fit p) xs s ys (subst (All (Fit p)) e (all_fit p copy buffer l))).0

pub only-numbers : OnlyNumbers
only-numbers p copy buffer l xs ys s e =
    go (with_key p (key_in p s.row) (rows_of (carried_of (started p buffer) xs))) (tried_after (started p buffer) xs s) (second-copy p copy buffer l xs ys s e)
  where
    go : (was : List (List ℕ)) (o : Outcome) → Inserted was o
        → (o.number ≡ not_found) ⊎ ((o.number ≡ done) ⊎ ((o.number ≡ none_free) ⊎ (o.number ≡ no_room)))
    go [] o h = inr h
    go (r ∷ rs) o h = inl h
