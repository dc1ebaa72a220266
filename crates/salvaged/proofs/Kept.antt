-- The first copy of a key is kept: once its place has been tried, no other with that key is carried.
use mathlib.Core.Path.{◌≡◌, refl, sym, ap, ◌∙◌, subst}
use mathlib.Core.Bool.{Bool, true, false, cond}
use mathlib.Core.Logic.{inl, inr}
use mathlib.Core.List.{List, [], ◌∷◌, ◌++◌, map}
use Prim.Native.Nat.{ℕ}
use native.Mathlib.Omega.{arith}
use lib.ListN.{length}
use Rattle.numbers.specs.Numbers.{not_found, no_room, none_free, accepted}
use Rattle.words.specs.Keys.{same_key}
use Rattle.words.proofs.Keys.{clash, same_key-true, same_key-refl}
use Rattle.drum.specs.declared.Description.{Description}
use Rattle.drum.specs.Params.{good_params}
use Rattle.layout.specs.Holds.{All}
use Rattle.rules.specs.State.{State, Outcome, desc, key_in}
use Rattle.rules.specs.Requests.{inserting, answer, left}
use Rattle.demands.specs.History.{with_key}
use Rattle.demands.specs.Answers.{Keyed, Inserted}
use Rattle.demands.proofs.Stuck.{stuck-key}
use Rattle.salvaged.specs.Spots.{Spot, rows_of, inserts, started, tried_after, carried_of}
use Rattle.salvaged.specs.Carried.{FirstKept}
use Rattle.salvaged.proofs.Stored.{with_append}
use Rattle.salvaged.proofs.Rows.{Fit, all-at, all_rest, all_fit, rows_append}
use Rattle.salvaged.proofs.Runs.{left-more, carried-more, from-open}
use Rattle.salvaged.proofs.Carried.{described, keyed, inserted-after}

some-none : (x : List ℕ) (xs : List (List ℕ)) → x ∷ xs ≡ [] → ⊥
some-none x xs e = let n : length (x ∷ xs) ≡ 0 = ap length e in omega arith

either-none : (c : Bool) → cond {A = List (List ℕ)} c [] [] ≡ []
either-none true = refl
either-none false = refl

-- ---- those with a key

module _ (p : Description) (key : List ℕ) where
  abbrev mine : Spot → List (List ℕ)
  mine x = cond (same_key (key_in p x.row) key) (x.row ∷ []) []

  head-none : (x : Spot) (xs : List Spot) → with_key p key (rows_of (x ∷ xs)) ≡ [] → (same_key (key_in p x.row) key ≡ false) × (with_key p key (rows_of xs) ≡ [])
  unfolding with_key
  head-none x xs h = go (same_key (key_in p x.row) key) refl h
    where
      go : (t : Bool) → same_key (key_in p x.row) key ≡ t → cond t (x.row ∷ with_key p key (rows_of xs)) (with_key p key (rows_of xs)) ≡ []
          → (t ≡ false) × (with_key p key (rows_of xs) ≡ [])
      go true e q = absurd (some-none x.row (with_key p key (rows_of xs)) q)
      go false e q = (refl, q)

  -- of those carried from st on, the first
  carried-with : (st : State) (x : Spot) (xs : List Spot)
      → let o = answer st (inserting x.row) in
      with_key p key (rows_of (carried_of st (x ∷ xs))) ≡ cond (accepted o.number) (mine x) [] ++ with_key p key (rows_of (carried_of o.after xs))
  unfolding with_key carried_of
  carried-with st x xs =
      let o = answer st (inserting x.row) in
      go (accepted o.number) (carried_of o.after xs)
    where
      first : (t : Bool) (l : List (List ℕ)) → cond t (x.row ∷ l) l ≡ cond t (x.row ∷ []) [] ++ l
      first true l = refl
      first false l = refl

      go : (c : Bool) (l : List Spot) → with_key p key (rows_of (cond c (x ∷ l) l)) ≡ cond c (mine x) [] ++ with_key p key (rows_of l)
      go true l = first (same_key (key_in p x.row) key) (with_key p key (rows_of l))
      go false l = refl

  -- where no place has the key, none that is carried has it
  pub none-carried : (xs : List Spot) (st : State) → with_key p key (rows_of xs) ≡ [] → with_key p key (rows_of (carried_of st xs)) ≡ []
  unfolding carried_of
  none-carried [] st h = h
  none-carried (x ∷ xs) st h =
      let o = answer st (inserting x.row) in
      let q = head-none x xs h in
      carried-with st x xs
      ∙ (λ j. cond (accepted o.number) (cond (q.0 j) (x.row ∷ []) []) [] ++ none-carried xs o.after q.1 j)
      ∙ ap (λ (l : List (List ℕ)). l ++ []) (either-none (accepted o.number))

  -- no record with the key is stored any more, whatever is put in before it
  abbrev Never : State → Type 0
  Never st = (us : List Spot) (v : Spot) → Fit p v → key_in p v.row ≡ key → accepted (tried_after st us v).number ≡ false

  never-carried : (xs : List Spot) (st : State) → All (Fit p) xs → Never st → with_key p key (rows_of (carried_of st xs)) ≡ []
  unfolding carried_of with_key tried_after left
  never-carried [] st a n = refl
  never-carried (x ∷ xs) st a n =
      let o = answer st (inserting x.row) in
      let f = all_rest (Fit p) x xs a in
      carried-with st x xs
      ∙ (λ j. go (same_key (key_in p x.row) key) refl j ++ never-carried xs o.after f.1 (λ us v. n (x ∷ us) v) j)
    where
      go : (t : Bool) → same_key (key_in p x.row) key ≡ t → cond (accepted (answer st (inserting x.row)).number) (cond t (x.row ∷ []) []) [] ≡ []
      go true e =
          ap (λ (c : Bool). cond c (x.row ∷ []) []) (n [] x (all_rest (Fit p) x xs a).0 (same_key-true (key_in p x.row) key e))
      go false e = either-none (accepted (answer st (inserting x.row)).number)

-- ---- from a fresh file

module _ (p : Description) (buffer : List ℕ) (good : good_params p ≡ true) (long : length buffer ≡ p.wpb) (xs : List Spot) (s : Spot) (f : Fit p s)
    (first : with_key p (key_in p s.row) (rows_of xs) ≡ []) where
  abbrev st : State
  st = started p buffer

  abbrev here : State
  here = left st (inserts xs)

  abbrev key : List ℕ
  key = key_in p s.row

  -- those carried of a run in which it stands
  with_it : (us : List Spot) → with_key p key (rows_of (carried_of st (xs ++ s ∷ us)))
      ≡ cond (accepted (tried_after st xs s).number) (s.row ∷ []) [] ++ with_key p key (rows_of (carried_of (answer here (inserting s.row)).after us))
  unfolding tried_after
  with_it us =
      ap (λ (l : List Spot). with_key p key (rows_of l)) (carried-more xs (s ∷ us) st)
      ∙ ap (with_key p key) (rows_append (carried_of st xs) (carried_of here (s ∷ us)))
      ∙ with_append p key (rows_of (carried_of st xs)) (rows_of (carried_of here (s ∷ us)))
      ∙ (λ j. none-carried p key xs st first j ++ carried-with p key here s us j)
      ∙ ap (λ (c : Bool). cond (accepted (answer here (inserting s.row)).number) (cond c (s.row ∷ []) []) [] ++ with_key p key (rows_of (carried_of (answer here (inserting s.row)).after us)))
      (same_key-refl key)

  -- the number of a record tried further on
  further : (us : List Spot) (v : Spot) → tried_after (answer here (inserting s.row)).after us v ≡ tried_after st (xs ++ s ∷ us) v
  unfolding tried_after left
  further us v = ap (λ (u : State). answer u (inserting v.row)) (sym (left-more xs (s ∷ us) st))

  never : Never p key (answer here (inserting s.row)).after
  unfolding tried_after left
  never us v g same = by (accepted (answer here (inserting s.row)).number) refl
    where
      told : Inserted (with_key p (key_in p v.row) (rows_of (carried_of st (xs ++ s ∷ us)))) (tried_after st (xs ++ s ∷ us) v)
      told = inserted-after p buffer good long (xs ++ s ∷ us) v g

      mine-told : Inserted (with_key p key (rows_of (carried_of st xs))) (tried_after st xs s)
      mine-told = inserted-after p buffer good long xs s f

      by : (c : Bool) → accepted (answer here (inserting s.row)).number ≡ c → accepted (tried_after (answer here (inserting s.row)).after us v).number ≡ false
      by true h =
          let some : with_key p (key_in p v.row) (rows_of (carried_of st (xs ++ s ∷ us)))
          ≡ s.row ∷ with_key p key (rows_of (carried_of (answer here (inserting s.row)).after us))
          = ap (λ (k : List ℕ). with_key p k (rows_of (carried_of st (xs ++ s ∷ us)))) same ∙ with_it us
          ∙ ap (λ (c : Bool). cond c (s.row ∷ []) [] ++ with_key p key (rows_of (carried_of (answer here (inserting s.row)).after us))) h in
          let n : (tried_after st (xs ++ s ∷ us) v).number ≡ not_found = subst (λ (l : List (List ℕ)). Inserted l (tried_after st (xs ++ s ∷ us) v)) some told in
          ap accepted (ap (λ (o : Outcome). o.number) (further us v) ∙ n)
      by false h = stuck (subst (λ (l : List (List ℕ)). Inserted l (tried_after st xs s)) (none-carried p key xs st first) mine-told)
        where
          refuse : {A : Type 0} (n : ℕ) → accepted n ≡ true → (answer here (inserting s.row)).number ≡ n → A
          refuse n y e = absurd (clash (sym y ∙ ap accepted (sym e) ∙ h))

          stuck : Inserted [] (tried_after st xs s) → accepted (tried_after (answer here (inserting s.row)).after us v).number ≡ false
          stuck (inl e) = refuse 0 refl e
          stuck (inr (inl e)) = refuse none_free refl e
          stuck (inr (inr e)) =
              let d = described p buffer good long xs in
              ap accepted (from-open p buffer good long
              (λ (u : State). (work : List ℕ) → (answer u (inserting work)).number ≡ no_room → (w : List ℕ) → Keyed u (desc u).wpr w → key_in (desc u) w ≡ key_in (desc u) work
              → (ws : List (List ℕ)) → (answer (left u (map inserting ws)) (inserting w)).number ≡ no_room)
              stuck-key (inserts xs) s.row e v.row (keyed p buffer good long xs v g)
              (subst (λ (q : Description). key_in q v.row ≡ key_in q s.row) (sym d) same) (s.row ∷ rows_of us))

pub first-kept : FirstKept
first-kept p copy buffer l xs ys s e first =
    let a = all-at (Fit p) xs s ys (subst (All (Fit p)) e (all_fit p copy buffer l)) in
    with_it p buffer l.good l.buffer-is xs s a.0 first ys
    ∙ ap (λ (z : List (List ℕ)). cond (accepted (tried_after (started p buffer) xs s).number) (s.row ∷ []) [] ++ z)
    (never-carried p (key_in p s.row) ys _ a.1 (never p buffer l.good l.buffer-is xs s a.0 first))
    ∙ none-behind (accepted (tried_after (started p buffer) xs s).number) s.row
  where
    none-behind : (c : Bool) (r : List ℕ) → cond c (r ∷ []) [] ++ [] ≡ cond c (r ∷ []) []
    none-behind true r = refl
    none-behind false r = refl
