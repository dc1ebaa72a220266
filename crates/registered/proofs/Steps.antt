-- What one call makes of what stands under a key: from a state of which SEEK tells what stands there.
use Prim.Native.Nat.{ℕ}
use mathlib.Core.Path.{◌≡◌, refl, sym, ap, ◌∙◌, subst}
use mathlib.Core.Bool.{Bool, true, false, cond, not, ◌&&◌}
use mathlib.Core.List.{List, [], ◌∷◌, ◌++◌}
use native.Mathlib.Omega.{arith}
use borrow.Author.Tests.{eqb-true, eqb-false, eq-eqb}
use lib.Dec.{eqb}
use lib.ListN.{length, length-replicate}
use Rattle.numbers.specs.Numbers.{done, wrong_key, accepted, not_allowed}
use Rattle.numbers.specs.Checked.{Checked, passed, refused}
use Rattle.numbers.proofs.Passed.{then-passed}
use Rattle.words.specs.Words.{zeros, all_words}
use Rattle.words.specs.Keys.{same_key}
use Rattle.words.proofs.Keys.{same_key-true}
use Rattle.drum.specs.declared.Description.{Description}
use Rattle.layout.specs.Holds.{All}
use Rattle.rules.specs.State.{State, Outcome, desc, key_in}
use Rattle.rules.specs.Seek.{seek}
use Rattle.rules.specs.Requests.{Request, opening, closing, seeking, advancing, inserting, deleting, updating, extending, lending, given, answer}
use Rattle.demands.specs.Refusals.{leaves_all}
use Rattle.demands.specs.History.{handed}
use Rattle.demands.specs.Story.{deed_of, deeds, stands, added, replaced, added-to, in_place}
use Rattle.demands.specs.Story as story
use Rattle.demands.proofs.Mission.{first}
use Rattle.register.specs.Names.{raw, romanised, on_hold, spelling_size, name_of, state_of, spelling_of}
use Rattle.register.specs.Register.{has_state, name_ok, spelled_ok, raw_name, stopped, sought, spelled, turned}
use Rattle.register.specs.Checks.{StateFits, SpellingFits}
use Rattle.register.proofs.Refusing.{name-ok, spelled-ok}
use Rattle.register.proofs.Records.{key-read, state-read, spelling-read, spelling-long, key-long}
use Rattle.registered.specs.Deeds.{Deed, entering, asking, listing, holding, freeing, romanising, calling, if_passed, to_update, moving, requests_of}
use Rattle.registered.specs.Kept.{Moved, spelling, held, freed, Step, stays, enters, moves, Registers}
use Rattle.registered.proofs.Runs.{sought-after}
use Rattle.registered.proofs.Tells.{Keyed, Tells, tells-now}

-- ---- the three things that a register call can do

pub data Told (p : Description) (now : List ℕ → List (List ℕ)) (es : List story.Deed) : Type 0 where
  nothing : es ≡ [] → Told p now es
  comes : (r : List ℕ) → es ≡ added r ∷ [] → state_of p r ≡ raw → spelling_of p r ≡ zeros (spelling_size p) → Told p now es
  replaces : (r s : List ℕ) → es ≡ replaced s ∷ [] → key_in p s ≡ key_in p r → now (key_in p r) ≡ r ∷ [] → Moved p r s → Told p now es

module _ (p : Description) (key : List ℕ) where
  come-step : (r : List ℕ) (was : List (List ℕ)) (t : Bool) → state_of p r ≡ raw → spelling_of p r ≡ zeros (spelling_size p)
      → Step p was (cond t (added-to r was) was)
  unfolding added-to
  come-step r [] true a b = enters r refl refl a b
  come-step r (x ∷ xs) true a b = stays refl
  come-step r was false a b = stays refl

  place-step : (r s : List ℕ) (was : List (List ℕ)) (t : Bool) → (t ≡ true → was ≡ r ∷ []) → Moved p r s → Step p was (cond t (in_place s was) was)
  unfolding in_place
  place-step r s was true e m = moves r s (e refl) (ap (in_place s) (e refl)) m
  place-step r s was false e m = stays refl

  pub told-step : (now : List ℕ → List (List ℕ)) (es : List story.Deed) → Told p now es → Step p (now key) (stands p key es (now key))
  unfolding stands
  told-step now es (nothing e) = stays (ap (λ (x : List story.Deed). stands p key x (now key)) e)
  told-step now es (comes r e a b) =
      subst (λ (x : List story.Deed). Step p (now key) (stands p key x (now key))) (sym e) (come-step r (now key) (same_key (key_in p r) key) a b)
  told-step now es (replaces r s e k n m) =
      subst (λ (x : List story.Deed). Step p (now key) (stands p key x (now key))) (sym e)
      (place-step r s (now key) (same_key (key_in p s) key) (λ t. ap now (sym (sym k ∙ same_key-true (key_in p s) key t)) ∙ n) m)

-- ---- the records that are made

raw-made : (p : Description) (w : List ℕ) → StateFits p w → (state_of p (raw_name p w) ≡ raw) × (spelling_of p (raw_name p w) ≡ zeros (spelling_size p))
unfolding raw_name
raw-made p w h =
    let l = key-long p w h in
    (state-read p (key_in p w) raw (zeros (spelling_size p)) l, spelling-read p (key_in p w) raw (zeros (spelling_size p)) l (length-replicate {A = ℕ} (spelling_size p) 0))

passed_is : (a b : List ℕ) → passed a ≡ passed b → a ≡ b
passed_is a b e = ap of e
  where
    of : Checked (List ℕ) → List ℕ
    of (refused n) = []
    of (passed x) = x

module _ (p : Description) (r s : List ℕ) (fit : StateFits p r) where
  spelled-moved : (x : List ℕ) → length x ≡ spelling_size p → state_of p r ≡ raw → spelled p x r ≡ passed s → (key_in p s ≡ key_in p r) × Moved p r s
  unfolding spelled
  spelled-moved x l z e =
      let k = key-long p r fit in
      let i = passed_is _ _ e in
      (ap (key_in p) (sym i) ∙ key-read p (key_in p r) romanised x k, spelling z (ap (state_of p) (sym i) ∙ state-read p (key_in p r) romanised x k))

  turned-reads : (to : ℕ) → turned p to r ≡ passed s → (key_in p s ≡ key_in p r) × (state_of p s ≡ to) × (spelling_of p s ≡ spelling_of p r)
  unfolding turned
  turned-reads to e =
      let k = key-long p r fit in
      let x = spelling_of p r in
      let i = passed_is (name_of (key_in p r) to x) s (then-passed (all_words x) wrong_key (passed (name_of (key_in p r) to x)) s e).1 in (
        ap (key_in p) (sym i) ∙ key-read p (key_in p r) to x k,
        ap (state_of p) (sym i) ∙ state-read p (key_in p r) to x k,
        ap (spelling_of p) (sym i) ∙ spelling-read p (key_in p r) to x k (spelling-long p r fit),
      )

  held_moved : state_of p r ≡ romanised → turned p on_hold r ≡ passed s → (key_in p s ≡ key_in p r) × Moved p r s
  held_moved z e = let (k, a, b) = turned-reads on_hold e in (k, held z a b)

  freed-moved : state_of p r ≡ on_hold → turned p romanised r ≡ passed s → (key_in p s ≡ key_in p r) × Moved p r s
  freed-moved z e = let (k, a, b) = turned-reads romanised e in (k, freed z a b)

-- ---- what the test of the state tells

pub sought-done : (from : ℕ) (st : State) → (sought from st).number ≡ done → ((seek st).number ≡ done) × (state_of (desc st) (seek st).after.work ≡ from)
unfolding sought stopped
sought-done from st z = go (eqb (seek st).number done) (eqb (state_of (desc st) (seek st).after.work) from) refl refl z
  where
    go : (a b : Bool) → eqb (seek st).number done ≡ a → eqb (state_of (desc st) (seek st).after.work) from ≡ b
        → (cond (a && not b) (stopped not_allowed (seek st)) (seek st)).number ≡ done
        → ((seek st).number ≡ done) × (state_of (desc st) (seek st).after.work ≡ from)
    go true true ea eb z = (eqb-true _ _ ea, eqb-true _ _ eb)
    go true false ea eb z = absurd (let y : not_allowed ≡ 0 = z in omega arith)
    go false b ea eb z = absurd (eqb-false _ _ ea z)

-- a SEEK that answers 0 hands out its record
pub handed-done : (o : Outcome) → o.number ≡ done → handed o ≡ o.after.work ∷ []
unfolding handed
handed-done o z = ap (λ (t : Bool). cond t (o.after.work ∷ []) []) (eq-eqb _ _ z)

module _ (u : State) (now : List ℕ → List (List ℕ)) (h : Tells (desc u) u now) where
  -- what SEEK found is what stands under its key
  pub seek-now : (w : List ℕ) → (seek (lending w u)).number ≡ done → now (key_in (desc u) w) ≡ (seek (lending w u)).after.work ∷ []
  unfolding answer leaves_all
  seek-now w z =
      sym (tells-now (desc u) u now h w (ap leaves_all z)) ∙ handed-done (answer u (seeking w)) z

  pub found-key : (w r : List ℕ) → now (key_in (desc u) w) ≡ r ∷ [] → key_in (desc u) r ≡ key_in (desc u) w
  unfolding All
  found-key w r e =
      same_key-true (key_in (desc u) r) (key_in (desc u) w)
      (subst (λ (x : List (List ℕ)). Keyed (desc u) (key_in (desc u) w) x) e (h.keyed (key_in (desc u) w))).0

  pub found-fits : (w : List ℕ) → StateFits (desc u) w → StateFits (desc u) (seek (lending w u)).after.work
  unfolding answer given lending
  found-fits w f = record { key-few = f.key-few; data-word = f.data-word; whole = (first.lengths u (seeking w)).work ∙ f.whole }

  -- a move, by what it makes of the record found
  moving-told : (from : ℕ) (made : List ℕ → Checked (List ℕ)) (w : List ℕ) → StateFits (desc u) w
      → ((r s : List ℕ) → StateFits (desc u) r → state_of (desc u) r ≡ from → made r ≡ passed s → (key_in (desc u) s ≡ key_in (desc u) r) × Moved (desc u) r s)
      → Told (desc u) now (deeds u (moving from made w u))
  unfolding moving deeds deed_of
  moving-told from made w f good =
      go (eqb (sought from (lending w u)).number done) (made (sought from (lending w u)).after.work) refl refl
    where
      r : List ℕ
      r = (seek (lending w u)).after.work

      same : (sought from (lending w u)).after.work ≡ r
      same = ap (λ (x : State). x.work) (sought-after from (lending w u))

      stored : (s : List ℕ) (t : Bool) → (sought from (lending w u)).number ≡ done → made r ≡ passed s
          → Told (desc u) now (cond t (replaced s ∷ []) [] ++ [])
      stored s false z e = nothing refl
      stored s true z e =
          let d : ((seek (lending w u)).number ≡ done) × (state_of (desc u) r ≡ from) = unfold lending in sought-done from (lending w u) z in
          let n = seek-now w d.0 in
          let k = found-key w r n in
          let g = good r s (found-fits w f) d.1 e in
          replaces r s refl g.0 (ap now k ∙ n) g.1

      go : (t : Bool) (c : Checked (List ℕ)) → eqb (sought from (lending w u)).number done ≡ t → made (sought from (lending w u)).after.work ≡ c
          → Told (desc u) now (deeds (answer u (seeking w)).after (cond t (to_update c) []))
      go false c z e = nothing refl
      go true (refused n) z e = nothing refl
      go true (passed s) z e =
          stored s (accepted (answer (answer u (seeking w)).after (updating s)).number) (eqb-true _ _ z) (ap made (sym same) ∙ e)

  -- nothing where the register refuses
  passing : (c : Checked Bool) (qs : List Request) → ((x : Bool) → c ≡ passed x → Told (desc u) now (deeds u qs))
      → Told (desc u) now (deeds u (if_passed c qs))
  passing (refused n) qs f = unfold deeds in nothing refl
  passing (passed x) qs f = f x refl

  told_here : (d : Deed) → Registers d → Told (desc u) now (deeds u (requests_of u d))
  unfolding requests_of
  told_here (entering w) g = passing (name_ok (lending w u)) (inserting (raw_name (desc u) w) ∷ []) entered
    where
      come : (t : Bool) → StateFits (desc u) w → Told (desc u) now (cond t (added (raw_name (desc u) w) ∷ []) [] ++ [])
      come true f = let (a, b) = raw-made (desc u) w f in comes (raw_name (desc u) w) refl a b
      come false f = nothing refl

      entered : (x : Bool) → name_ok (lending w u) ≡ passed x → Told (desc u) now (deeds u (inserting (raw_name (desc u) w) ∷ []))
      entered x e =
          unfold deeds deed_of lending in
          come (accepted (answer u (inserting (raw_name (desc u) w))).number) (name-ok (lending w u) x e)
  told_here (asking w) g = passing (has_state (lending w u)) (seeking w ∷ []) (λ x e. unfold deeds deed_of in nothing refl)
  told_here (listing w) g = passing (has_state (lending w u)) (advancing w ∷ []) (λ x e. unfold deeds deed_of in nothing refl)
  told_here (holding w) g =
      passing (name_ok (lending w u)) (moving romanised (turned (desc u) on_hold) w u)
      (λ x e. moving-told romanised (turned (desc u) on_hold) w (unfold lending in name-ok (lending w u) x e) (λ r s f z i. held_moved (desc u) r s f z i))
  told_here (freeing w) g =
      passing (name_ok (lending w u)) (moving on_hold (turned (desc u) romanised) w u)
      (λ x e. moving-told on_hold (turned (desc u) romanised) w (unfold lending in name-ok (lending w u) x e) (λ r s f z i. freed-moved (desc u) r s f z i))
  told_here (romanising w y) g =
      passing (spelled_ok y (lending w u)) (moving raw (spelled (desc u) y) w u)
      (λ x e.
      let v : SpellingFits (desc u) w y = unfold lending in spelled-ok y (lending w u) x e in
      moving-told raw (spelled (desc u) y) w v.state (λ r s f z i. spelled-moved (desc u) r s f y v.as_long z i))
  told_here (calling (opening marks)) g = unfold deeds deed_of in nothing refl
  told_here (calling closing) g = unfold deeds deed_of in nothing refl
  told_here (calling (seeking w)) g = unfold deeds deed_of in nothing refl
  told_here (calling (advancing w)) g = unfold deeds deed_of in nothing refl
  told_here (calling (inserting w)) g = absurd g
  told_here (calling (deleting w)) g = absurd g
  told_here (calling (updating w)) g = absurd g
  told_here (calling (extending w)) g = absurd g

pub told_of : (p : Description) (u : State) (now : List ℕ → List (List ℕ)) → Tells p u now → (d : Deed) → Registers d → Told p now (deeds u (requests_of u d))
told_of p u now h d g =
    subst (λ (q : Description). Told q now (deeds u (requests_of u d))) h.parameters
    (told_here u now (subst (λ (q : Description). Tells q u now) (sym h.parameters) h) d g)
