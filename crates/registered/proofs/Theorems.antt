-- The register over runs, from the statements of `demands`.
use Prim.Native.Nat.{ℕ}
use mathlib.Core.Path.{◌≡◌, refl, sym, ap, ◌∙◌, subst}
use mathlib.Core.Bool.{Bool, true, false, cond}
use mathlib.Core.Logic.{inl}
use mathlib.Core.List.{List, [], ◌∷◌, ◌++◌, append-nil}
use borrow.Author.Tests.{eqb-true, eq-eqb}
use lib.Dec.{eqb, ltb}
use Rattle.numbers.specs.Numbers.{done, wrong_size}
use Rattle.numbers.specs.Checked.{Checked, passed, refused, require}
use Rattle.words.proofs.Keys.{clash}
use Rattle.drum.specs.declared.Description.{Description}
use Rattle.layout.specs.Tree.{contents}
use Rattle.rules.specs.State.{State, Outcome, desc, key_in}
use Rattle.rules.specs.Open.{open_file}
use Rattle.rules.specs.Seek.{seek}
use Rattle.rules.specs.Requests.{Request, seeking, advancing, lending, answer, left}
use Rattle.demands.specs.Refusals.{leaves_all}
use Rattle.demands.specs.History.{with_key, handed}
use Rattle.demands.specs.Story.{deed_of, deeds, stands}
use Rattle.demands.specs.Story as story
use Rattle.demands.proofs.Mission.{second}
use Rattle.demands.proofs.Demands.{opened-desc}
use Rattle.register.specs.Names.{state_of, spelling_of}
use Rattle.register.specs.Register.{has_state, checked, ask, romanise}
use Rattle.registered.specs.Deeds.{Deed, asking, listing, romanising, did, left_by, if_passed, requests_of, requests}
use Rattle.registered.specs.Kept.{under, FromOpen, Found, States, Step, Romanised}
use Rattle.registered.specs.Kept.{SpellingKept, SpellingAsked, AskingChangesNothing, RomanisedAs, Romanises, Once, RawIsZero}
use Rattle.registered.proofs.Runs.{same-run, left-desc, requests-append, deeds-append, stands-append}
use Rattle.registered.proofs.Tells.{Tells, with-keyed, tells-on, tells-now}
use Rattle.registered.proofs.Steps.{told-step, told_of}
use Rattle.registered.proofs.Romanising.{romanises-here, run-zero}
use Rattle.registered.proofs.Spared.{none-some, one-is, not-raw, run-keeps}

-- ---- what stands, step by step

module _ (u : State) (ds : List Deed) (key : List ℕ) (was : List (List ℕ)) where
  abbrev then : State
  then = left u (requests u ds)

  under-append : (es : List Deed) → under u (ds ++ es) key was ≡ stands (desc u) key (deeds then (requests then es)) (under u ds key was)
  unfolding under
  under-append es =
      ap (λ (x : List Request). stands (desc u) key (deeds u x) was) (requests-append u ds es)
      ∙ ap (λ (x : List story.Deed). stands (desc u) key x was) (deeds-append u (requests u ds) (requests then es))
      ∙ stands-append (desc u) key (deeds u (requests u ds)) (deeds then (requests then es)) was

  under_more : (d : Deed) → under u (ds ++ d ∷ []) key was ≡ stands (desc u) key (deeds then (requests_of then d)) (under u ds key was)
  under_more d =
      under-append (d ∷ [])
      ∙ ap (λ (x : List Request). stands (desc u) key (deeds then x) (under u ds key was)) (unfold requests in append-nil (requests_of then d))

-- ---- from a state of which SEEK tells what stands

module _ (u : State) (was : List ℕ → List (List ℕ)) (h : Tells (desc u) u was) where
  abbrev now : List Deed → List ℕ → List (List ℕ)
  now ds key = under u ds key (was key)

  tells-then : (ds : List Deed) → Tells (desc u) (left u (requests u ds)) (now ds)
  unfolding under
  tells-then ds = tells-on (desc u) u was h (requests u ds)

  states : States u was
  states ds d g key =
      subst (Step (desc u) (now ds key)) (sym (under_more u ds key (was key) d))
      (told-step (desc u) key (now ds) _ (told_of (desc u) (left u (requests u ds)) (now ds) (tells-then ds) d g))

  spelling-kept : SpellingKept u was
  spelling-kept ds es key r g is rom =
      let k = run-keeps (desc u) es (left u (requests u ds)) (now ds) (tells-then ds) key r is rom g in
      (k.then, under-append u ds key (was key) es ∙ k.stands-there, k.still, k.same-spelling)

  -- what asking does
  asks : (ds : List Deed) (w : List ℕ) → did (left_by u ds) (asking w) ≡ ask (lending w (left u (requests u ds)))
  unfolding did
  asks ds w = ap ask (same-run u ds w)

  found-by : (v : State) (n : List ℕ → List (List ℕ)) → Tells (desc u) v n → (w : List ℕ) → leaves_all (ask (lending w v)).number ≡ false
      → handed (ask (lending w v)) ≡ n (key_in (desc u) w)
  unfolding ask checked has_state leaves_all answer lending
  found-by v n t w z = go (ltb (desc v).k (desc v).wpr) z
    where
      go : (x : Bool) → leaves_all (checked (lending w v) (require x wrong_size) (seek (lending w v))).number ≡ false
          → handed (checked (lending w v) (require x wrong_size) (seek (lending w v))) ≡ n (key_in (desc u) w)
      go true z = tells-now (desc u) v n t w z
      go false z = absurd (clash z)

  pub found : Found u was
  found ds w z =
      ap handed (asks ds w)
      ∙ found-by (left u (requests u ds)) (now ds) (tells-then ds) w (ap (λ (o : Outcome). leaves_all o.number) (sym (asks ds w)) ∙ z)

  -- ---- the spelling, as asking shows it

  one-handed : (o : Outcome) (s : List ℕ) → handed o ≡ s ∷ [] → (o.number ≡ done) × (o.after.work ≡ s)
  unfolding handed
  one-handed o s e = go (eqb o.number done) refl e
    where
      go : (x : Bool) → eqb o.number done ≡ x → cond x (o.after.work ∷ []) [] ≡ s ∷ [] → (o.number ≡ done) × (o.after.work ≡ s)
      go true z i = (eqb-true _ _ z, one-is _ _ i)
      go false z i = absurd (none-some s [] i)

  handed-one : (o : Outcome) → o.number ≡ done → handed o ≡ o.after.work ∷ []
  unfolding handed
  handed-one o z = ap (λ (t : Bool). cond t (o.after.work ∷ []) []) (eq-eqb _ _ z)

  spelling-asked : SpellingAsked u was
  unfolding leaves_all
  spelling-asked ds es w g z rom y =
      let a = did (left_by u ds) (asking w) in
      let b = did (left_by u (ds ++ es)) (asking w) in
      let key = key_in (desc u) w in
      let i : now ds key ≡ a.after.work ∷ [] = sym (found ds w (ap leaves_all z)) ∙ handed-one a z in
      let (s, e, k, j) = spelling-kept ds es key a.after.work g i rom in
      let (d, f) = one-handed b s (found (ds ++ es) w y ∙ e) in
      (d, subst (Romanised (desc u)) (sym f) k, ap (spelling_of (desc u)) f ∙ j)

  -- ---- asking

  silent : (c : Checked Bool) (v : State) (q : Request) → deeds v (q ∷ []) ≡ [] → deeds v (if_passed c (q ∷ [])) ≡ []
  silent (refused n) v q e = unfold deeds in refl
  silent (passed x) v q e = e

  asking-silent : (v : State) (w : List ℕ) → deeds v (requests_of v (asking w)) ≡ []
  unfolding requests_of
  asking-silent v w = silent (has_state (lending w v)) v (seeking w) (unfold deeds deed_of in refl)

  listing-silent : (v : State) (w : List ℕ) → deeds v (requests_of v (listing w)) ≡ []
  unfolding requests_of
  listing-silent v w = silent (has_state (lending w v)) v (advancing w) (unfold deeds deed_of in refl)

  none-changes : (ds : List Deed) (d : Deed) (key : List ℕ) → deeds (left u (requests u ds)) (requests_of (left u (requests u ds)) d) ≡ []
      → now (ds ++ d ∷ []) key ≡ now ds key
  unfolding stands
  none-changes ds d key e = under_more u ds key (was key) d ∙ ap (λ (x : List story.Deed). stands (desc u) key x (now ds key)) e

  asking-changes-nothing : AskingChangesNothing u was
  asking-changes-nothing ds w key =
      (none-changes ds (asking w) key (asking-silent (left u (requests u ds)) w), none-changes ds (listing w) key (listing-silent (left u (requests u ds)) w))

  -- ---- once

  romanises : Romanises u was
  unfolding did
  romanises ds w x z =
      let v = left u (requests u ds) in
      let l = left-desc u (requests u ds) in
      let y : (romanise x (lending w v)).number ≡ done = ap (λ (s : State). (romanise x s).number) (sym (same-run u ds w)) ∙ z in
      let t = subst (λ (q : Description). Tells q v (now ds)) (sym l) (tells-then ds) in
      let a : RomanisedAs (desc u) (now ds (key_in (desc u) w)) (stands (desc u) (key_in (desc u) w) (deeds v (requests_of v (romanising w x))) (now ds (key_in (desc u) w))) x
      = subst
      (λ (q : Description). RomanisedAs q (now ds (key_in q w)) (stands q (key_in q w) (deeds v (requests_of v (romanising w x))) (now ds (key_in q w))) x)
      l
      (romanises-here v (now ds) t w x y) in
      subst (λ (n : List (List ℕ)). RomanisedAs (desc u) (now ds (key_in (desc u) w)) n x)
      (sym (under_more u ds (key_in (desc u) w) (was (key_in (desc u) w)) (romanising w x)))
      a

  once : Once u was
  once ds es w v x y g k z i =
      let key = key_in (desc u) w in
      let a = romanises ds w x z in
      let (s, e, rom, same) = spelling-kept (ds ++ romanising w x ∷ []) es key a.after g a.stands-there (inl a.is-romanised) in
      let b = romanises ((ds ++ romanising w x ∷ []) ++ es) v y i in
      let n : b.before ≡ s = one-is b.before s (sym b.stood ∙ ap (now ((ds ++ romanising w x ∷ []) ++ es)) k ∙ e) in
      not-raw (desc u) s rom (ap (state_of (desc u)) (sym n) ∙ b.was-raw)

  pub raw-is-zero : RawIsZero u was
  unfolding under
  raw-is-zero ds key g z = run-zero (desc u) ds u was h key z g

-- ---- from an OPEN that answers 0

module _ (P : State → (List ℕ → List (List ℕ)) → Type 0) (all : (u : State) (was : List ℕ → List (List ℕ)) → Tells (desc u) u was → P u was) where
  pub from-open : FromOpen P
  from-open st marks o =
      let (t, stands-there, f) = second.tells st marks o in
      let u = (open_file st marks).outcome.after in
      let was : List ℕ → List (List ℕ) = λ key. with_key (desc st) key (contents t) in
      let e : desc u ≡ desc st = opened-desc st marks o in
      let h : Tells (desc st) u was = record { parameters = e; seen = f; keyed = λ key. with-keyed (desc st) key (contents t) } in
      (t, stands-there, all u was (subst (λ (q : Description). Tells q u was) (sym e) h))

pub register-found : FromOpen Found
register-found = from-open Found found

pub register-states : FromOpen States
register-states = from-open States states

pub spelling-stays : FromOpen SpellingKept
spelling-stays = from-open SpellingKept spelling-kept

pub spelling-shown : FromOpen SpellingAsked
spelling-shown = from-open SpellingAsked spelling-asked

pub asking-nothing : FromOpen AskingChangesNothing
asking-nothing = from-open AskingChangesNothing asking-changes-nothing

pub romanising-does : FromOpen Romanises
romanising-does = from-open Romanises romanises

pub raw-zero : FromOpen RawIsZero
raw-zero = from-open RawIsZero raw-is-zero

pub romanised-once : FromOpen Once
romanised-once = from-open Once once
