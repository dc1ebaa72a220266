-- A romanising that answers 0: the name was raw, and is romanised with the spelling given. And a raw name's spelling stays zero.
use Prim.Native.Nat.{ℕ}
use mathlib.Core.Path.{◌≡◌, refl, sym, ap, ◌∙◌, subst}
use mathlib.Core.Bool.{Bool, true, false, cond}
use mathlib.Core.List.{List, [], ◌∷◌, ◌++◌}
use native.Mathlib.Omega.{arith}
use borrow.Author.Tests.{eqb-true, eq-eqb}
use lib.Dec.{eqb}
use Rattle.numbers.specs.Numbers.{done, wrong_size, is_closed, wrong_key, accepted}
use Rattle.numbers.specs.Checked.{Checked, passed, refused, ◌>>◌, require}
use Rattle.words.specs.Keys.{same_key}
use Rattle.words.proofs.Keys.{same_key-eq}
use Rattle.drum.specs.declared.Description.{Description}
use Rattle.layout.specs.Holds.{All}
use Rattle.rules.specs.State.{State, desc, key_in}
use Rattle.rules.specs.Checks.{sizes_ok, work_ok, is_open, key_ok}
use Rattle.rules.specs.Seek.{seek, updat}
use Rattle.rules.specs.Requests.{lending, answer, left}
use Rattle.demands.specs.Story.{deed_of, deeds, stands, replaced, in_place}
use Rattle.demands.specs.Story as story
use Rattle.register.specs.Names.{raw, romanised, name_of, state_of, spelling_of}
use Rattle.register.specs.Register.{has_state, name_ok, spelled_ok, checked, joined, sought, followed, move, spelled, romanise}
use Rattle.register.specs.Checks.{SpellingFits}
use Rattle.register.proofs.Refusing.{spelled-ok}
use Rattle.register.proofs.Records.{key-read, state-read, spelling-read, key-long}
use Rattle.registered.specs.Deeds.{Deed, romanising, if_passed, to_update, moving, requests_of, requests}
use Rattle.registered.specs.Kept.{Registers, Step, stays, enters, moves, RomanisedAs, RawZero}
use Rattle.registered.proofs.Runs.{sought-after, deeds-append, stands-append}
use Rattle.registered.proofs.Tells.{Tells, onward, tells-on}
use Rattle.registered.proofs.Steps.{told-step, told_of, sought-done, seek-now, found-key, found-fits}
use Rattle.registered.proofs.Spared.{one-is, moved-raw}

-- ---- a romanising that answers 0

-- a chain of tests that refuses, refuses with a number that is not 0
pub record Refuses (c : Checked Bool) : Type 0 where
  pub some : (n : ℕ) → c ≡ refused n → n ≡ 0 → ⊥

number_of : Checked Bool → ℕ
number_of (refused n) = n
number_of (passed x) = 1

test-refuses : (t : Bool) (n : ℕ) → (n ≡ 0 → ⊥) → Refuses (require t n)
test-refuses true n h = record { some = λ m e z. let y : ◌≡◌ {A = ℕ} 1 m = unfold number_of in ap number_of e in omega arith }
test-refuses false n h = record { some = λ m e z. let y : n ≡ m = unfold number_of in ap number_of e in h (y ∙ z) }

then-refuses : (a b : Checked Bool) → Refuses a → Refuses b → Refuses (a >> b)
then-refuses (refused n) b h k = record { some = λ m e z. h.some m e z }
then-refuses (passed x) b h k = k

size-no : (t : Bool) → Refuses (require t wrong_size)
size-no t = test-refuses t wrong_size (λ z. omega arith)

closed-no : (t : Bool) → Refuses (require t is_closed)
closed-no t = test-refuses t is_closed (λ z. omega arith)

key-no : (t : Bool) → Refuses (require t wrong_key)
key-no t = test-refuses t wrong_key (λ z. omega arith)

ruleset tests = (then-refuses, size-no, closed-no, key-no)

pub name-refuses : (st : State) → Refuses (name_ok st)
unfolding name_ok has_state sizes_ok work_ok is_open key_ok
name-refuses st = search tests depth 9

spelled-refuses : (x : List ℕ) (st : State) → Refuses (spelled_ok x st)
unfolding spelled_ok
spelled-refuses x st = search (tests, name-refuses) depth 9

-- the move was begun on a raw name
move-done : (from : ℕ) (made : List ℕ → Checked (List ℕ)) (st : State) → (move from made st).number ≡ done → (sought from st).number ≡ done
unfolding move
move-done from made st z = go (eqb (sought from st).number done) refl z
  where
    go : (t : Bool) → eqb (sought from st).number done ≡ t
        → (cond t (followed (sought from st) (made (sought from st).after.work)) (sought from st)).number ≡ done → (sought from st).number ≡ done
    go true e z = eqb-true _ _ e
    go false e z = z

romanised-done : (x : List ℕ) (st : State) → (romanise x st).number ≡ done → ((seek st).number ≡ done) × (state_of (desc st) (seek st).after.work ≡ raw)
unfolding romanise checked
romanised-done x st z = go (spelled_ok x st) refl z
  where
    go : (c : Checked Bool) → spelled_ok x st ≡ c → (checked st c (move raw (spelled (desc st) x) st)).number ≡ done
        → ((seek st).number ≡ done) × (state_of (desc st) (seek st).after.work ≡ raw)
    go (refused n) e z = absurd ((spelled-refuses x st).some n e z)
    go (passed y) e z = sought-done raw st (move-done raw (spelled (desc st) x) st z)

-- the record that it stored
moving-tells : (from : ℕ) (made : List ℕ → Checked (List ℕ)) (v : State) (w s : List ℕ) → (sought from (lending w v)).number ≡ done
    → made (sought from (lending w v)).after.work ≡ passed s → (updat (lending s (sought from (lending w v)).after)).number ≡ done
    → deeds v (moving from made w v) ≡ replaced s ∷ []
unfolding moving deeds deed_of answer
moving-tells from made v w s z e n =
    let o = sought from (lending w v) in
    let after = (seek (lending w v)).after in
    let a : accepted (updat (lending s after)).number ≡ true
    = ap (λ (x : State). accepted (updat (lending s x)).number) (sym (sought-after from (lending w v))) ∙ ap accepted n in
    ap (λ (t : Bool). deeds after (cond t (to_update (made o.after.work)) [])) (eq-eqb o.number done z)
    ∙ ap (λ (c : Checked (List ℕ)). deeds after (to_update c)) e
    ∙ ap (λ (t : Bool). cond t (replaced s ∷ []) [] ++ []) a

move-updates : (from : ℕ) (made : List ℕ → Checked (List ℕ)) (st : State) (s : List ℕ) → (move from made st).number ≡ done
    → made (sought from st).after.work ≡ passed s → (updat (lending s (sought from st).after)).number ≡ done
unfolding move followed joined
move-updates from made st s z e =
    let o = sought from st in
    let d = move-done from made st z in
    sym
    (ap (λ (t : Bool). (cond t (followed o (made o.after.work)) o).number) (eq-eqb o.number done d)
    ∙ ap (λ (c : Checked (List ℕ)). (followed o c).number) e)
    ∙ z

romanise-tells : (v : State) (w x : List ℕ) → (romanise x (lending w v)).number ≡ done
    → (SpellingFits (desc v) w x) × (deeds v (requests_of v (romanising w x))
    ≡ replaced (name_of (key_in (desc v) (seek (lending w v)).after.work) romanised x) ∷ [])
unfolding romanise checked requests_of lending
romanise-tells v w x z = go (spelled_ok x (lending w v)) refl z
  where
    st : State
    st = lending w v

    made : List ℕ → Checked (List ℕ)
    made = spelled (desc v) x

    s : List ℕ
    s = name_of (key_in (desc v) (sought raw st).after.work) romanised x

    same : s ≡ name_of (key_in (desc v) (seek st).after.work) romanised x
    same = ap (λ (y : State). name_of (key_in (desc v) y.work) romanised x) (sought-after raw st)

    is : made (sought raw st).after.work ≡ passed s
    is = unfold spelled in refl

    go : (c : Checked Bool) → spelled_ok x st ≡ c → (checked st c (move raw made st)).number ≡ done
        → (SpellingFits (desc v) w x) × (deeds v (if_passed c (moving raw made w v))
        ≡ replaced (name_of (key_in (desc v) (seek st).after.work) romanised x) ∷ [])
    go (refused n) e z = absurd ((spelled-refuses x st).some n e z)
    go (passed y) e z = (
      spelled-ok x st y e,
      moving-tells raw made v w s (move-done raw made st z) is (move-updates raw made st s z is) ∙ ap (λ (q : List ℕ). replaced q ∷ []) same,
    )

-- ---- romanising, where it stands

in-place-one : (s r : List ℕ) → in_place s (r ∷ []) ≡ s ∷ []
unfolding in_place
in-place-one s r = refl

pub romanises-here : (v : State) (now : List ℕ → List (List ℕ)) → Tells (desc v) v now → (w x : List ℕ) → (romanise x (lending w v)).number ≡ done
    → RomanisedAs (desc v) (now (key_in (desc v) w)) (stands (desc v) (key_in (desc v) w) (deeds v (requests_of v (romanising w x))) (now (key_in (desc v) w))) x
unfolding stands
romanises-here v now t w x y =
    let p = desc v in
    let key = key_in p w in
    let r = (seek (lending w v)).after.work in
    let d : ((seek (lending w v)).number ≡ done) × (state_of p r ≡ raw) = unfold lending in romanised-done x (lending w v) y in
    let n = seek-now v now t w d.0 in
    let (f, e) = romanise-tells v w x y in
    let s = name_of (key_in p r) romanised x in
    let l = key-long p r (found-fits v now t w f.state) in
    let i : same_key (key_in p s) key ≡ true = same_key-eq (key_in p s) key (key-read p (key_in p r) romanised x l ∙ found-key v now t w r n) in
    record {
      before = r;
      after = s;
      stood = n;
      stands-there =
          ap (λ (es : List story.Deed). stands p key es (now key)) e
          ∙ ap (λ (b : Bool). cond b (in_place s (now key)) (now key)) i
          ∙ ap (in_place s) n
          ∙ in-place-one s r;
      was-raw = d.1;
      is-romanised = state-read p (key_in p r) romanised x l;
      is_spelled = spelling-read p (key_in p r) romanised x l f.as_long;
    }

-- ---- raw is zero

step-zero : (p : Description) (was now : List (List ℕ)) → RawZero p was → Step p was now → RawZero p now
step-zero p was now z (stays e) r n a = z r (sym e ∙ n) a
step-zero p was now z (enters s e m b c) r n a = ap (spelling_of p) (one-is r s (sym n ∙ m)) ∙ c
step-zero p was now z (moves q s e m v) r n a = absurd (moved-raw p q s v (ap (state_of p) (one-is s r (sym m ∙ n)) ∙ a))

pub run-zero : (p : Description) (ds : List Deed) (u : State) (now : List ℕ → List (List ℕ)) → Tells p u now → (key : List ℕ) → RawZero p (now key)
    → All Registers ds
    → RawZero p (stands p key (deeds u (requests u ds)) (now key))
unfolding requests deeds stands All
run-zero p [] u now h key z g = z
run-zero p (d ∷ ds) u now h key z g =
    let qs = requests_of u d in
    let v = left u qs in
    let a = step-zero p (now key) (stands p key (deeds u qs) (now key)) z (told-step p key now (deeds u qs) (told_of p u now h d g.0)) in
    let b = run-zero p ds v (onward p u qs now) (tells-on p u now h qs) key a g.1 in
    let e : stands p key (deeds u (qs ++ requests v ds)) (now key) ≡ stands p key (deeds v (requests v ds)) (stands p key (deeds u qs) (now key))
    = ap (λ (x : List story.Deed). stands p key x (now key)) (deeds-append u qs (requests v ds))
    ∙ stands-append p key (deeds u qs) (deeds v (requests v ds)) (now key) in
    subst (RawZero p) (sym e) b
