-- A romanised or held name keeps its spelling through every call that spares it.
use Prim.Native.Nat.{ℕ}
use mathlib.Core.Path.{◌≡◌, refl, sym, ap, ◌∙◌, subst}
use mathlib.Core.Bool.{Bool, true, false, cond}
use mathlib.Core.Logic.{inl, inr}
use mathlib.Core.List.{List, [], ◌∷◌, ◌++◌}
use native.Mathlib.Omega.{arith}
use lib.Dec.{eqb}
use Rattle.numbers.specs.Numbers.{done, accepted}
use Rattle.words.specs.Keys.{same_key}
use Rattle.drum.specs.declared.Description.{Description}
use Rattle.layout.specs.Holds.{All}
use Rattle.rules.specs.State.{State, desc, key_in}
use Rattle.rules.specs.Requests.{opening, closing, seeking, advancing, inserting, deleting, updating, extending, answer, left}
use Rattle.demands.specs.Story.{deed_of, deeds, stands, added, replaced, removed, added-to, in_place}
use Rattle.demands.specs.Story as story
use Rattle.register.specs.Names.{raw, state_of, spelling_of}
use Rattle.registered.specs.Deeds.{Deed, entering, asking, listing, holding, freeing, romanising, calling, requests_of, requests}
use Rattle.registered.specs.Kept.{Romanised, Moved, spelling, held, freed, Step, stays, enters, moves, Registers, Spares}
use Rattle.registered.proofs.Runs.{deeds-append, stands-append}
use Rattle.registered.proofs.Tells.{Tells, onward, tells-on}
use Rattle.registered.proofs.Steps.{told-step, told_of}

-- a name with its spelling, or a later record of it
pub record Keeps (p : Description) (r : List ℕ) (now : List (List ℕ)) : Type 0 where
  pub then : List ℕ
  pub stands-there : now ≡ then ∷ []
  pub still : Romanised p then
  pub same-spelling : spelling_of p then ≡ spelling_of p r

pub none-some : (r : List ℕ) (rs : List (List ℕ)) → [] ≡ r ∷ rs → ⊥
none-some r rs e = let z : ◌≡◌ {A = ℕ} 0 1 = ap size e in omega arith
  where
    size : List (List ℕ) → ℕ
    size [] = 0
    size (x ∷ xs) = 1

pub one-is : (r s : List ℕ) → ◌≡◌ {A = List (List ℕ)} (r ∷ []) (s ∷ []) → r ≡ s
one-is r s e = ap of e
  where
    of : List (List ℕ) → List ℕ
    of [] = []
    of (x ∷ xs) = x

pub not-raw : (p : Description) (r : List ℕ) → Romanised p r → state_of p r ≡ raw → ⊥
not-raw p r (inl a) z = let y : ◌≡◌ {A = ℕ} 1 0 = sym a ∙ z in omega arith
not-raw p r (inr a) z = let y : ◌≡◌ {A = ℕ} 2 0 = sym a ∙ z in omega arith

-- no move leads back to raw
pub moved-raw : (p : Description) (q s : List ℕ) → Moved p q s → state_of p s ≡ raw → ⊥
moved-raw p q s (spelling a b) z = not-raw p s (inl b) z
moved-raw p q s (held a b c) z = not-raw p s (inr b) z
moved-raw p q s (freed a b c) z = not-raw p s (inl b) z

module _ (p : Description) (r : List ℕ) (rom : Romanised p r) where
  moved_keeps : (q s : List ℕ) (now : List (List ℕ)) → q ≡ r → now ≡ s ∷ [] → Moved p q s → Keeps p r now
  moved_keeps q s now e n (spelling a b) = absurd (not-raw p r rom (ap (state_of p) (sym e) ∙ a))
  moved_keeps q s now e n (held a b c) = record { then = s; stands-there = n; still = inr b; same-spelling = c ∙ ap (spelling_of p) e }
  moved_keeps q s now e n (freed a b c) = record { then = s; stands-there = n; still = inl b; same-spelling = c ∙ ap (spelling_of p) e }

  step_keeps : (was now : List (List ℕ)) → was ≡ r ∷ [] → Step p was now → Keeps p r now
  step_keeps was now w (stays e) = record { then = r; stands-there = e ∙ w; still = rom; same-spelling = refl }
  step_keeps was now w (enters s e n a b) = absurd (none-some r [] (sym e ∙ w))
  step_keeps was now w (moves q s e n m) = moved_keeps q s now (one-is q r (sym e ∙ w)) n m

  stays-keeps : (was now : List (List ℕ)) → was ≡ r ∷ [] → now ≡ was → Keeps p r now
  stays-keeps was now w e = step_keeps was now w (stays e)

-- the routine's own calls that spare the name
module _ (key r : List ℕ) (was : List (List ℕ)) (w : was ≡ r ∷ []) where
  put-stays : (p : Description) (x : List ℕ) (t : Bool) → stands p key (cond t (added x ∷ []) [] ++ []) was ≡ was
  unfolding stands added-to
  put-stays p x false = refl
  put-stays p x true = go (same_key (key_in p x) key)
    where
      there : added-to x was ≡ was
      there = ap (added-to x) w ∙ sym w

      go : (t : Bool) → cond t (added-to x was) was ≡ was
      go true = there
      go false = refl

  replaced-stays : (p : Description) (x : List ℕ) (t : Bool) → same_key (key_in p x) key ≡ false → stands p key (cond t (replaced x ∷ []) [] ++ []) was ≡ was
  unfolding stands
  replaced-stays p x false e = refl
  replaced-stays p x true e = ap (λ (t : Bool). cond t (in_place x was) was) e

  removed-stays : (p : Description) (x : List ℕ) (t : Bool) → same_key x key ≡ false → stands p key (cond t (removed x ∷ []) [] ++ []) was ≡ was
  unfolding stands
  removed-stays p x false e = refl
  removed-stays p x true e = ap (λ (t : Bool). cond t [] was) e

module _ (u : State) (now : List ℕ → List (List ℕ)) (h : Tells (desc u) u now) (key r : List ℕ) (is : now key ≡ r ∷ []) (rom : Romanised (desc u) r) where
  registers-keeps : (d : Deed) → Registers d → Keeps (desc u) r (stands (desc u) key (deeds u (requests_of u d)) (now key))
  registers-keeps d g = step_keeps (desc u) r rom (now key) _ is (told-step (desc u) key now (deeds u (requests_of u d)) (told_of (desc u) u now h d g))

  here-keeps : (d : Deed) → Spares (desc u) key d → Keeps (desc u) r (stands (desc u) key (deeds u (requests_of u d)) (now key))
  unfolding requests_of deeds deed_of
  here-keeps (entering w) g = registers-keeps (entering w) tt
  here-keeps (asking w) g = registers-keeps (asking w) tt
  here-keeps (listing w) g = registers-keeps (listing w) tt
  here-keeps (holding w) g = registers-keeps (holding w) tt
  here-keeps (freeing w) g = registers-keeps (freeing w) tt
  here-keeps (romanising w s) g = registers-keeps (romanising w s) tt
  here-keeps (calling (opening marks)) g = registers-keeps (calling (opening marks)) tt
  here-keeps (calling closing) g = registers-keeps (calling closing) tt
  here-keeps (calling (seeking w)) g = registers-keeps (calling (seeking w)) tt
  here-keeps (calling (advancing w)) g = registers-keeps (calling (advancing w)) tt
  here-keeps (calling (inserting w)) g =
      stays-keeps (desc u) r rom (now key) _ is (put-stays key r (now key) is (desc u) w (accepted (answer u (inserting w)).number))
  here-keeps (calling (extending w)) g =
      stays-keeps (desc u) r rom (now key) _ is (put-stays key r (now key) is (desc u) w (accepted (answer u (extending w)).number))
  here-keeps (calling (deleting w)) g =
      stays-keeps (desc u) r rom (now key) _ is (removed-stays key r (now key) is (desc u) (key_in (desc u) w) (eqb (answer u (deleting w)).number done) g)
  here-keeps (calling (updating w)) g =
      stays-keeps (desc u) r rom (now key) _ is (replaced-stays key r (now key) is (desc u) w (accepted (answer u (updating w)).number) g)

pub call-keeps : (p : Description) (u : State) (now : List ℕ → List (List ℕ)) → Tells p u now → (key r : List ℕ) → now key ≡ r ∷ [] → Romanised p r
    → (d : Deed) → Spares p key d → Keeps p r (stands p key (deeds u (requests_of u d)) (now key))
call-keeps p u now h key r is rom d g =
    let e = h.parameters in
    subst (λ (q : Description). Keeps q r (stands q key (deeds u (requests_of u d)) (now key))) e
    (here-keeps u now (subst (λ (q : Description). Tells q u now) (sym e) h) key r is (subst (λ (q : Description). Romanised q r) (sym e) rom) d
    (subst (λ (q : Description). Spares q key d) (sym e) g))

-- any calls that spare it
pub run-keeps : (p : Description) (es : List Deed) (u : State) (now : List ℕ → List (List ℕ)) → Tells p u now → (key r : List ℕ) → now key ≡ r ∷ []
    → Romanised p r
    → All (Spares p key) es → Keeps p r (stands p key (deeds u (requests u es)) (now key))
unfolding requests deeds stands All
run-keeps p [] u now h key r is rom g = record { then = r; stands-there = is; still = rom; same-spelling = refl }
run-keeps p (d ∷ es) u now h key r is rom g =
    let qs = requests_of u d in
    let v = left u qs in
    let a = call-keeps p u now h key r is rom d g.0 in
    let b = run-keeps p es v (onward p u qs now) (tells-on p u now h qs) key a.then a.stands-there a.still g.1 in
    let e : stands p key (deeds u (qs ++ requests v es)) (now key) ≡ stands p key (deeds v (requests v es)) (stands p key (deeds u qs) (now key))
    = ap (λ (x : List story.Deed). stands p key x (now key)) (deeds-append u qs (requests v es))
    ∙ stands-append p key (deeds u qs) (deeds v (requests v es)) (now key) in
    record { then = b.then; stands-there = e ∙ b.stands-there; still = b.still; same-spelling = b.same-spelling ∙ a.same-spelling }
