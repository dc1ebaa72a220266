-- The order of keys: below is strict and total, same is equal, and `order` tells the three apart. No law asks for lengths.
use Prim.Native.Nat.{ℕ, ◌<◌}
use mathlib.Core.Bool.{Bool, true, false, not, ◌&&◌}
use mathlib.Core.Path.{◌≡◌, refl, sym, ap, ◌∙◌}
use mathlib.Core.Logic.{◌⊎◌, inl, inr}
use mathlib.Core.List.{List, [], ◌∷◌}
use native.Mathlib.Omega.{arith}
use native.Mathlib.Decide.{dec_lt}
use lib.Dec.{eqb}
use borrow.Author.Tests.{lt-ltb, le-ltb, eq-eqb, ne_eqb, eqb-true, not-true, not-false}
use Rattle.std.specs.Ordering.{is_lt, is_eq}
use Rattle.words.specs.Keys.{key_lt, key_le, same_key, order}
use Rattle.std.specs.declared.cmp.Ordering.TheVariants.{Less, Equal, Greater}

pub clash : ◌≡◌ {A = Bool} true false → ⊥
clash z = let n : ◌≡◌ {A = ℕ} 0 1 = cc in omega arith

-- how two numbers stand, and how two keys do
pub data Tri (a b : ℕ) : Type 0 where
  lt : a < b → Tri a b
  eq : a ≡ b → Tri a b
  gt : b < a → Tri a b

pub tri : (a b : ℕ) → Tri a b
tri a b = go (dec_lt a b) (dec_lt b a)
  where
    go : Dec (a < b) → Dec (b < a) → Tri a b
    go (yes h) d = lt h
    go (no n) (yes h) = gt h
    go (no n) (no m) = eq (omega arith)

pub data Stands (a b : List ℕ) : Type 0 where
  below : key_lt a b ≡ true → Stands a b
  same : a ≡ b → Stands a b
  above : key_lt b a ≡ true → Stands a b

-- by the first words
module _ (x y : ℕ) (a b : List ℕ) where
  pub key_lt-head : x < y → key_lt (x ∷ a) (y ∷ b) ≡ true
  unfolding key_lt
  key_lt-head h = rw lt-ltb

  pub key_lt-over : y < x → key_lt (x ∷ a) (y ∷ b) ≡ false
  unfolding key_lt
  key_lt-over h = rw (le-ltb x y (omega arith), ne_eqb x y (λ e. omega arith))

  pub key_lt-tail : x ≡ y → key_lt (x ∷ a) (y ∷ b) ≡ key_lt a b
  unfolding key_lt
  key_lt-tail e = rw (le-ltb x y (omega arith), eq-eqb)

  pub key_lt-cases : key_lt (x ∷ a) (y ∷ b) ≡ true → (x < y) ⊎ ((x ≡ y) × (key_lt a b ≡ true))
  key_lt-cases h = go (tri x y)
    where
      go : Tri x y → (x < y) ⊎ ((x ≡ y) × (key_lt a b ≡ true))
      go (lt l) = inl l
      go (eq e) = inr (e, sym (key_lt-tail e) ∙ h)
      go (gt g) = absurd (clash (sym h ∙ key_lt-over g))

pub key_lt-irrefl : (a : List ℕ) → key_lt a a ≡ false
unfolding key_lt
key_lt-irrefl [] = refl
key_lt-irrefl (x ∷ a) = key_lt-tail x x a a refl ∙ key_lt-irrefl a

pub key_lt-trans : (a b c : List ℕ) → key_lt a b ≡ true → key_lt b c ≡ true → key_lt a c ≡ true
unfolding key_lt
key_lt-trans [] [] c p q = q
key_lt-trans [] (y ∷ b) [] p q = q
key_lt-trans [] (y ∷ b) (z ∷ c) p q = refl
key_lt-trans (x ∷ a) [] [] p q = p
key_lt-trans (x ∷ a) [] (z ∷ c) p q = absurd (clash (sym p))
key_lt-trans (x ∷ a) (y ∷ b) [] p q = q
key_lt-trans (x ∷ a) (y ∷ b) (z ∷ c) p q = go (key_lt-cases x y a b p) (key_lt-cases y z b c q) (key_lt-trans a b c)
  where
    go : (x < y) ⊎ ((x ≡ y) × (key_lt a b ≡ true)) → (y < z) ⊎ ((y ≡ z) × (key_lt b c ≡ true)) → (key_lt a b ≡ true → key_lt b c ≡ true → key_lt a c ≡ true)
        → key_lt (x ∷ a) (z ∷ c) ≡ true
    go (inl l) (inl m) r = key_lt-head x z a c (omega arith)
    go (inl l) (inr m) r = key_lt-head x z a c (omega arith)
    go (inr l) (inl m) r = key_lt-head x z a c (omega arith)
    go (inr l) (inr m) r = key_lt-tail x z a c (l.0 ∙ m.0) ∙ r l.1 m.1

pub stands : (a b : List ℕ) → Stands a b
unfolding key_lt
stands [] [] = same refl
stands [] (y ∷ b) = below refl
stands (x ∷ a) [] = above refl
stands (x ∷ a) (y ∷ b) = go (tri x y) (stands a b)
  where
    go : Tri x y → Stands a b → Stands (x ∷ a) (y ∷ b)
    go (lt l) o = below (key_lt-head x y a b l)
    go (gt g) o = above (key_lt-head y x b a g)
    go (eq e) (below p) = below (key_lt-tail x y a b e ∙ p)
    go (eq e) (same p) = same (cc)
    go (eq e) (above p) = above (key_lt-tail y x b a (sym e) ∙ p)

-- same keys are equal lists
pub same_key-refl : (a : List ℕ) → same_key a a ≡ true
unfolding same_key
same_key-refl [] = refl
same_key-refl (x ∷ a) = rw (eq-eqb x x refl, same_key-refl a)

pub same_key-eq : (a b : List ℕ) → a ≡ b → same_key a b ≡ true
same_key-eq a b e = ap (same_key a) (sym e) ∙ same_key-refl a

pub same_key-true : (a b : List ℕ) → same_key a b ≡ true → a ≡ b
unfolding same_key
same_key-true [] [] h = refl
same_key-true [] (y ∷ b) h = absurd (clash (sym h))
same_key-true (x ∷ a) [] h = absurd (clash (sym h))
same_key-true (x ∷ a) (y ∷ b) h = go (eqb x y) refl h (same_key-true a b)
  where
    go : (t : Bool) → eqb x y ≡ t → (t && same_key a b) ≡ true → (same_key a b ≡ true → a ≡ b) → ◌≡◌ {A = List ℕ} (x ∷ a) (y ∷ b)
    go true e k r =
        let f : x ≡ y = eqb-true x y e in
        let g : a ≡ b = r k in
        cc
    go false e k r = absurd (clash (sym k))

module _ (a b : List ℕ) where
  pub same_key-ne : (a ≡ b → ⊥) → same_key a b ≡ false
  same_key-ne n = go (same_key a b) refl
    where
      go : (t : Bool) → same_key a b ≡ t → t ≡ false
      go true e = absurd (n (same_key-true a b e))
      go false e = refl

  pub same_key-false : same_key a b ≡ false → a ≡ b → ⊥
  same_key-false s e = clash (sym (same_key-eq a b e) ∙ s)

  -- each of below, same and above excludes the others
  pub key_lt-asym : key_lt a b ≡ true → key_lt b a ≡ false
  key_lt-asym p = go (key_lt b a) refl
    where
      go : (t : Bool) → key_lt b a ≡ t → t ≡ false
      go true q = absurd (clash (sym (key_lt-trans a b a p q) ∙ key_lt-irrefl a))
      go false q = refl

  pub key_lt-ne : key_lt a b ≡ true → a ≡ b → ⊥
  key_lt-ne p e = clash (sym p ∙ ap (λ (z : List ℕ). key_lt z b) e ∙ key_lt-irrefl b)

  pub key_lt-not-same : key_lt a b ≡ true → same_key a b ≡ false
  key_lt-not-same p = same_key-ne (key_lt-ne p)

  pub same-not-lt : a ≡ b → key_lt a b ≡ false
  same-not-lt e = ap (key_lt a) (sym e) ∙ key_lt-irrefl a

  -- neither below nor same is above
  pub not-below : key_lt a b ≡ false → same_key a b ≡ false → key_lt b a ≡ true
  not-below p q = go (stands a b)
    where
      go : Stands a b → key_lt b a ≡ true
      go (below l) = absurd (clash (sym l ∙ p))
      go (same e) = absurd (same_key-false q e)
      go (above g) = g

  -- the three answers of `order`, each from its case
  pub order_lt : key_lt a b ≡ true → order a b ≡ Less
  unfolding order
  order_lt p = simp p

  pub order-eq : a ≡ b → order a b ≡ Equal
  unfolding order
  order-eq e = simp (same-not-lt e, same_key-eq a b e)

pub order-gt : (a b : List ℕ) → key_lt b a ≡ true → order a b ≡ Greater
unfolding order
order-gt a b p = simp (key_lt-asym b a p, same_key-ne a b (λ e. key_lt-ne b a p (sym e)))

-- how a stands to b decides both tests
module _ (a b : List ℕ) where
  pub order-is_lt : is_lt (order a b) ≡ key_lt a b
  order-is_lt = go (stands a b)
    where
      go : Stands a b → is_lt (order a b) ≡ key_lt a b
      go (below p) = rw (order_lt a b p, p)
      go (same e) = rw (order-eq a b e, same-not-lt a b e)
      go (above p) = rw (order-gt a b p, key_lt-asym b a p)

  pub order-is_eq : is_eq (order a b) ≡ same_key a b
  order-is_eq = go (stands a b)
    where
      go : Stands a b → is_eq (order a b) ≡ same_key a b
      go (below p) = rw (order_lt a b p, key_lt-not-same a b p)
      go (same e) = rw (order-eq a b e, same_key-eq a b e)
      go (above p) = rw (order-gt a b p, same_key-ne a b (λ e. key_lt-ne b a p (sym e)))

-- not above
module _ (a b : List ℕ) where
  pub key_le-yes : key_lt b a ≡ false → key_le a b ≡ true
  unfolding key_le
  key_le-yes h = ap not h

  pub key_le-no : key_lt b a ≡ true → key_le a b ≡ false
  unfolding key_le
  key_le-no h = ap not h

  pub key_le-true : key_le a b ≡ true → key_lt b a ≡ false
  unfolding key_le
  key_le-true h = not-true (key_lt b a) h

  pub key_le-false : key_le a b ≡ false → key_lt b a ≡ true
  unfolding key_le
  key_le-false h = not-false (key_lt b a) h

  pub key_lt-le : key_lt a b ≡ true → key_le a b ≡ true
  key_lt-le h = key_le-yes (key_lt-asym a b h)

  pub key_le-antisym : key_le a b ≡ true → key_le b a ≡ true → a ≡ b
  unfolding key_le
  key_le-antisym p q = go (stands a b)
    where
      go : Stands a b → a ≡ b
      go (below l) = absurd (clash (sym l ∙ not-true (key_lt a b) q))
      go (same e) = e
      go (above g) = absurd (clash (sym g ∙ not-true (key_lt b a) p))

pub key_le-refl : (a : List ℕ) → key_le a a ≡ true
key_le-refl a = key_le-yes a a (key_lt-irrefl a)

module _ (a b c : List ℕ) where
  pub key_le-lt-trans : key_le a b ≡ true → key_lt b c ≡ true → key_lt a c ≡ true
  key_le-lt-trans p q = go (stands a b)
    where
      go : Stands a b → key_lt a c ≡ true
      go (below l) = key_lt-trans a b c l q
      go (same e) = ap (λ (z : List ℕ). key_lt z c) e ∙ q
      go (above g) = absurd (clash (sym g ∙ key_le-true a b p))

  pub key_lt-le-trans : key_lt a b ≡ true → key_le b c ≡ true → key_lt a c ≡ true
  key_lt-le-trans p q = go (stands b c)
    where
      go : Stands b c → key_lt a c ≡ true
      go (below l) = key_lt-trans a b c p l
      go (same e) = ap (key_lt a) (sym e) ∙ p
      go (above g) = absurd (clash (sym g ∙ key_le-true b c q))

pub key_le-trans : (a b c : List ℕ) → key_le a b ≡ true → key_le b c ≡ true → key_le a c ≡ true
key_le-trans a b c p q = go (key_lt c a) refl
  where
    go : (t : Bool) → key_lt c a ≡ t → key_le a c ≡ true
    go true g = absurd (clash (sym (key_lt-le-trans c a b g p) ∙ key_le-true b c q))
    go false g = key_le-yes a c g
