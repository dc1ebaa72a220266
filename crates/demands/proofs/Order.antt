-- Ascending lists, over a number for each element's key. `Asc lo xs hi`: the keys ascend strictly, from lo on and below hi.
use Prim.Native.Nat.{ℕ, suc, ◌≤◌, ◌<◌}
use mathlib.Core.Bool.{Bool, true, false, cond}
use mathlib.Core.Path.{◌≡◌, refl, sym, ap, ◌∙◌, subst}
use mathlib.Core.List.{List, [], ◌∷◌, ◌++◌, append_assoc}
use native.Mathlib.Omega.{arith}
use native.Mathlib.Decide.{dec_lt}
use lib.Dec.{ltb}
use borrow.Author.Tests.{lt-ltb, le-ltb}

module _ {A : Type 0} (key : A → ℕ) where
  abbrev pub Asc : ℕ → List A → ℕ → Type 0
  Asc lo [] hi = lo ≤ hi
  Asc lo (x ∷ xs) hi = (lo ≤ key x) × Asc (suc (key x)) xs hi

  -- where a list that starts at lo ends
  abbrev pub after : ℕ → List A → ℕ
  after lo [] = lo
  after lo (x ∷ xs) = after (suc (key x)) xs

  pub asc-le : (lo : ℕ) (xs : List A) (hi : ℕ) → Asc lo xs hi → lo ≤ hi
  asc-le lo [] hi h = h
  asc-le lo (x ∷ xs) hi h = omega (arith, asc-le (suc (key x)) xs hi h.1)

  pub asc-wide : (lo lo' : ℕ) (xs : List A) (hi hi' : ℕ) → Asc lo xs hi → lo' ≤ lo → hi ≤ hi' → Asc lo' xs hi'
  asc-wide lo lo' [] hi hi' h p q = omega arith
  asc-wide lo lo' (x ∷ xs) hi hi' h p q = (omega arith, asc-wide (suc (key x)) (suc (key x)) xs hi hi' h.1 (omega arith) q)

  pub asc-append : (lo : ℕ) (xs : List A) (mid : ℕ) (ys : List A) (hi : ℕ) → Asc lo xs mid → Asc mid ys hi → Asc lo (xs ++ ys) hi
  asc-append lo [] mid ys hi p q = asc-wide mid lo ys hi hi q p (omega arith)
  asc-append lo (x ∷ xs) mid ys hi p q = (p.0, asc-append (suc (key x)) xs mid ys hi p.1 q)

  pub asc-left : (lo : ℕ) (xs ys : List A) (hi : ℕ) → Asc lo (xs ++ ys) hi → Asc lo xs (after lo xs)
  asc-left lo [] ys hi h = omega arith
  asc-left lo (x ∷ xs) ys hi h = (h.0, asc-left (suc (key x)) xs ys hi h.1)

  pub asc-right : (lo : ℕ) (xs ys : List A) (hi : ℕ) → Asc lo (xs ++ ys) hi → Asc (after lo xs) ys hi
  asc-right lo [] ys hi h = h
  asc-right lo (x ∷ xs) ys hi h = asc-right (suc (key x)) xs ys hi h.1

  pub after-snoc : (lo : ℕ) (xs : List A) (x : A) → after lo (xs ++ x ∷ []) ≡ suc (key x)
  after-snoc lo [] x = refl
  after-snoc lo (y ∷ ys) x = after-snoc (suc (key y)) ys x

  -- ---- the elements below a key, and the others

  unfoldable pub below : ℕ → List A → List A
  below k [] = []
  below k (x ∷ xs) = cond (ltb (key x) k) (x ∷ below k xs) []

  unfoldable pub from : ℕ → List A → List A
  from k [] = []
  from k (x ∷ xs) = cond (ltb (key x) k) (from k xs) (x ∷ xs)

  pub below-from : (k : ℕ) (xs : List A) → below k xs ++ from k xs ≡ xs
  unfolding below from
  below-from k [] = refl
  below-from k (x ∷ xs) = go (ltb (key x) k) (below-from k xs)
    where
      go : (t : Bool) → below k xs ++ from k xs ≡ xs → cond t (x ∷ below k xs) [] ++ cond t (from k xs) (x ∷ xs) ≡ x ∷ xs
      go true e = ap (λ l. x ∷ l) e
      go false e = refl

  -- the cut is where an ascending list passes the key
  pub from-above : (k : ℕ) (ys : List A) (hi : ℕ) → Asc k ys hi → from k ys ≡ ys
  unfolding from
  from-above k [] hi h = refl
  from-above k (y ∷ ys) hi h = rw (le-ltb (key y) k h.0)

  pub from_at : (lo : ℕ) (xs : List A) (k : ℕ) (ys : List A) (hi : ℕ) → Asc lo xs k → Asc k ys hi → from k (xs ++ ys) ≡ ys
  unfolding from
  from_at lo [] k ys hi p q = from-above k ys hi q
  from_at lo (x ∷ xs) k ys hi p q = rw (lt-ltb (key x) k (asc-le (suc (key x)) xs k p.1)) (from_at (suc (key x)) xs k ys hi p.1 q)

  pub below-above : (k : ℕ) (ys : List A) (hi : ℕ) → Asc k ys hi → below k ys ≡ []
  unfolding below
  below-above k [] hi h = refl
  below-above k (y ∷ ys) hi h = rw (le-ltb (key y) k h.0)

  pub below_at : (lo : ℕ) (xs : List A) (k : ℕ) (ys : List A) (hi : ℕ) → Asc lo xs k → Asc k ys hi → below k (xs ++ ys) ≡ xs
  unfolding below
  below_at lo [] k ys hi p q = below-above k ys hi q
  below_at lo (x ∷ xs) k ys hi p q = rw (lt-ltb (key x) k (asc-le (suc (key x)) xs k p.1), below_at (suc (key x)) xs k ys hi p.1 q)

  pub asc-below : (lo k : ℕ) (xs : List A) (hi : ℕ) → Asc lo xs hi → lo ≤ k → Asc lo (below k xs) k
  unfolding below
  asc-below lo k [] hi h l = l
  asc-below lo k (x ∷ xs) hi h l = go (dec_lt (key x) k) (asc-below (suc (key x)) k xs hi h.1)
    where
      go : Dec (key x < k) → (suc (key x) ≤ k → Asc (suc (key x)) (below k xs) k) → Asc lo (below k (x ∷ xs)) k
      go (yes p) r = rw (lt-ltb (key x) k p) (h.0, r p)
      go (no n) r = rw (le-ltb (key x) k (omega arith)) l

  pub asc-from : (lo k : ℕ) (xs : List A) (hi : ℕ) → Asc lo xs hi → k ≤ hi → Asc k (from k xs) hi
  unfolding from
  asc-from lo k [] hi h l = l
  asc-from lo k (x ∷ xs) hi h l = go (dec_lt (key x) k) (asc-from (suc (key x)) k xs hi h.1 l)
    where
      go : Dec (key x < k) → Asc k (from k xs) hi → Asc k (from k (x ∷ xs)) hi
      go (yes p) r = rw (lt-ltb (key x) k p) r
      go (no n) r = rw (le-ltb (key x) k (omega arith)) (omega arith, h.1)

  pub below-front : (lo : ℕ) (xs : List A) (mid : ℕ) (ys : List A) (hi k : ℕ) → Asc lo xs mid → Asc mid ys hi → lo ≤ k → k ≤ mid
      → below k (xs ++ ys) ≡ below k xs
  below-front lo xs mid ys hi k p q l h =
      ap (λ (z : List A). below k (z ++ ys)) (sym (below-from k xs)) ∙ ap (below k) (append_assoc (below k xs) (from k xs) ys)
      ∙ below_at lo (below k xs) k (from k xs ++ ys) hi (asc-below lo k xs mid p l) (asc-append k (from k xs) mid ys hi (asc-from lo k xs mid p h) q)

  -- ---- the contents' operations

  unfoldable pub ins : A → List A → List A
  ins r xs = below (key r) xs ++ r ∷ from (key r) xs

  unfoldable pub del : ℕ → List A → List A
  del k xs = below k xs ++ from (suc k) xs

  unfoldable pub upd : A → List A → List A
  upd r xs = below (key r) xs ++ r ∷ from (suc (key r)) xs

  -- the element with key k, or none
  unfoldable pub hit : ℕ → List A → List A
  hit k xs = below (suc k) (from k xs)

  pub asc-ins : (lo : ℕ) (r : A) (xs : List A) (hi : ℕ) → Asc lo xs hi → lo ≤ key r → key r < hi → hit (key r) xs ≡ [] → Asc lo (ins r xs) hi
  unfolding ins hit
  asc-ins lo r xs hi h l u none =
      let k : ℕ = key r in
      let f : Asc k (from k xs) hi = asc-from lo k xs hi h (omega arith) in
      let g : from (suc k) (from k xs) ≡ from k xs = subst (λ (b : List A). b ++ from (suc k) (from k xs) ≡ from k xs) none (below-from (suc k) (from k xs)) in
      asc-append lo (below k xs) k (r ∷ from k xs) hi (asc-below lo k xs hi h l)
      (omega arith, subst (λ (z : List A). Asc (suc k) z hi) g (asc-from k (suc k) (from k xs) hi f u))

  pub asc-del : (lo k : ℕ) (xs : List A) (hi : ℕ) → Asc lo xs hi → lo ≤ k → k < hi → Asc lo (del k xs) hi
  unfolding del
  asc-del lo k xs hi h l u =
      asc-append lo (below k xs) (suc k) (from (suc k) xs) hi (asc-wide lo lo (below k xs) k (suc k) (asc-below lo k xs hi h l) (omega arith) (omega arith))
      (asc-from lo (suc k) xs hi h u)

  pub asc-upd : (lo : ℕ) (r : A) (xs : List A) (hi : ℕ) → Asc lo xs hi → lo ≤ key r → key r < hi → Asc lo (upd r xs) hi
  unfolding upd
  asc-upd lo r xs hi h l u =
      asc-append lo (below (key r) xs) (key r) (r ∷ from (suc (key r)) xs) hi (asc-below lo (key r) xs hi h l)
      (omega arith, asc-from lo (suc (key r)) xs hi h u)

  -- a part of the list that covers a key decides what is done at that key
  module _ (cp rows cq : List A) (lo hi top : ℕ) (hp : Asc 0 cp lo) (hr : Asc lo rows hi) (hq : Asc hi cq top) where
    module _ (k : ℕ) (l : lo ≤ k) (h : k ≤ hi) where
      cut : cp ++ (rows ++ cq) ≡ (cp ++ below k rows) ++ (from k rows ++ cq)
      cut = ap (λ (r : List A). cp ++ (r ++ cq)) (sym (below-from k rows)) ∙ simp append_assoc

      front : Asc 0 (cp ++ below k rows) k
      front = asc-append 0 cp lo (below k rows) k hp (asc-below lo k rows hi hr l)

      back : Asc k (from k rows ++ cq) top
      back = asc-append k (from k rows) hi cq top (asc-from lo k rows hi hr h) hq

      pub below-local : below k (cp ++ (rows ++ cq)) ≡ cp ++ below k rows
      below-local = rw cut (below_at 0 (cp ++ below k rows) k (from k rows ++ cq) top front back)

      pub from-local : from k (cp ++ (rows ++ cq)) ≡ from k rows ++ cq
      from-local = rw cut (from_at 0 (cp ++ below k rows) k (from k rows ++ cq) top front back)

    pub ins-local : (r : A) → lo ≤ key r → key r < hi → ins r (cp ++ (rows ++ cq)) ≡ cp ++ (ins r rows ++ cq)
    unfolding ins
    ins-local r l h = rw (below-local (key r) l (omega arith), from-local (key r) l (omega arith)) (simp append_assoc)

    pub upd-local : (r : A) → lo ≤ key r → key r < hi → upd r (cp ++ (rows ++ cq)) ≡ cp ++ (upd r rows ++ cq)
    unfolding upd
    upd-local r l h = rw (below-local (key r) l (omega arith), from-local (suc (key r)) (omega arith) h) (simp append_assoc)

    pub del-local : (k : ℕ) → lo ≤ k → k < hi → del k (cp ++ (rows ++ cq)) ≡ cp ++ (del k rows ++ cq)
    unfolding del
    del-local k l h = rw (below-local k l (omega arith), from-local (suc k) (omega arith) h) (simp append_assoc)

    pub hit-local : (k : ℕ) → lo ≤ k → k < hi → hit k (cp ++ (rows ++ cq)) ≡ hit k rows
    unfolding hit
    hit-local k l h =
        rw (from-local k l (omega arith)) (below-front k (from k rows) hi cq top (suc k) (asc-from lo k rows hi hr (omega arith)) hq (omega arith) h)
