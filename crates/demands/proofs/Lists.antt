-- Lists: each element (the words of table's rows), a list cut in two, a list from its end.
use Prim.Native.Nat.{ℕ}
use mathlib.Core.Logic.{◌⊎◌, inl, inr}
use mathlib.Core.Path.{◌≡◌, refl, ap, ap₂}
use mathlib.Core.List.{List, [], ◌∷◌, ◌++◌}
use native.Mathlib.Omega.{arith}
use lib.ListN.{length}
pub use Rattle.table.proofs.Lists.{All, all_append, all_left, all_right, all_middle, map-append}

-- an element of a list that is cut in two is in one of the parts
pub which : {A : Type 0} (xs : List A) (y : A) (ys us vs : List A) → us ++ vs ≡ xs ++ y ∷ ys
    → ((h : List A) × (us ≡ xs ++ y ∷ h)) ⊎ ((m : List A) × (vs ≡ m ++ y ∷ ys))
which xs y ys [] vs e = inr (xs, e)
which [] y ys (u ∷ us) vs e = inl (us, let q : u ≡ y = cc in ap (λ z. z ∷ us) q)
which (x ∷ xs) y ys (u ∷ us) vs e = go (which xs y ys us vs (let q : us ++ vs ≡ xs ++ y ∷ ys = cc in q))
  where
    go : ((h : _) × (us ≡ xs ++ y ∷ h)) ⊎ ((m : _) × (vs ≡ m ++ y ∷ ys)) → ((h : _) × (u ∷ us ≡ x ∷ (xs ++ y ∷ h))) ⊎ ((m : _) × (vs ≡ m ++ y ∷ ys))
    go (inl (h, q)) = inl (h, let z : u ≡ x = cc in cc)
    go (inr (m, q)) = inr (m, q)

-- a list from its end
pub from_end : {A : Type 0} (ls : List A) → (ls ≡ []) ⊎ ((xs : List A) × (y : A) × (ls ≡ xs ++ y ∷ []))
from_end [] = inl refl
from_end (x ∷ xs) = go (from_end xs)
  where
    go : (xs ≡ []) ⊎ ((ys : List _) × (y : _) × (xs ≡ ys ++ y ∷ [])) → (x ∷ xs ≡ []) ⊎ ((ys : List _) × (y : _) × (x ∷ xs ≡ ys ++ y ∷ []))
    go (inl e) = inr ([], x, ap (λ l. x ∷ l) e)
    go (inr (ys, y, e)) = inr (x ∷ ys, y, ap (λ l. x ∷ l) e)

-- two lists that are one list have one last element
pub last-same : {A : Type 0} (xs : List A) (x : A) (ys : List A) (y : A) → xs ++ x ∷ [] ≡ ys ++ y ∷ [] → x ≡ y
last-same [] x [] y e = cc
last-same [] x (b ∷ []) y e = absurd (let z : ◌≡◌ {A = ℕ} 1 2 = ap length e in omega arith)
last-same [] x (b ∷ (c ∷ ys)) y e = absurd (let z : 1 ≡ length (b ∷ (c ∷ (ys ++ y ∷ []))) = ap length e in omega arith)
last-same (a ∷ []) x [] y e = absurd (let z : ◌≡◌ {A = ℕ} 2 1 = ap length e in omega arith)
last-same (a ∷ (c ∷ xs)) x [] y e = absurd (let z : length (a ∷ (c ∷ (xs ++ x ∷ []))) ≡ 1 = ap length e in omega arith)
last-same (a ∷ xs) x (b ∷ ys) y e = last-same xs x ys y (let q : xs ++ x ∷ [] ≡ ys ++ y ∷ [] = cc in q)

-- and one list before it
pub front_same : {A : Type 0} (xs : List A) (x : A) (ys : List A) (y : A) → xs ++ x ∷ [] ≡ ys ++ y ∷ [] → xs ≡ ys
front_same [] x [] y e = refl
front_same [] x (b ∷ []) y e = absurd (let z : ◌≡◌ {A = ℕ} 1 2 = ap length e in omega arith)
front_same [] x (b ∷ (c ∷ ys)) y e = absurd (let z : 1 ≡ length (b ∷ (c ∷ (ys ++ y ∷ []))) = ap length e in omega arith)
front_same (a ∷ []) x [] y e = absurd (let z : ◌≡◌ {A = ℕ} 2 1 = ap length e in omega arith)
front_same (a ∷ (c ∷ xs)) x [] y e = absurd (let z : length (a ∷ (c ∷ (xs ++ x ∷ []))) ≡ 1 = ap length e in omega arith)
front_same (a ∷ xs) x (b ∷ ys) y e =
    let q : xs ≡ ys = front_same xs x ys y (let q : xs ++ x ∷ [] ≡ ys ++ y ∷ [] = cc in q) in
    let z : a ≡ b = cc in
    ap₂ (λ u us. u ∷ us) z q
