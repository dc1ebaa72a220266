-- One predicate for "each element": rows of one length, tests that fail.
use mathlib.Core.List.{List, [], ◌∷◌, ◌++◌, map}
use mathlib.Core.Path.{◌≡◌, refl, ap}

module _ {A : Type 0} where
  abbrev pub All : (A → Type 0) → List A → Type 0
  All P [] = Unit {0}
  All P (x ∷ xs) = P x × All P xs

  module _ (P : A → Type 0) where
    pub all_append : (xs ys : List A) → All P xs → All P ys → All P (xs ++ ys)
    all_append [] ys p q = q
    all_append (x ∷ xs) ys p q = (p.0, all_append xs ys p.1 q)

    pub all_left : (xs ys : List A) → All P (xs ++ ys) → All P xs
    all_left [] ys p = tt
    all_left (x ∷ xs) ys p = (p.0, all_left xs ys p.1)

    pub all_right : (xs ys : List A) → All P (xs ++ ys) → All P ys
    all_right [] ys p = p
    all_right (x ∷ xs) ys p = all_right xs ys p.1

    pub all_middle : (xs : List A) (y : A) (ys : List A) → All P (xs ++ y ∷ ys) → All P (y ∷ (xs ++ ys))
    all_middle xs y ys h = ((all_right xs (y ∷ ys) h).0, all_append xs ys (all_left xs (y ∷ ys) h) (all_right xs (y ∷ ys) h).1)

pub map-append : {A B : Type 0} (f : A → B) (xs ys : List A) → map f (xs ++ ys) ≡ map f xs ++ map f ys
map-append f [] ys = refl
map-append f (x ∷ xs) ys = ap (λ l. f x ∷ l) (map-append f xs ys)
