-- The search over a table's words is the search over its rows.
use mathlib.Core.Path.{◌≡◌, refl, ap, ◌∙◌}
use mathlib.Core.Bool.{Bool, true, false, cond}
use mathlib.Core.List.{List, [], ◌∷◌, ◌++◌, map}
use Prim.Native.Nat.{ℕ, suc, ◌+◌, ◌≤◌, ◌<◌}
use native.Mathlib.Omega.{arith}
use lib.ListN.{length, take, get_or}
use Rattle.words.specs.Keys.{key_lt, key_le, same_key}
use Rattle.table.specs.declared.Shape.{Shape}
use Rattle.table.specs.declared.Want.{Want}
use Rattle.table.specs.declared.Want.TheVariants.{Equal, NotBelow, Over}
use Rattle.table.specs.Tables.{count, first_where, wanted, fits, row_with, row_from, row_above}
use Rattle.table.specs.Rows.{encode}
use Rattle.table.proofs.Lists.{All}
use Rattle.table.proofs.Rows.{Each, key-at, count-encode}

module _ {A : Type 0} where
  -- the number of the first element that passes the test, else the length
  unfoldable pub first_in : (A → Bool) → List A → ℕ
  first_in p [] = 0
  first_in p (x ∷ xs) = cond (p x) 0 (suc (first_in p xs))

  -- no element passes the test
  abbrev pub None : (A → Bool) → List A → Type 0
  None p = All (λ x. p x ≡ false)

  -- the list, cut where the search stops
  pub data Found (p : A → Bool) (l : List A) (n : ℕ) : Type 0 where
    nowhere : n ≡ length l → None p l → Found p l n
    at : (xs : List A) (y : A) (ys : List A) → l ≡ xs ++ (y ∷ ys) → n ≡ length xs → None p xs → p y ≡ true → Found p l n

  pub found : (p : A → Bool) (l : List A) → Found p l (first_in p l)
  unfolding first_in
  found p [] = nowhere refl tt
  found p (x ∷ xs) = go (p x) refl (found p xs)
    where
      go : (t : Bool) → p x ≡ t → Found p xs (first_in p xs) → Found p (x ∷ xs) (cond t 0 (suc (first_in p xs)))
      go true e f = at [] x xs refl refl tt e
      go false e (nowhere n h) = nowhere (cc) (e, h)
      go false e (at bs y ys l n h k) = at (x ∷ bs) y ys (cc) (cc) (e, h) k

  -- and back: where the elements before fail and this one passes, the search stops
  pub first_in-at : (p : A → Bool) (xs : List A) (y : A) (ys : List A) → None p xs → p y ≡ true → first_in p (xs ++ (y ∷ ys)) ≡ length xs
  unfolding first_in
  first_in-at p [] y ys n h = rw h
  first_in-at p (x ∷ xs) y ys n h = rw (n.0, first_in-at p xs y ys n.1 h)

  pub first_in-none : (p : A → Bool) (xs : List A) → None p xs → first_in p xs ≡ length xs
  unfolding first_in
  first_in-none p [] n = refl
  first_in-none p (x ∷ xs) n = rw (n.0, first_in-none p xs n.1)

  pub first_in-same : (p q : A → Bool) (xs : List A) → All (λ x. p x ≡ q x) xs → first_in p xs ≡ first_in q xs
  unfolding first_in
  first_in-same p q [] h = refl
  first_in-same p q (x ∷ xs) h = rw (h.0, first_in-same p q xs h.1)

  -- a search by number that tests the elements is the search over them
  pub first_where-first_in : (d : A) (test : ℕ → Bool) (p : A → Bool) (l : List A) → ((i : ℕ) → i < length l → test i ≡ p (get_or l i d))
      → first_where test (length l) ≡ first_in p l
  unfolding first_where first_in
  first_where-first_in d test p [] h = refl
  first_where-first_in d test p (x ∷ xs) h = go (p x) (h 0 (omega arith)) (first_where-first_in d (λ i. test (suc i)) p xs (λ i k. h (suc i) (omega arith)))
    where
      go : (t : Bool) → test 0 ≡ t → first_where (λ i. test (suc i)) (length xs) ≡ first_in p xs
          → first_where test (suc (length xs)) ≡ cond t 0 (suc (first_in p xs))
      go true e r = rw (e, first_where)
      go false e r = rw (e, first_where) (ap suc r)

pub first_in-map : {A B : Type 0} (g : A → B) (q : B → Bool) (xs : List A) → first_in q (map g xs) ≡ first_in (λ x. q (g x)) xs
unfolding first_in
first_in-map g q [] = refl
first_in-map g q (x ∷ xs) = rw (first_in-map g q xs)

-- what a search wants, asked of the row's first words
abbrev pub wants : Want → ℕ → List ℕ → List ℕ → Bool
wants w width key r = wanted w key (take width r)

pub search-encode : (w : Want) (h : Shape) (front : List ℕ) → h.base ≡ length front → h.width ≤ h.stride → (key : List ℕ) (rows : List (List ℕ))
    → Each h.stride rows → (pad : List ℕ)
    → first_where (fits w h key (encode front rows pad)) (length rows) ≡ first_in (wants w h.width key) rows
unfolding fits
search-encode w h front eb kw key rows e pad =
    first_where-first_in [] (fits w h key (encode front rows pad)) (wants w h.width key) rows (λ i hi. ap (wanted w key) (key-at h front eb rows e pad i hi kw))

-- the three searches of a table with its count
module _ (h : Shape) (rest : List ℕ) (eb : h.base ≡ suc (length rest)) (kw : h.width ≤ h.stride) (key : List ℕ) (n : ℕ) (rows : List (List ℕ))
    (en : n ≡ length rows) (e : Each h.stride rows) (pad : List ℕ) where
  counted : (w : Want)
      → first_where (fits w h key (encode ((h.tag + n) ∷ rest) rows pad)) (count h (encode ((h.tag + n) ∷ rest) rows pad))
      ≡ first_in (wants w h.width key) rows
  counted w =
      ap (first_where (fits w h key (encode ((h.tag + n) ∷ rest) rows pad))) (count-encode h n rest rows pad ∙ en)
      ∙ search-encode w h ((h.tag + n) ∷ rest) eb kw key rows e pad

  pub with-encode : row_with h key (encode ((h.tag + n) ∷ rest) rows pad) ≡ first_in (λ r. same_key (take h.width r) key) rows
  with-encode = counted Equal

  pub from-encode : row_from h key (encode ((h.tag + n) ∷ rest) rows pad) ≡ first_in (λ r. key_le key (take h.width r)) rows
  from-encode = counted NotBelow

  pub above-encode : row_above h key (encode ((h.tag + n) ∷ rest) rows pad) ≡ first_in (λ r. key_lt key (take h.width r)) rows
  above-encode = counted Over
