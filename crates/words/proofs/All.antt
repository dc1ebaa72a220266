-- Laws of tests of every word: each is x, each is a word; and of ONES.
use Prim.Native.Nat.{ℕ, zero, suc, ◌+◌, ◌-◌, ◌≤◌, ◌<◌}
use mathlib.Core.Bool.{Bool, true, false, ◌&&◌}
use mathlib.Core.Path.{◌≡◌, refl, sym, ap, ◌∙◌}
use mathlib.Core.List.{List, [], ◌∷◌, ◌++◌}
use native.Mathlib.Omega.{arith}
use lib.Dec.{leb, eqb}
use lib.ListN.{length, take, drop, get_or, set, replicate}
use borrow.Author.Tests.{leb-true, eqb-true, le-leb, eq-eqb}
use Rattle.std.specs.List.{list_all}
use Rattle.words.specs.Words.{part, put, top_word, all_are, all_words}
use Rattle.words.specs.Keys.{ones, is_ones, key_lt}
use Rattle.words.proofs.Keys.{clash, Tri, lt, eq, gt, tri, Stands, below, same, above, stands, key_lt-over, key_lt-tail}

-- both of two tests, or one and then the other
pub and_both : (s t : Bool) → (s && t) ≡ true → (s ≡ true) × (t ≡ true)
and_both true t h = (refl, h)
and_both false t h = absurd (clash (sym h))

pub both-and : (s t : Bool) → s ≡ true → t ≡ true → (s && t) ≡ true
both-and s t p q = rw (p, q)

and_assoc : (r s t : Bool) → (r && (s && t)) ≡ ((r && s) && t)
and_assoc true s t = refl
and_assoc false s t = refl

-- the two tests as those that the library makes of every word of a range
all_are-listed : (x : ℕ) (l : List ℕ) → list_all (λ y. eqb y x) l ≡ all_are x l
unfolding all_are
all_are-listed x [] = refl
all_are-listed x (y ∷ l) = ap (λ (t : Bool). eqb y x && t) (all_are-listed x l)

all_words-listed : (l : List ℕ) → list_all (λ x. leb x top_word) l ≡ all_words l
unfolding all_words
all_words-listed [] = refl
all_words-listed (x ∷ l) = ap (λ (t : Bool). leb x top_word && t) (all_words-listed l)

module _ (a n : ℕ) (t : List ℕ) where
  pub all_are-range : (x : ℕ) → list_all (λ y. eqb y x) (take (a + n - a) (drop a t)) ≡ all_are x (part a n t)
  unfolding part
  all_are-range x = let e : a + n - a ≡ n = omega arith in rw e (all_are-listed x (part a n t))

  pub all_words-range : list_all (λ x. leb x top_word) (take (a + n - a) (drop a t)) ≡ all_words (part a n t)
  unfolding part
  all_words-range = let e : a + n - a ≡ n = omega arith in rw e (all_words-listed (part a n t))

-- each word is x
pub all_are-append : (x : ℕ) (l r : List ℕ) → all_are x (l ++ r) ≡ (all_are x l && all_are x r)
unfolding all_are
all_are-append x [] r = refl
all_are-append x (y ∷ l) r = ap (λ (t : Bool). eqb y x && t) (all_are-append x l r) ∙ and_assoc (eqb y x) (all_are x l) (all_are x r)

pub all_are-replicate : (n x : ℕ) → all_are x (replicate n x) ≡ true
unfolding all_are
all_are-replicate zero x = refl
all_are-replicate (suc n) x = rw (eq-eqb x x refl, all_are-replicate n x)

pub all_are-true : (x : ℕ) (l : List ℕ) → all_are x l ≡ true → l ≡ replicate (length l) x
unfolding all_are
all_are-true x [] h = refl
all_are-true x (y ∷ l) h =
    let b = and_both (eqb y x) (all_are x l) h in
    let e : y ≡ x = eqb-true y x b.0 in
    let r : l ≡ replicate (length l) x = all_are-true x l b.1 in
    λ i. e i ∷ r i

pub all_are-get_or : (x : ℕ) (l : List ℕ) (i : ℕ) → all_are x l ≡ true → i < length l → get_or l i 0 ≡ x
unfolding all_are
all_are-get_or x [] i h k = absurd (omega arith)
all_are-get_or x (y ∷ l) zero h k = eqb-true y x (and_both (eqb y x) (all_are x l) h).0
all_are-get_or x (y ∷ l) (suc i) h k = all_are-get_or x l i (and_both (eqb y x) (all_are x l) h).1 (omega arith)

-- the key ONES, and no other of its length, is ones
pub is_ones-ones : (k : ℕ) → is_ones (ones k) ≡ true
unfolding is_ones
is_ones-ones k = all_are-replicate k top_word

pub is_ones-true : (k : ℕ) (key : List ℕ) → length key ≡ k → is_ones key ≡ true → key ≡ ones k
unfolding is_ones
is_ones-true k key e h = all_are-true top_word key h ∙ ap (λ (n : ℕ). replicate n top_word) e

pub is_ones-eq : (k : ℕ) (key : List ℕ) → key ≡ ones k → is_ones key ≡ true
is_ones-eq k key e = ap is_ones e ∙ is_ones-ones k

pub is_ones-ne : (k : ℕ) (key : List ℕ) → length key ≡ k → (key ≡ ones k → ⊥) → is_ones key ≡ false
is_ones-ne k key e n = go (is_ones key) refl
  where
    go : (t : Bool) → is_ones key ≡ t → t ≡ false
    go true h = absurd (n (is_ones-true k key e h))
    go false h = refl

-- none is above 262143
pub all_words-cons : (x : ℕ) (l : List ℕ) → all_words (x ∷ l) ≡ true → (x ≤ top_word) × (all_words l ≡ true)
unfolding all_words
all_words-cons x l h =
    let b = and_both (leb x top_word) (all_words l) h in
    (leb-true x top_word b.0, b.1)

pub cons-all_words : (x : ℕ) (l : List ℕ) → x ≤ top_word → all_words l ≡ true → all_words (x ∷ l) ≡ true
unfolding all_words
cons-all_words x l h k = both-and (leb x top_word) (all_words l) (le-leb x top_word h) k

pub all_words-append : (l r : List ℕ) → all_words (l ++ r) ≡ (all_words l && all_words r)
unfolding all_words
all_words-append [] r = refl
all_words-append (x ∷ l) r = ap (λ (t : Bool). leb x top_word && t) (all_words-append l r) ∙ and_assoc (leb x top_word) (all_words l) (all_words r)

pub append-all_words : (l r : List ℕ) → all_words l ≡ true → all_words r ≡ true → all_words (l ++ r) ≡ true
append-all_words l r p q = all_words-append l r ∙ both-and (all_words l) (all_words r) p q

pub all_words-none : all_words [] ≡ true
unfolding all_words
all_words-none = refl

pub all_words-take : (n : ℕ) (l : List ℕ) → all_words l ≡ true → all_words (take n l) ≡ true
all_words-take zero l h = all_words-none
all_words-take (suc n) [] h = h
all_words-take (suc n) (x ∷ l) h =
    let b = all_words-cons x l h in
    cons-all_words x (take n l) b.0 (all_words-take n l b.1)

pub all_words-drop : (n : ℕ) (l : List ℕ) → all_words l ≡ true → all_words (drop n l) ≡ true
all_words-drop zero l h = h
all_words-drop (suc n) [] h = h
all_words-drop (suc n) (x ∷ l) h = all_words-drop n l (all_words-cons x l h).1

pub all_words-part : (a n : ℕ) (l : List ℕ) → all_words l ≡ true → all_words (part a n l) ≡ true
unfolding part
all_words-part a n l h = all_words-take n (drop a l) (all_words-drop a l h)

pub all_words-put : (l : List ℕ) (a : ℕ) (s : List ℕ) → all_words l ≡ true → all_words s ≡ true → all_words (put l a s) ≡ true
unfolding put
all_words-put l a s h k = append-all_words (take a l ++ s) (drop (a + length s) l) (append-all_words (take a l) s (all_words-take a l h) k) (all_words-drop (a + length s) l h)

pub all_words-set : (l : List ℕ) (i x : ℕ) → all_words l ≡ true → x ≤ top_word → all_words (set l i x) ≡ true
all_words-set [] i x h k = h
all_words-set (y ∷ l) zero x h k = cons-all_words x l k (all_words-cons y l h).1
all_words-set (y ∷ l) (suc i) x h k =
    let b = all_words-cons y l h in
    cons-all_words y (set l i x) b.0 (all_words-set l i x b.1 k)

pub all_words-replicate : (n x : ℕ) → x ≤ top_word → all_words (replicate n x) ≡ true
all_words-replicate zero x h = all_words-none
all_words-replicate (suc n) x h = cons-all_words x (replicate n x) h (all_words-replicate n x h)

pub all_words-get_or : (l : List ℕ) (i : ℕ) → all_words l ≡ true → get_or l i 0 ≤ top_word
all_words-get_or [] i h = omega arith
all_words-get_or (x ∷ l) zero h = (all_words-cons x l h).0
all_words-get_or (x ∷ l) (suc i) h = all_words-get_or l i (all_words-cons x l h).1

-- no key of words is above ONES, and each other one of its length is below
pub ones-top : (k : ℕ) (key : List ℕ) → length key ≡ k → all_words key ≡ true → key_lt (ones k) key ≡ false
unfolding key_lt
ones-top zero [] e h = refl
ones-top zero (x ∷ key) e h = absurd (omega arith)
ones-top (suc k) [] e h = absurd (omega arith)
ones-top (suc k) (x ∷ key) e h = go (tri top_word x) (ones-top k key (omega arith) (all_words-cons x key h).1)
  where
    go : Tri top_word x → key_lt (ones k) key ≡ false → key_lt (top_word ∷ ones k) (x ∷ key) ≡ false
    go (lt l) r = absurd (omega (arith, all_words-cons x key h))
    go (eq q) r = key_lt-tail top_word x (ones k) key q ∙ r
    go (gt g) r = key_lt-over top_word x (ones k) key g

pub below-ones : (k : ℕ) (key : List ℕ) → length key ≡ k → all_words key ≡ true → is_ones key ≡ false → key_lt key (ones k) ≡ true
below-ones k key e h n = go (stands key (ones k))
  where
    go : Stands key (ones k) → key_lt key (ones k) ≡ true
    go (below p) = p
    go (same q) = absurd (clash (sym (is_ones-eq k key q) ∙ n))
    go (above g) = absurd (clash (sym g ∙ ones-top k key e h))
