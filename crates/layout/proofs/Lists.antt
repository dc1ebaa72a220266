-- Laws of lists: what holds of each in a list, the last of a list, how often a block stands in one, words that are all the same.
use Prim.Native.Nat.{ℕ, zero, suc, ◌+◌, ◌*◌, ◌-◌, ◌≤◌, ◌<◌}
use mathlib.Core.Path.{◌≡◌, refl, sym, ap, ◌∙◌}
use mathlib.Core.List.{List, [], ◌∷◌, ◌++◌, append_assoc, flatten}
use mathlib.Core.Bool.{true, not}
use native.Mathlib.Omega.{arith}
use native.Mathlib.Nat.{not-suc-le-zero, zero-mul}
use lib.Dec.{eqb}
use lib.ListN.{length, get_or, drop, length-append, length-drop}
use lib.Seq.{take_all}
use borrow.Author.Tests.{eq-eqb, ne_eqb, not-true}
use Rattle.words.specs.Words.{part, all_are, none_is, zeros}
use Rattle.words.proofs.Parts.{part-all, part-append-low, part-append-high}
use Rattle.words.proofs.Keys.{clash}
use Rattle.words.proofs.All.{and_both}
use Rattle.layout.specs.Tree.{Leaf, last_in, bound_of, records_in, leaf_blocks}
use Rattle.layout.specs.Holds.{All}
use Rattle.layout.proofs.Good.{row_more}

-- each in a list
module _ {A : Type 0} (P : A → Type 0) where
  pub all_append : (xs ys : List A) → All P xs → All P ys → All P (xs ++ ys)
  unfolding All
  all_append [] ys h k = k
  all_append (x ∷ xs) ys (a, h) k = (a, all_append xs ys h k)

  pub all_left : (xs ys : List A) → All P (xs ++ ys) → All P xs
  unfolding All
  all_left [] ys h = tt
  all_left (x ∷ xs) ys (a, h) = (a, all_left xs ys h)

  pub all_right : (xs ys : List A) → All P (xs ++ ys) → All P ys
  unfolding All
  all_right [] ys h = h
  all_right (x ∷ xs) ys (a, h) = all_right xs ys h

pub all_blocks : (P : ℕ → Type 0) (ls : List Leaf) → All P (leaf_blocks ls) → All (λ (l : Leaf). P l.block) ls
unfolding All leaf_blocks
all_blocks P [] h = tt
all_blocks P (l ∷ ls) (a, h) = (a, all_blocks P ls h)

-- two joined lists that are the same, the first parts of one length
pub append-parts : (xs ys us vs : List ℕ) → length xs ≡ length ys → xs ++ us ≡ ys ++ vs → (xs ≡ ys) × (us ≡ vs)
append-parts [] [] us vs l e = (refl, e)
append-parts [] (y ∷ ys) us vs l e = absurd (omega arith)
append-parts (x ∷ xs) [] us vs l e = absurd (omega arith)
append-parts (x ∷ xs) (y ∷ ys) us vs l e =
    let q : xs ++ us ≡ ys ++ vs = cc in
    let h : x ≡ y = cc in
    let (a, b) = append-parts xs ys us vs (omega arith) q in
    (cc, b)

-- rows of one width, side by side
pub length-flatten : (stride : ℕ) (rows : List (List ℕ)) → All (λ r. length r ≡ stride) rows → length (flatten rows) ≡ length rows * stride
unfolding flatten All
length-flatten stride [] h = rw zero-mul
length-flatten stride (r ∷ rows) (e, h) =
    rw (length-append r (flatten rows), row_more (length rows) stride, length-flatten stride rows h, e)

-- the last of a list
pub last-right : (xs ys : List (List ℕ)) → 1 ≤ length ys → last_in (xs ++ ys) ≡ last_in ys
unfolding last_in
last-right [] ys h = refl
last-right (x ∷ []) [] h = absurd (not-suc-le-zero h)
last-right (x ∷ []) (y ∷ ys) h = refl
last-right (x ∷ z ∷ xs) ys h = last-right (z ∷ xs) ys h

pub bound-right : (xs ys : List Leaf) → 1 ≤ length ys → bound_of (xs ++ ys) ≡ bound_of ys
unfolding bound_of
bound-right [] ys h = refl
bound-right (x ∷ []) [] h = absurd (not-suc-le-zero h)
bound-right (x ∷ []) (y ∷ ys) h = refl
bound-right (x ∷ z ∷ xs) ys h = bound-right (z ∷ xs) ys h

pub records-append : (xs ys : List Leaf) → records_in (xs ++ ys) ≡ records_in xs ++ records_in ys
unfolding records_in
records-append [] ys = refl
records-append (x ∷ xs) ys = rw (records-append xs ys) (sym (append_assoc x.records (records_in xs) (records_in ys)))

-- the words from place a on
pub part-rest : (a : ℕ) (f : List ℕ) → part a (length f - a) f ≡ drop a f
unfolding part
part-rest a f = take_all (length f - a) (drop a f) (rw (length-drop a f) (omega arith))

-- parts of two joined lists, the first of w words
pub part-behind : (x y : List ℕ) (w a n : ℕ) → length x ≡ w → part (w + a) n (x ++ y) ≡ part a n y
part-behind x y w a n e = ap (λ (m : ℕ). part (m + a) n (x ++ y)) (sym e) ∙ part-append-high a n x y

pub part-first : (x y : List ℕ) (w : ℕ) → length x ≡ w → part 0 w (x ++ y) ≡ x
part-first x y w e = part-append-low 0 w x y (omega arith) ∙ part-all w x e

-- words by their places
pub none-at : (x : ℕ) (l : List ℕ) (i : ℕ) → none_is x l ≡ true → i < length l → get_or l i 0 ≡ x → ⊥
unfolding none_is
none-at x [] i e h q = not-suc-le-zero h
none-at x (y ∷ l) zero e h q = clash (sym (eq-eqb y x q) ∙ not-true (eqb y x) (and_both (not (eqb y x)) (none_is x l) e).0)
none-at x (y ∷ l) (suc i) e h q = none-at x l i (and_both (not (eqb y x)) (none_is x l) e).1 (omega arith) q

pub none_from : (x : ℕ) (l : List ℕ) → ((i : ℕ) → i < length l → get_or l i 0 ≡ x → ⊥) → none_is x l ≡ true
unfolding none_is
none_from x [] h = refl
none_from x (y ∷ l) h = simp (ne_eqb y x (h 0 (omega arith)), none_from x l (λ i k. h (suc i) (omega arith)))

pub all_from : (x : ℕ) (l : List ℕ) → ((i : ℕ) → i < length l → get_or l i 0 ≡ x) → all_are x l ≡ true
unfolding all_are
all_from x [] h = refl
all_from x (y ∷ l) h = simp (eq-eqb y x (h 0 (omega arith)), all_from x l (λ i k. h (suc i) (omega arith)))

pub all_none : (x : ℕ) → all_are x [] ≡ true
unfolding all_are
all_none x = refl

pub get_or-zeros : (n i : ℕ) → get_or (zeros n) i 0 ≡ 0
get_or-zeros zero i = refl
get_or-zeros (suc n) zero = refl
get_or-zeros (suc n) (suc i) = get_or-zeros n i
