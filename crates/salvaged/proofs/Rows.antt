-- The records that are taken: as long as a record, no word above 262143; and lists of them.
use mathlib.Core.Path.{◌≡◌, refl, sym, ap, ◌∙◌}
use mathlib.Core.Bool.{Bool, true, false, cond}
use mathlib.Core.List.{List, [], ◌∷◌, ◌++◌}
use Prim.Native.Nat.{ℕ, zero, suc, ◌+◌, ◌*◌, ◌≤◌}
use native.Mathlib.Nat.{mul-le-mul_right}
use native.Mathlib.Omega.{arith}
use borrow.Author.Tests.{eqb-true}
use lib.Dec.{eqb}
use lib.ListN.{length}
use Rattle.words.specs.Words.{part, all_words}
use Rattle.words.specs.Keys.{is_ones}
use Rattle.words.proofs.All.{and_both, all_words-append}
use Rattle.words.proofs.Parts.{length_part, part-add}
use Rattle.drum.specs.declared.Description.{Description}
use Rattle.drum.specs.Params.{D, good_params, file_size}
use Rattle.drum.specs.Blocks.{block_at}
use Rattle.drum.proofs.Good.{caps}
use Rattle.drum.proofs.Blocks.{length-block}
use Rattle.layout.specs.Holds.{All}
use Rattle.rules.specs.State.{key_in}
use Rattle.salvage.specs.Met.{Met, over, found, count_in, rows_from, records_in, missed, places, met_in, met_from, met}
use Rattle.salvage.proofs.Tests.{range-facts, whole}
use Rattle.salvaged.specs.Spots.{Spot, spots, rows_of, Lent}

-- ---- lists

pub all_both : {A : Type 0} (P : A → Type 0) (xs ys : List A) → All P xs → All P ys → All P (xs ++ ys)
unfolding All
all_both P [] ys a b = b
all_both P (x ∷ xs) ys a b = (a.0, all_both P xs ys a.1 b)

pub all-at : {A : Type 0} (P : A → Type 0) (xs : List A) (x : A) (ys : List A) → All P (xs ++ x ∷ ys) → P x × All P ys
unfolding All
all-at P [] x ys a = a
all-at P (z ∷ xs) x ys a = all-at P xs x ys a.1

pub all_rest : {A : Type 0} (P : A → Type 0) (x : A) (xs : List A) → All P (x ∷ xs) → P x × All P xs
unfolding All
all_rest P x xs a = a

pub rows_append : (xs ys : List Spot) → rows_of (xs ++ ys) ≡ rows_of xs ++ rows_of ys
rows_append [] ys = refl
rows_append (x ∷ xs) ys = ap (λ (l : List (List ℕ)). x.row ∷ l) (rows_append xs ys)

-- ---- what is taken

-- a record that NSERT can be lent
abbrev pub Wide : Description → List ℕ → Type 0
Wide p r = (length r ≡ p.wpr) × (all_words r ≡ true)

-- and an ordinary one
abbrev pub Fit : Description → Spot → Type 0
Fit p s = Wide p s.row × (is_ones (key_in p s.row) ≡ false)

abbrev MetFit : Description → Met → Type 0
MetFit p (over b m) = Unit {0}
MetFit p (found b i r) = Wide p r

rows_fit : (p : Description) (t : List ℕ) (n a : ℕ) → a + n * p.wpr ≤ length t → all_words (part a (n * p.wpr) t) ≡ true
    → All (Wide p) (rows_from p.wpr a n t)
unfolding All rows_from
rows_fit p t zero a l h = tt
rows_fit p t (suc n) a l h =
    let w = p.wpr in
    let m : suc n * w ≡ w + n * w = omega arith in
    let e : part a (suc n * w) t ≡ part a w t ++ part (a + w) (n * w) t = ap (λ (k : ℕ). part a k t) m ∙ part-add a w (n * w) t in
    let b = and_both (all_words (part a w t)) (all_words (part (a + w) (n * w) t)) (sym (all_words-append (part a w t) (part (a + w) (n * w) t)) ∙ ap all_words (sym e) ∙ h) in
    ((length_part a w t (omega arith), b.0), rows_fit p t n (a + w) (omega arith) b.1)

places-fit : (p : Description) (b i : ℕ) (rs : List (List ℕ)) → All (Wide p) rs → All (MetFit p) (places b i rs)
unfolding All places
places-fit p b i [] a = tt
places-fit p b i (r ∷ rs) a = (a.0, places-fit p b (i + 1) rs a.1)

block_fit : (p : Description) (b : ℕ) (t : List ℕ) → good_params p ≡ true → length t ≡ p.wpb → All (MetFit p) (met_in p b t)
unfolding met_in All
block_fit p b t good long = go (eqb (missed p t) 0) refl
  where
    go : (c : Bool) → eqb (missed p t) 0 ≡ c → All (MetFit p) (cond c (places b 1 (records_in p t)) (over b (missed p t) ∷ []))
    go true e =
        let w = whole p t (eqb-true _ _ e) in
        let c = caps p good in
        let few = range-facts 1 (D p) (count_in t) w.counted in
        let m : count_in t * p.wpr ≤ D p * p.wpr = mul-le-mul_right p.wpr few.1 in
        places-fit p b 1 (records_in p t) (rows_fit p t (count_in t) 1 (omega arith) w.small)
    go false e = (tt, tt)

blocks-fit : (p : Description) (copy : List ℕ) (n b : ℕ) → good_params p ≡ true → length copy ≡ file_size p → 1 ≤ b → b + n ≤ p.n + 1
    → All (MetFit p) (met_from p copy b n)
unfolding met_from All
blocks-fit p copy zero b good size l m = tt
blocks-fit p copy (suc n) b good size l m =
    all_both (MetFit p) (met_in p b (block_at p copy b)) (met_from p copy (b + 1) n)
    (block_fit p b (block_at p copy b) good (length-block p copy size b (l, omega arith)))
    (blocks-fit p copy n (b + 1) good size (omega arith) (omega arith))

spots-fit : (p : Description) (ms : List Met) → All (MetFit p) ms → All (Fit p) (spots p ms)
unfolding All spots
spots-fit p [] a = tt
spots-fit p (over b m ∷ ms) a = spots-fit p ms a.1
spots-fit p (found b i r ∷ ms) a = go (is_ones (key_in p r)) refl (spots-fit p ms a.1)
  where
    go : (c : Bool) → is_ones (key_in p r) ≡ c → All (Fit p) (spots p ms) → All (Fit p) (cond c (spots p ms) (record { block = b; place = i; row = r } ∷ spots p ms))
    go true e h = h
    go false e h = ((a.0, e), h)

-- those of a copy
pub all_fit : (p : Description) (copy buffer : List ℕ) → Lent p copy buffer → All (Fit p) (spots p (met p copy))
all_fit p copy buffer l = spots-fit p (met p copy) (blocks-fit p copy p.n 1 l.good l.copy_is (omega arith) (omega arith))
