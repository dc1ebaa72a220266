-- The order of keys: the walk's test by places says of the tree that is read off the file what the sentences say of lists, and back.
use Prim.Native.Nat.{ℕ, zero, suc, ◌+◌, ◌*◌, ◌≤◌}
use mathlib.Core.Path.{◌≡◌, refl, ap, ◌∙◌}
use mathlib.Core.List.{List, [], ◌∷◌, ◌++◌}
use mathlib.Core.Bool.{Bool, true, false, cond, ◌||◌}
use native.Mathlib.Omega.{arith}
use native.Mathlib.Nat.{not-suc-le-zero}
use lib.Dec.{eqb}
use lib.ListN.{length, take, drop}
use lib.Seq.{take-take}
use borrow.Author.Tests.{ne_eqb}
use Rattle.words.specs.Words.{part, all_words}
use Rattle.words.specs.Keys.{key_lt, key_le}
use Rattle.words.proofs.Parts.{length_part}
use Rattle.words.proofs.Keys.{key_lt-le, key_le-trans}
use Rattle.words.proofs.All.{and_both, all_words-part}
use Rattle.drum.specs.declared.Description.{Description}
use Rattle.layout.specs.Inspect.{key_held, last_row, above, ascends}
use Rattle.layout.specs.Tree.{last_in}
use Rattle.layout.specs.Holds.{All, ascending, keys_of}
use Rattle.layout.proofs.Good.{row_more}
use Rattle.layout.proofs.Read.{rows_at, last-next, last_one}

-- the key before, if any
unfoldable pub befores : Description → List ℕ → ℕ → List (List ℕ)
befores p f low = cond (eqb low 0) [] (key_held p f low ∷ [])

pub before-some : (p : Description) (f : List ℕ) (low : ℕ) → 1 ≤ low → befores p f low ≡ key_held p f low ∷ []
unfolding befores
before-some p f low h = let n : low ≡ 0 → ⊥ = λ e. omega arith in simp (ne_eqb low 0 n)

above-some : (p : Description) (f : List ℕ) (low a : ℕ) → 1 ≤ low → above p f low a ≡ true → key_lt (key_held p f low) (key_held p f a) ≡ true
unfolding above
above-some p f low a h e = let n : low ≡ 0 → ⊥ = λ z. omega arith in simp (ne_eqb low 0 n) at e

row-key : (p : Description) (f : List ℕ) (stride a : ℕ) → p.k ≤ stride → take p.k (part a stride f) ≡ key_held p f a
unfolding part key_held
row-key p f stride a h = take-take p.k stride (drop a f) h

none-rises : (t : Bool) (x : List ℕ) → ascending (cond t [] (x ∷ []) ++ []) ≡ true
unfolding ascending
none-rises true x = refl
none-rises false x = refl

join : (t : Bool) (x y : List ℕ) (rest : List (List ℕ)) → (t || key_lt x y) ≡ true → ascending (y ∷ rest) ≡ true
    → ascending (cond t [] (x ∷ []) ++ y ∷ rest) ≡ true
unfolding ascending
join true x y rest e h = h
join false x y rest e h = simp (e, h)

unjoin : (t : Bool) (x y : List ℕ) (rest : List (List ℕ)) → ascending (cond t [] (x ∷ []) ++ y ∷ rest) ≡ true
    → ((t || key_lt x y) ≡ true) × (ascending (y ∷ rest) ≡ true)
unfolding ascending
unjoin true x y rest h = (refl, h)
unjoin false x y rest h = and_both (key_lt x y) (ascending (y ∷ rest)) h

module _ (p : Description) (f : List ℕ) (stride : ℕ) (wide : p.k ≤ stride) where
  abbrev keys_at : ℕ → ℕ → List (List ℕ)
  keys_at a n = keys_of p (rows_at f stride a n)

  pub rising-keys : (n low a : ℕ) → 1 ≤ a → ascends p f stride low a n ≡ true → ascending (befores p f low ++ keys_at a n) ≡ true
  unfolding ascends rows_at befores above
  rising-keys zero low a h e = none-rises (eqb low 0) (key_held p f low)
  rising-keys (suc n) low a h e =
      let (u, v) = and_both (above p f low a) (ascends p f stride a (a + stride) n) e in
      let rest = keys_at (a + stride) n in
      let ih : ascending (befores p f a ++ rest) ≡ true = rising-keys n a (a + stride) (omega arith) v in
      let ih' : ascending (key_held p f a ∷ rest) ≡ true = rw (before-some p f a h) at ih in
      rw (row-key p f stride a wide) (join (eqb low 0) (key_held p f low) (key_held p f a) rest u ih')

  pub rising-back : (n low a : ℕ) → 1 ≤ a → ascending (befores p f low ++ keys_at a n) ≡ true → ascends p f stride low a n ≡ true
  unfolding ascends rows_at befores above
  rising-back zero low a h e = refl
  rising-back (suc n) low a h e =
      let rest = keys_at (a + stride) n in
      let (u, v) = unjoin (eqb low 0) (key_held p f low) (key_held p f a) rest (rw (row-key p f stride a wide) at e) in
      let v' : ascending (befores p f a ++ rest) ≡ true = rw (before-some p f a h) v in
      simp (u, rising-back n a (a + stride) (omega arith) v')

  -- where the last key is at most the bound, all are
  pub all-bounded : (n low a : ℕ) (bound : List ℕ) → 1 ≤ n → 1 ≤ a → ascends p f stride low a n ≡ true
      → key_le (key_held p f (last_row a stride n)) bound ≡ true → All (λ key. key_le key bound ≡ true) (keys_at a n)
  unfolding ascends rows_at All
  all-bounded zero low a bound s h e l = absurd (not-suc-le-zero s)
  all-bounded (suc zero) low a bound s h e l = (rw (row-key p f stride a wide) (rw (last_one a stride) at l), tt)
  all-bounded (suc (suc n)) low a bound s h e l =
      let b = a + stride in
      let (u, v) = and_both (above p f low a) (ascends p f stride a b (suc n)) e in
      let (u', v') = and_both (above p f a b) (ascends p f stride b (b + stride) n) v in
      let ih = all-bounded (suc n) a b bound (omega arith) (omega arith) v (rw (last-next a stride n) l) in
      let le = key_lt-le (key_held p f a) (key_held p f b) (above-some p f a b h u') in
      (rw (row-key p f stride a wide) (key_le-trans (key_held p f a) (key_held p f b) bound le (rw (row-key p f stride b wide) at ih.0)), ih)

  pub last-bounded : (n a : ℕ) (bound : List ℕ) → 1 ≤ n → All (λ key. key_le key bound ≡ true) (keys_at a n)
      → key_le (key_held p f (last_row a stride n)) bound ≡ true
  unfolding All rows_at
  last-bounded zero a bound s h = absurd (not-suc-le-zero s)
  last-bounded (suc zero) a bound s (h, t) = rw (last_one a stride) (rw (row-key p f stride a wide) at h)
  last-bounded (suc (suc n)) a bound s (h, t) = rw (← last-next a stride n) (last-bounded (suc n) (a + stride) bound (omega arith) t)

-- the rows themselves
module _ (f : List ℕ) (stride : ℕ) where
  pub all-wide : (n a : ℕ) → a + n * stride ≤ length f → All (λ r. length r ≡ stride) (rows_at f stride a n)
  unfolding rows_at All
  all-wide zero a h = tt
  all-wide (suc n) a h = let m = row_more n stride in (length_part a stride f (omega arith), all-wide n (a + stride) (omega arith))

  pub rows_words : (n a : ℕ) → all_words f ≡ true → All (λ r. all_words r ≡ true) (rows_at f stride a n)
  unfolding All rows_at
  rows_words zero a w = tt
  rows_words (suc n) a w = (all_words-part a stride f w, rows_words n (a + stride) w)

  pub last_row_lem : (n a : ℕ) → 1 ≤ n → last_in (rows_at f stride a n) ≡ part (last_row a stride n) stride f
  unfolding rows_at last_in
  last_row_lem zero a h = absurd (not-suc-le-zero h)
  last_row_lem (suc zero) a h = rw (last_one a stride)
  last_row_lem (suc (suc n)) a h = last_row_lem (suc n) (a + stride) (omega arith) ∙ ap (λ (r : ℕ). part r stride f) (last-next a stride n)
