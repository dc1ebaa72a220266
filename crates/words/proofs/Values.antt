-- A key as one number: the order of keys is then that of numbers.
use Prim.Native.Nat.{ℕ, ◌+◌, ◌*◌, ◌^◌, ◌≤◌, ◌<◌}
use mathlib.Core.Bool.{Bool, true, false}
use mathlib.Core.Path.{◌≡◌, refl, sym, ap, ◌∙◌}
use mathlib.Core.List.{List, [], ◌∷◌}
use native.Mathlib.Omega.{arith}
use native.Mathlib.Nat.{mul-le-mul_right, pow-suc, pow-zero}
use native.Mathlib.Decide.{dec_lt}
use lib.Dec.{ltb, eqb}
use lib.ListN.{length}
use borrow.Author.Tests.{ltb-true, lt-ltb, le-ltb, eq-eqb, ne_eqb}
use Rattle.words.specs.Words.{all_words}
use Rattle.words.specs.Keys.{key_lt, same_key, val}
use Rattle.words.proofs.Keys.{Tri, lt, eq, gt, tri, Stands, below, same, above, stands, key_lt-head, key_lt-over, key_lt-tail, same_key-true, same_key-false}
use Rattle.words.proofs.All.{all_words-cons}

ltb-same : (a b c d : ℕ) → (a < b → c < d) → (b ≤ a → d ≤ c) → ltb a b ≡ ltb c d
ltb-same a b c d f g = go (dec_lt a b)
  where
    go : Dec (a < b) → ltb a b ≡ ltb c d
    go (yes h) = lt-ltb a b h ∙ sym (lt-ltb c d (f h))
    go (no n) = let h : b ≤ a = omega arith in le-ltb a b h ∙ sym (le-ltb c d (g h))

-- a key's number has no more places than the key has words
pub val-lt : (a : List ℕ) → all_words a ≡ true → val a < 262144 ^ length a
unfolding val
val-lt [] h = rw pow-zero (omega arith)
val-lt (x ∷ a) h =
    let b = all_words-cons x a h in
    let k : x < 262144 = omega (arith, b.0) in
    rw pow-suc (omega (arith, val-lt a b.1, mul-le-mul_right (262144 ^ length a) k))

pub key_lt-val : (a b : List ℕ) → all_words a ≡ true → all_words b ≡ true → length a ≡ length b → key_lt a b ≡ ltb (val a) (val b)
unfolding val key_lt
key_lt-val [] [] p q e = refl
key_lt-val [] (y ∷ b) p q e = absurd (omega arith)
key_lt-val (x ∷ a) [] p q e = absurd (omega arith)
key_lt-val (x ∷ a) (y ∷ b) p q e = go (tri x y) (key_lt-val a b pa qb (omega arith))
  where
    pa : all_words a ≡ true
    pa = (all_words-cons x a p).1

    qb : all_words b ≡ true
    qb = (all_words-cons y b q).1

    P : 262144 ^ length a ≡ 262144 ^ length b
    P = ap (λ (n : ℕ). 262144 ^ n) (omega arith)

    u : ℕ
    u = x * 262144 ^ length a + val a

    v : ℕ
    v = y * 262144 ^ length b + val b

    go : Tri x y → key_lt a b ≡ ltb (val a) (val b) → key_lt (x ∷ a) (y ∷ b) ≡ ltb u v
    go (lt l) r = key_lt-head x y a b l ∙ sym (lt-ltb u v (rw P (omega (arith, P, val-lt a pa, mul-le-mul_right (262144 ^ length b) l))))
    go (gt g) r = key_lt-over x y a b g ∙ sym (le-ltb u v (rw P (omega (arith, P, val-lt b qb, mul-le-mul_right (262144 ^ length b) g))))
    go (eq f) r = key_lt-tail x y a b f ∙ r ∙ ltb-same (val a) (val b) u v (λ h. rw (P, f) (omega arith)) (λ h. rw (P, f) (omega arith))

module _ (a b : List ℕ) (p : all_words a ≡ true) (q : all_words b ≡ true) (e : length a ≡ length b) where
  pub key_lt-val-lt : key_lt a b ≡ true → val a < val b
  key_lt-val-lt h = ltb-true (val a) (val b) (sym (key_lt-val a b p q e) ∙ h)

  pub val-lt-key_lt : val a < val b → key_lt a b ≡ true
  val-lt-key_lt h = key_lt-val a b p q e ∙ lt-ltb (val a) (val b) h

pub val_inj : (a b : List ℕ) → all_words a ≡ true → all_words b ≡ true → length a ≡ length b → val a ≡ val b → a ≡ b
val_inj a b p q e v = go (stands a b)
  where
    go : Stands a b → a ≡ b
    go (same s) = s
    go (below l) = absurd (omega (arith, key_lt-val-lt a b p q e l))
    go (above l) = absurd (omega (arith, key_lt-val-lt b a q p (sym e) l))

pub same_key-val : (a b : List ℕ) → all_words a ≡ true → all_words b ≡ true → length a ≡ length b → same_key a b ≡ eqb (val a) (val b)
same_key-val a b p q e = go (same_key a b) refl
  where
    go : (t : Bool) → same_key a b ≡ t → t ≡ eqb (val a) (val b)
    go true s = sym (eq-eqb (val a) (val b) (ap val (same_key-true a b s)))
    go false s = sym (ne_eqb (val a) (val b) (λ v. same_key-false a b s (val_inj a b p q e v)))
