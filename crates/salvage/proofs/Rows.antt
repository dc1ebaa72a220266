-- The records of a text, one after the other: where they lie, and whether their keys ascend.
use mathlib.Core.Path.{◌≡◌, refl, sym, ap, ◌∙◌}
use mathlib.Core.Bool.{Bool, true, false, ◌&&◌}
use mathlib.Core.List.{List}
use Prim.Native.Nat.{ℕ, zero, suc, ◌+◌, ◌*◌, ◌-◌, ◌≤◌, ◌<◌}
use native.Mathlib.Omega.{arith}
use lib.ListN.{length, take, drop}
use Rattle.words.specs.Words.{part}
use Rattle.words.specs.Keys.{key_lt}
use Rattle.words.proofs.Parts.{take_part}
use Rattle.drum.specs.declared.Description.{Description}
use Rattle.layout.specs.Holds.{ascending, keys_of}
use Rattle.salvage.specs.Met.{rows_from}

-- the words of a record that is lent
pub part-lent : (a w : ℕ) (t : List ℕ) → take (a + w - a) (drop a t) ≡ part a w t
unfolding part
part-lent a w t =
    let m : a + w - a ≡ w = omega arith in
    ap (λ (k : ℕ). take k (drop a t)) m

-- one row fewer is left
pub rows-less : (n w : ℕ) → 0 < n → n * w ≡ w + (n - 1) * w
rows-less n w l =
    let m : n ≡ n - 1 + 1 = omega arith in
    let e : (n - 1 + 1) * w ≡ w + (n - 1) * w = omega arith in
    ap (λ (k : ℕ). k * w) m ∙ e

pub rows-length : (w a n : ℕ) (t : List ℕ) → length (rows_from w a n t) ≡ n
unfolding rows_from
rows-length w a zero t = refl
rows-length w a (suc n) t = let e = rows-length w (a + w) n t in omega arith

module _ (p : Description) (t : List ℕ) (at left : ℕ) where
  abbrev keys : ℕ → ℕ → List (List ℕ)
  keys a n = keys_of p (rows_from p.wpr a n t)

  pub key-next : at + left * p.wpr ≤ length t → 1 < left → p.k ≤ p.wpr → at + p.wpr + p.k ≤ length t
  key-next h l k = omega (arith, rows-less left p.wpr (omega arith), rows-less (left - 1) p.wpr (omega arith))

  module _ (many : 1 < left) (short : p.k ≤ p.wpr) where
    opens : ascending (keys at left)
        ≡ key_lt (part at p.k t) (part (at + p.wpr) p.k t) && ascending (keys (at + p.wpr) (left - 1))
    unfolding rows_from ascending
    opens =
        let two : left ≡ suc (suc (left - 2)) = omega arith in
        let one : suc (left - 2) ≡ left - 1 = omega arith in
        let low = take_part at p.k p.wpr t short in
        let high = take_part (at + p.wpr) p.k p.wpr t short in
        ap (λ (n : ℕ). ascending (keys at n)) two
        ∙ (λ j. key_lt (low j) (high j) && ascending (keys (at + p.wpr) (suc (left - 2))))
        ∙ ap (λ (n : ℕ). key_lt (part at p.k t) (part (at + p.wpr) p.k t) && ascending (keys (at + p.wpr) n)) one

    -- a pair of keys that ascends, or not: x is the code's test of it
    module _ (x : Bool) (is : x ≡ key_lt (part at p.k t) (part (at + p.wpr) p.k t)) where
      pub keys-go : x ≡ true → ascending (keys at left) ≡ ascending (keys (at + p.wpr) (left - 1))
      keys-go h = opens ∙ ap (λ (b : Bool). b && ascending (keys (at + p.wpr) (left - 1))) (sym is ∙ h)

      pub keys-stop : x ≡ false → ascending (keys at left) ≡ false
      keys-stop h = opens ∙ ap (λ (b : Bool). b && ascending (keys (at + p.wpr) (left - 1))) (sym is ∙ h)

  -- one key or none
  pub keys-end : left ≤ 1 → ascending (keys at left) ≡ true
  unfolding rows_from ascending
  keys-end h = go left h
    where
      go : (n : ℕ) → n ≤ 1 → ascending (keys at n) ≡ true
      go zero l = refl
      go (suc zero) l = refl
      go (suc (suc n)) l = absurd (omega arith)

-- one row more
pub row-more : (n w : ℕ) → (n + 1) * w ≡ w + n * w
row-more n w = omega arith

-- the pairs of n keys, of which `last` is the number
module _ (p : Description) (t : List ℕ) (n : ℕ) where
  abbrev behind : ℕ → List (List ℕ)
  behind i = keys_of p (rows_from p.wpr (1 + i * p.wpr) (n - i) t)

  abbrev all : List (List ℕ)
  all = keys_of p (rows_from p.wpr 1 n t)

  pub rows-first : 1 + n * p.wpr ≤ length t → 1 + 0 * p.wpr + (n - 0) * p.wpr ≤ length t
  rows-first h =
      let z : n - 0 ≡ n = omega arith in
      omega (arith, ap (λ (k : ℕ). k * p.wpr) z)

  pub keys-first : ascending all ≡ ascending (behind 0)
  keys-first =
      let a : 1 ≡ 1 + 0 * p.wpr = omega arith in
      let z : n ≡ n - 0 = omega arith in
      λ j. ascending (keys_of p (rows_from p.wpr (a j) (z j) t))

  -- i of them have ascended: what the next tells, and what is left after it
  module _ (i last : ℕ) (ends : last ≡ n - 1) where
    pub rows-after : i < last → 1 + i * p.wpr + (n - i) * p.wpr ≤ length t → 1 + (i + 1) * p.wpr + (n - (i + 1)) * p.wpr ≤ length t
    rows-after l h =
        let m : n - i - 1 ≡ n - (i + 1) = omega arith in
        omega (arith, rows-less (n - i) p.wpr (omega arith), ap (λ (k : ℕ). k * p.wpr) m, row-more i p.wpr)

    pub pair-within : i < last → 1 + i * p.wpr + (n - i) * p.wpr ≤ length t → p.k ≤ p.wpr
        → (1 + i * p.wpr + p.k ≤ length t) × (1 + i * p.wpr + p.wpr + p.k ≤ length t)
    pair-within l h k =
        let e = key-next p t (1 + i * p.wpr) (n - i) h (omega arith) k in
        (omega arith, e)

    module _ (x : Bool) (is : x ≡ key_lt (part (1 + i * p.wpr) p.k t) (part (1 + i * p.wpr + p.wpr) p.k t)) (more : i < last) (short : p.k ≤ p.wpr)
        (here : ascending all ≡ ascending (behind i)) where
      many : 1 < n - i
      many = omega arith

      pub keys-again : x ≡ true → ascending all ≡ ascending (behind (i + 1))
      keys-again h =
          let m : n - i - 1 ≡ n - (i + 1) = omega arith in
          let r = row-more i p.wpr in
          let a : 1 + i * p.wpr + p.wpr ≡ 1 + (i + 1) * p.wpr = omega arith in
          here ∙ keys-go p t (1 + i * p.wpr) (n - i) many short x is h
          ∙ (λ j. ascending (keys_of p (rows_from p.wpr (a j) (m j) t)))

      pub keys-told : x ≡ false → false ≡ ascending all
      keys-told h = sym (here ∙ keys-stop p t (1 + i * p.wpr) (n - i) many short x is h)

    pub keys-done : last ≤ i → ascending all ≡ ascending (behind i) → true ≡ ascending all
    keys-done h here = sym (here ∙ keys-end p t (1 + i * p.wpr) (n - i) (omega arith))
