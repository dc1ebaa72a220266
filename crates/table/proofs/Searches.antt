-- Laws of `first_where`, and of what a search wants: by the order of the keys, and by the keys.
use mathlib.Core.Path.{◌≡◌, refl, sym, ap, ◌∙◌}
use mathlib.Core.Bool.{Bool, true, false}
use mathlib.Core.List.{List}
use Prim.Native.Nat.{ℕ, zero, suc, ◌+◌, ◌*◌, ◌-◌, ◌≤◌, ◌<◌}
use native.Mathlib.Nat.{not-suc-le-zero, add-zero, sub-zero}
use native.Mathlib.Omega.{arith}
use lib.ListN.{length, get_or}
use Rattle.words.specs.Words.{part}
use Rattle.words.specs.Keys.{order, key_lt}
use Rattle.words.proofs.Parts.{part-turn}
use Rattle.words.proofs.Keys.{key_lt-head, key_lt-tail, Tri, lt, eq, gt, tri, Stands, below, same, above, stands, order_lt, order-eq, order-gt, key_lt-asym}
use Rattle.words.proofs.Keys.{key_lt-not-same, same-not-lt, same_key-eq, same_key-ne, key_lt-ne, key_le-yes, key_le-no}
use Rattle.table.specs.declared.Shape.{Shape}
use Rattle.table.specs.declared.Want.{Want}
use Rattle.table.specs.declared.Want.TheVariants.{Equal, NotBelow, Over}
use Rattle.table.specs.Tables.{first_where, asked, wanted, fits}

-- a search that stops at i stops at the first, and one that runs to the end found none
pub first-at : (t : ℕ → Bool) (n i : ℕ) → i < n → ((k : ℕ) → k < i → t k ≡ false) → t i ≡ true → first_where t n ≡ i
unfolding first_where
first-at t zero i h f g = absurd (not-suc-le-zero h)
first-at t (suc n) zero h f g = rw (g, first_where)
first-at t (suc n) (suc i) h f g = rw (f 0 (omega arith), first_where) (ap suc (first-at (λ j. t (suc j)) n i (omega arith) (λ k l. f (suc k) (omega arith)) g))

pub first-zero : (t : ℕ → Bool) (n : ℕ) → t 0 ≡ true → first_where t n ≡ 0
unfolding first_where
first-zero t zero g = refl
first-zero t (suc n) g = rw (g, first_where)

pub first-none : (t : ℕ → Bool) (n : ℕ) → ((k : ℕ) → k < n → t k ≡ false) → first_where t n ≡ n
unfolding first_where
first-none t zero f = refl
first-none t (suc n) f = rw (f 0 (omega arith), first_where) (ap suc (first-none (λ j. t (suc j)) n (λ k l. f (suc k) (omega arith))))

-- what a search wants, told by the order of a row's key x to the key
pub asked-wanted : (w : Want) (key x : List ℕ) → asked w (order x key) ≡ wanted w key x
asked-wanted w key x = go w (stands x key)
  where
    go : (w : Want) → Stands x key → asked w (order x key) ≡ wanted w key x
    go Equal (below p) = rw (order_lt x key p, key_lt-not-same x key p)
    go Equal (same e) = rw (order-eq x key e, same_key-eq x key e)
    go Equal (above p) = rw (order-gt x key p, same_key-ne x key (λ e. key_lt-ne key x p (sym e)))
    go NotBelow (below p) = rw (order_lt x key p, key_le-no key x p)
    go NotBelow (same e) = rw (order-eq x key e, key_le-yes key x (same-not-lt x key e))
    go NotBelow (above p) = rw (order-gt x key p, key_le-yes key x (key_lt-asym key x p))
    go Over (below p) = rw (order_lt x key p, key_lt-asym x key p)
    go Over (same e) = rw (order-eq x key e, same-not-lt key x (sym e))
    go Over (above p) = rw (order-gt x key p, p)

-- a row and a key compared from word i on: the words there tell, or the rest does
module _ (t key : List ℕ) (p at w i : ℕ) (h : i < w) (ht : p + w ≤ length t) (hk : at + w ≤ length key) where
  low_word : get_or t (p + i) 0 < get_or key (at + i) 0 → key_lt (part (p + i) (w - i) t) (part (at + i) (w - i) key) ≡ true
  low_word l = rw (part-turn p w i t h ht, part-turn at w i key h hk) (key_lt-head _ _ _ _ l)

  same_word : get_or t (p + i) 0 ≡ get_or key (at + i) 0
      → key_lt (part (p + i) (w - i) t) (part (at + i) (w - i) key) ≡ key_lt (part (p + (i + 1)) (w - (i + 1)) t) (part (at + (i + 1)) (w - (i + 1)) key)
  same_word e = rw (part-turn p w i t h ht, part-turn at w i key h hk) (key_lt-tail _ _ _ _ e)

-- a row that begins with a word below the key's first is below the key, and no search wants it
pub low_first : (t key : List ℕ) (p at width : ℕ) → 1 ≤ width → p + width ≤ length t → at + width ≤ length key → get_or t p 0 < get_or key at 0
    → key_lt (part p width t) (part at width key) ≡ true
low_first t key p at width h ht hk l = simp (add-zero, sub-zero) at (low_word t key p at width 0 h ht hk (simp add-zero l))

-- so is one that begins with the key's first word and goes on with two words below the key's next two, read as one number
pub low-next : (t key : List ℕ) (p at width : ℕ) → 3 ≤ width → p + width ≤ length t → at + width ≤ length key
    → get_or t (p + 2) 0 < 4294967296 → get_or key (at + 2) 0 < 4294967296 → get_or t p 0 ≡ get_or key at 0
    → get_or t (p + 1) 0 * 4294967296 + get_or t (p + 2) 0 < get_or key (at + 1) 0 * 4294967296 + get_or key (at + 2) 0
    → key_lt (part p width t) (part at width key) ≡ true
low-next t key p at width h ht hk bt bk e l = first ∙ go (tri (get_or t (p + 1) 0) (get_or key (at + 1) 0))
  where
    first : key_lt (part p width t) (part at width key) ≡ key_lt (part (p + 1) (width - 1) t) (part (at + 1) (width - 1) key)
    first = simp (add-zero, sub-zero) at (same_word t key p at width 0 (omega arith) ht hk (simp add-zero e))

    go : Tri (get_or t (p + 1) 0) (get_or key (at + 1) 0) → key_lt (part (p + 1) (width - 1) t) (part (at + 1) (width - 1) key) ≡ true
    go (lt m) = low_word t key p at width 1 (omega arith) ht hk m
    go (eq m) = same_word t key p at width 1 (omega arith) ht hk m ∙ low_word t key p at width 2 (omega arith) ht hk (omega arith)
    go (gt m) = absurd (omega arith)

pub low-unwanted : (w : Want) (key x : List ℕ) → key_lt x key ≡ true → wanted w key x ≡ false
low-unwanted Equal key x p = key_lt-not-same x key p
low-unwanted NotBelow key x p = key_le-no key x p
low-unwanted Over key x p = key_lt-asym x key p

-- the search for an equal key, where that is what is wanted
pub find-equal : (w : Want) (h : Shape) (key t : List ℕ) (n r : ℕ) → w ≡ Equal → r ≡ first_where (fits Equal h key t) n → r ≡ first_where (fits w h key t) n
find-equal w h key t n r e f = rw e f

-- where a search stops: at most n, the test false before it, and true there unless it is n
pub first-le : (t : ℕ → Bool) (n : ℕ) → first_where t n ≤ n
unfolding first_where
first-le t zero = omega arith
first-le t (suc n) = go (t 0) refl (first-le (λ i. t (suc i)) n)
  where
    go : (x : Bool) → t 0 ≡ x → first_where (λ i. t (suc i)) n ≤ n → first_where t (suc n) ≤ suc n
    go true e r = rw (e, first_where) (omega arith)
    go false e r = rw (e, first_where) (omega arith)

pub first-before : (t : ℕ → Bool) (n k : ℕ) → k < first_where t n → t k ≡ false
unfolding first_where
first-before t zero k h = absurd (not-suc-le-zero h)
first-before t (suc n) k h = go (t 0) refl k h (first-before (λ i. t (suc i)) n)
  where
    go : (x : Bool) → t 0 ≡ x → (k : ℕ) → k < first_where t (suc n) → ((j : ℕ) → j < first_where (λ i. t (suc i)) n → t (suc j) ≡ false) → t k ≡ false
    go true e k l r = absurd (not-suc-le-zero (rw (e, first_where) at l))
    go false e zero l r = e
    go false e (suc k) l r = let m : suc k < suc (first_where (λ i. t (suc i)) n) = rw (e, first_where) at l in r k (omega arith)

pub first-true : (t : ℕ → Bool) (n : ℕ) → first_where t n < n → t (first_where t n) ≡ true
unfolding first_where
first-true t zero h = absurd (not-suc-le-zero h)
first-true t (suc n) h = go (t 0) refl h (first-true (λ i. t (suc i)) n)
  where
    go : (x : Bool) → t 0 ≡ x → first_where t (suc n) < suc n → (first_where (λ i. t (suc i)) n < n → t (suc (first_where (λ i. t (suc i)) n)) ≡ true)
        → t (first_where t (suc n)) ≡ true
    go true e l r = rw (e, first_where) e
    go false e l r = let m : suc (first_where (λ i. t (suc i)) n) < suc n = rw (e, first_where) at l in rw (e, first_where) (r (omega arith))
