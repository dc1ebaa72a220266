-- No more blocks can be marked than there are marks.
use Prim.Native.Nat.{ℕ, zero, suc, ◌+◌, ◌-◌, ◌≤◌, ◌<◌}
use mathlib.Core.Path.{◌≡◌}
use mathlib.Core.List.{List, [], ◌∷◌}
use mathlib.Core.Bool.{Bool, true, false, cond}
use native.Mathlib.Omega.{arith}
use native.Mathlib.Nat.{not-suc-le-zero}
use lib.Dec.{eqb}
use lib.ListN.{length, get_or, set}
use borrow.Author.Tests.{eq-eqb, ne_eqb}
use Rattle.numbers.specs.Checked.{passed}
use Rattle.layout.specs.Inspect.{marked}
use Rattle.numbers.proofs.Passed.{bind-passed}
use Rattle.layout.proofs.Marks.{mark_all, mark-facts}

-- marks that are free: each block marked takes one
unfoldable frees : List ℕ → ℕ
frees [] = 0
frees (x ∷ l) = cond (eqb x 0) 1 0 + frees l

frees-small : (l : List ℕ) → frees l ≤ length l
unfolding frees
frees-small [] = omega arith
frees-small (x ∷ l) = omega (arith, frees-small l, bit (eqb x 0))
  where
    bit : (t : Bool) → cond t 1 0 ≤ 1
    bit true = omega arith
    bit false = omega arith

frees-set : (l : List ℕ) (i m : ℕ) → (m ≡ 0 → ⊥) → i < length l → get_or l i 0 ≡ 0 → suc (frees (set l i m)) ≡ frees l
unfolding frees
frees-set [] i m n h e = absurd (not-suc-le-zero h)
frees-set (x ∷ l) zero m n h e = simp (ne_eqb m 0 n, eq-eqb x 0 e) (omega arith)
frees-set (x ∷ l) (suc i) m n h e = omega (arith, frees-set l i m n (omega arith) e)

marks-few : (m : ℕ) → (m ≡ 0 → ⊥) → (bs ms ms' : List ℕ) → mark_all m bs ms ≡ passed ms' → length bs ≤ frees ms
unfolding mark_all
marks-few m n [] ms ms' e = omega arith
marks-few m n (b ∷ bs) ms ms' e =
    let (s, q₁, q₂) = bind-passed (marked m b ms) (mark_all m bs) ms' e in
    let w = mark-facts m b ms s q₁ in
    let ih : length bs ≤ frees (set ms (b - 1) m) = rw w.now at (marks-few m n bs s ms' q₂) in
    omega (arith, ih, frees-set ms (b - 1) m n (omega (arith, w.inside)) w.free)

pub mark-count : (m : ℕ) → (m ≡ 0 → ⊥) → (bs ms ms' : List ℕ) → mark_all m bs ms ≡ passed ms' → length bs ≤ length ms
mark-count m n bs ms ms' e = omega (arith, marks-few m n bs ms ms' e, frees-small ms)
