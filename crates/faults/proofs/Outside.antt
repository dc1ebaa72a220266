-- The parameter that is told is out of the range that is told: where a first line's parameters are not good, `range_fault` names one that is not.
use Prim.Native.Nat.{ℕ, ◌+◌, ◌-◌, ◌/◌, ◌%◌, ◌≤◌}
use native.Mathlib.Nat.{le-div_iff_mul-le}
use native.Mathlib.Omega.{arith}
use mathlib.Core.Bool.{Bool, true, false, cond}
use mathlib.Core.Path.{◌≡◌, refl, sym, ◌∙◌}
use borrow.Author.Tests.{leb-true, leb-false, eqb-true}
use lib.Dec.{leb, eqb}
use Rattle.words.proofs.All.{and_both}
use Rattle.drum.specs.declared.Description.{Description}
use Rattle.drum.specs.Params.{D, I, good_params}
use Rattle.drum.proofs.Good.{good-yes}
use Rattle.faults.specs.declared.Fault.{Fault}
use Rattle.faults.specs.declared.Parameter.{Parameter}
use Rattle.faults.specs.declared.Parameter.TheVariants.{Wpb, Wpr, K, Space, Control, N}
use Rattle.faults.specs.First.{within, wpb_good, half, most_key, most_space, out_fault, ranged, range_fault, Outside}

within_both : (a v b : ℕ) → within a v b ≡ true → (a ≤ v) × (v ≤ b)
unfolding within
within_both a v b e = let (h, k) = and_both (leb a v) (leb v b) e in (leb-true _ _ h, leb-true _ _ k)

wpb-facts : (x : ℕ) → wpb_good x ≡ true → (eqb (x % 2) 0 ≡ true) × (6 ≤ x) × (x ≤ 4096)
unfolding wpb_good
wpb-facts x e = let (h, k) = and_both (eqb (x % 2) 0) (within 6 x 4096) e in (h, (within_both 6 x 4096 k).0, (within_both 6 x 4096 k).1)

-- two rows of s words fit where s is at most half
two-fit : (p : Description) (s : ℕ) → 1 ≤ s → s ≤ half p → 2 ≤ (p.wpb - 1) / s
unfolding half
two-fit p s a h = (le-div_iff_mul-le a).1 (omega arith)

key-facts : (p : Description) → p.k ≤ most_key p → 1 ≤ p.k → (p.k ≤ 63) × (p.k + 1 ≤ half p)
unfolding most_key
key-facts p h l = go (leb 64 (half p)) refl h
  where
    go : (t : Bool) → leb 64 (half p) ≡ t → p.k ≤ cond t 63 (half p - 1) → (p.k ≤ 63) × (p.k + 1 ≤ half p)
    go true e k = let q = leb-true 64 (half p) e in (omega arith, omega arith)
    go false e k = let q = leb-false 64 (half p) e in (omega arith, omega arith)

space-facts : (p : Description) → p.space ≤ most_space p → (p.space ≤ D p - 2) × (p.space ≤ I p - 2)
unfolding most_space
space-facts p h = go (leb (D p) (I p)) refl h
  where
    go : (t : Bool) → leb (D p) (I p) ≡ t → p.space ≤ cond t (D p - 2) (I p - 2) → (p.space ≤ D p - 2) × (p.space ≤ I p - 2)
    go true e k = let q = leb-true (D p) (I p) e in (omega arith, omega arith)
    go false e k = let q = leb-false (D p) (I p) e in (omega arith, omega arith)

-- all six within their ranges make good parameters, with the first block form
all-within : (p : Description) → p.form ≡ 1 → wpb_good p.wpb ≡ true → within 1 p.k (most_key p) ≡ true → within p.k p.wpr (half p) ≡ true
    → within 0 p.space (most_space p) ≡ true → within 1 p.control 16383 ≡ true → within 2 p.n 262142 ≡ true → good_params p ≡ true
unfolding D I
all-within p first w k r s c n =
    let (even, w₁, w₂) = wpb-facts p.wpb w in
    let (k₁, k₂) = within_both 1 p.k (most_key p) k in
    let (k₃, k₄) = key-facts p k₂ k₁ in
    let (r₁, r₂) = within_both p.k p.wpr (half p) r in
    let (s₁, s₂) = space-facts p (within_both 0 p.space (most_space p) s).1 in
    let (c₁, c₂) = within_both 1 p.control 16383 c in
    let (n₁, n₂) = within_both 2 p.n 262142 n in
    good-yes
    p
    (record {
      wpb-even = eqb-true _ _ even;
      wpb-least = w₁;
      wpb-most = w₂;
      k-least = k₁;
      k-most = k₃;
      key = r₁;
      two_records = two-fit p p.wpr (omega arith) r₂;
      two-entries = two-fit p (p.k + 1) (omega arith) k₄;
      space-records = s₁;
      space-entries = s₂;
      control-least = c₁;
      control-most = c₂;
      n-least = n₁;
      n-most = n₂;
      form-least = omega arith;
      form-most = omega arith;
    })

-- a parameter is told where it is out of its range, or the next are looked at
told : (what : Parameter) (v a b : ℕ) (more : Fault) → (within a v b ≡ false → Outside (out_fault what v a b)) → (within a v b ≡ true → Outside more) → Outside (ranged what v a b more)
unfolding ranged
told what v a b more f g = go (within a v b) refl
  where
    go : (t : Bool) → within a v b ≡ t → Outside (cond t more (out_fault what v a b))
    go true e = g e
    go false e = f e

pub range-outside : (p : Description) → p.form ≡ 1 → good_params p ≡ false → Outside (range_fault p)
unfolding range_fault out_fault
range-outside p first bad = go (wpb_good p.wpb) refl
  where
    last : (t : Bool) → within 2 p.n 262142 ≡ t → (within 2 p.n 262142 ≡ true → good_params p ≡ true) → within 2 p.n 262142 ≡ false
    last false e f = e
    last true e f = let z : ◌≡◌ {A = Bool} true false = sym (f e) ∙ bad in e ∙ z

    go : (t : Bool) → wpb_good p.wpb ≡ t
        → Outside (cond t (ranged K p.k 1 (most_key p) (ranged Wpr p.wpr p.k (half p) (ranged Space p.space 0 (most_space p) (ranged Control p.control 1 16383 (out_fault N p.n 2 262142))))) (out_fault Wpb p.wpb 6 4096))
    go false w = w
    go true w =
        told K p.k 1 (most_key p) _ (λ e. e) λ k.
        told Wpr p.wpr p.k (half p) _ (λ e. e) λ r.
        told Space p.space 0 (most_space p) _ (λ e. e) λ s.
        told Control p.control 1 16383 _ (λ e. e) λ c. last (within 2 p.n 262142) refl (all-within p first w k r s c)
