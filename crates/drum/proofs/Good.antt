-- What good parameters and right sizes are, as facts: the table of ranges, and the bounds of capacities and places that follow from it.
use mathlib.Core.Path.{◌≡◌, refl, sym, ◌∙◌}
use mathlib.Core.Bool.{Bool, true, false, not}
use mathlib.Core.List.{List, [], ◌∷◌}
use Prim.Native.Nat.{ℕ, ◌+◌, ◌*◌, ◌-◌, ◌/◌, ◌%◌, ◌≤◌, ◌<◌}
use native.Mathlib.Nat.{mul-le-mul, mul-le-mul_right, div-mul-le_self, div-le_self}
use native.Mathlib.Omega.{arith}
use borrow.Author.Tests.{le-leb, leb-true, eq-eqb, eqb-true, not-true, not-false}
use Rattle.std.specs.List.{list_all}
use Rattle.words.proofs.All.{and_both}
use Rattle.drum.specs.declared.Description.{Description}
use Rattle.drum.specs.Params.{D, I, FD, FI, master_size, file_size, every, most_sections, good_params, size_if, sized}

-- tests that all hold, one by one
abbrev pub Hold : List Bool → Type 0
Hold [] = Unit {0}
Hold (t ∷ ts) = (t ≡ true) × Hold ts

-- the library's `all`, of the tests themselves
pub all-every : (ts : List Bool) → list_all (λ (t : Bool). t) ts ≡ every ts
unfolding every
all-every [] = refl
all-every (t ∷ ts) = rw (all-every ts) refl

pub every-hold : (ts : List Bool) → every ts ≡ true → Hold ts
unfolding every
every-hold [] h = tt
every-hold (t ∷ ts) h = let (a, b) = and_both t (every ts) h in (a, every-hold ts b)

-- the table of ranges
pub record Good (p : Description) : Type 0 where
  pub wpb-even : p.wpb % 2 ≡ 0
  pub wpb-least : 6 ≤ p.wpb
  pub wpb-most : p.wpb ≤ 4096
  pub k-least : 1 ≤ p.k
  pub k-most : p.k ≤ 63
  pub key : p.k ≤ p.wpr
  pub two_records : 2 ≤ D p
  pub two-entries : 2 ≤ I p
  pub space-records : p.space ≤ D p - 2
  pub space-entries : p.space ≤ I p - 2
  pub control-least : 1 ≤ p.control
  pub control-most : p.control ≤ most_sections
  pub n-least : 2 ≤ p.n
  pub n-most : p.n ≤ 262142
  pub form-least : 1 ≤ p.form
  pub form-most : p.form ≤ 2

pub good-facts : (p : Description) → good_params p ≡ true → Good p
unfolding good_params
good-facts p h =
    let (even, (w₁, (w₂, (k₁, (k₂, (key, (d, (i, (sd, (si, (c₁, (c₂, (n₁, (n₂, (f₁, (f₂, u)))))))))))))))) = every-hold _ h in
    record {
      wpb-even = eqb-true _ _ even;
      wpb-least = leb-true _ _ w₁;
      wpb-most = leb-true _ _ w₂;
      k-least = leb-true _ _ k₁;
      k-most = leb-true _ _ k₂;
      key = leb-true _ _ key;
      two_records = leb-true _ _ d;
      two-entries = leb-true _ _ i;
      space-records = leb-true _ _ sd;
      space-entries = leb-true _ _ si;
      control-least = leb-true _ _ c₁;
      control-most = leb-true _ _ c₂;
      n-least = leb-true _ _ n₁;
      n-most = leb-true _ _ n₂;
      form-least = leb-true _ _ f₁;
      form-most = leb-true _ _ f₂;
    }

pub good-yes : (p : Description) → Good p → good_params p ≡ true
unfolding good_params every
good-yes p g =
    simp (eq-eqb _ _ g.wpb-even, le-leb _ _ g.wpb-least, le-leb _ _ g.wpb-most, le-leb _ _ g.k-least, le-leb _ _ g.k-most, le-leb _ _ g.key, le-leb _ _ g.two_records, le-leb _ _ g.two-entries, le-leb _ _ g.space-records, le-leb _ _ g.space-entries, le-leb _ _ g.control-least, le-leb _ _ g.control-most, le-leb _ _ g.n-least, le-leb _ _ g.n-most, le-leb _ _ g.form-least, le-leb _ _ g.form-most)

pub good-no : (p : Description) → (Good p → ⊥) → good_params p ≡ false
good-no p f = go (good_params p) refl
  where
    go : (b : Bool) → good_params p ≡ b → good_params p ≡ false
    go true e = absurd (f (good-facts p e))
    go false e = e

-- what follows: rows fit into a block, entries into the master, and no number grows large
pub record Caps (p : Description) : Type 0 where
  pub facts : Good p
  pub wpr-lt : p.wpr < p.wpb
  pub entry_lt : p.k + 1 < p.wpb
  pub records-fit : 1 + D p * p.wpr ≤ p.wpb
  pub entries_fit : 1 + I p * (p.k + 1) ≤ p.wpb
  pub d-most : D p ≤ 4096
  pub i-most : I p ≤ 4096
  pub fd_is : FD p ≡ D p - p.space
  pub fi-is : FI p ≡ I p - p.space
  pub fd-least : 2 ≤ FD p
  pub fi-least : 2 ≤ FI p
  pub sections-most : p.control * (p.k + 1) ≤ 1048512
  pub sections-fit : 3 + p.control * (p.k + 1) ≤ master_size p
  pub master-is : master_size p ≤ 4 + p.control * (p.k + 1)
  pub master-most : master_size p ≤ 1048516
  pub blocks-most : p.n * p.wpb ≤ 1073733632
  pub file-is : file_size p ≡ master_size p + p.n * p.wpb

pub caps : (p : Description) → good_params p ≡ true → Caps p
unfolding D I FD FI master_size file_size
caps p h =
    let g = good-facts p h in
    let r : (p.wpb - 1) / p.wpr * p.wpr ≤ p.wpb - 1 = div-mul-le_self (p.wpb - 1) p.wpr in
    let e : (p.wpb - 1) / (p.k + 1) * (p.k + 1) ≤ p.wpb - 1 = div-mul-le_self (p.wpb - 1) (p.k + 1) in
    let r₂ : 2 * p.wpr ≤ (p.wpb - 1) / p.wpr * p.wpr = mul-le-mul_right p.wpr g.two_records in
    let e₂ : 2 * (p.k + 1) ≤ (p.wpb - 1) / (p.k + 1) * (p.k + 1) = mul-le-mul_right (p.k + 1) g.two-entries in
    let d : (p.wpb - 1) / p.wpr ≤ p.wpb - 1 = div-le_self (p.wpb - 1) p.wpr in
    let i : (p.wpb - 1) / (p.k + 1) ≤ p.wpb - 1 = div-le_self (p.wpb - 1) (p.k + 1) in
    let e64 : p.k + 1 ≤ 64 = omega arith in
    let s : p.control * (p.k + 1) ≤ 16383 * 64 = mul-le-mul g.control-most e64 in
    let b : p.n * p.wpb ≤ 262142 * 4096 = mul-le-mul g.n-most g.wpb-most in
    let sd = g.space-records in
    let si = g.space-entries in
    record {
      facts = g;
      wpr-lt = omega arith;
      entry_lt = omega arith;
      records-fit = omega arith;
      entries_fit = omega arith;
      d-most = omega arith;
      i-most = omega arith;
      fd_is = refl;
      fi-is = refl;
      fd-least = omega arith;
      fi-least = omega arith;
      sections-most = s;
      sections-fit = omega arith;
      master-is = omega arith;
      master-most = omega arith;
      blocks-most = b;
      file-is = refl;
    }

-- a file and a buffer of the right lengths
pub record Sized (p : Description) (file buffer : ℕ) : Type 0 where
  pub good : good_params p ≡ true
  pub file-is : file ≡ file_size p
  pub buffer-is : buffer ≡ p.wpb

pub sized-facts : (p : Description) (file buffer : ℕ) → sized p file buffer ≡ true → Sized p file buffer
unfolding sized
sized-facts p file buffer h =
    let (g, (f, (b, u))) = every-hold _ h in
    record { good = g; file-is = eqb-true _ _ f; buffer-is = eqb-true _ _ b }

-- a size is taken of good parameters alone; t is the code's test of them
module _ (p : Description) (t : Bool) where
  pub was-good : t ≡ good_params p → not t ≡ false → good_params p ≡ true
  was-good e h = sym e ∙ not-false t h

  pub size_none : (n : ℕ) → t ≡ good_params p → not t ≡ true → 0 ≡ size_if p n
  unfolding size_if
  size_none n e h = simp (sym e ∙ not-true t h)

  pub size-some : (n r : ℕ) → r ≡ n → t ≡ good_params p → not t ≡ false → r ≡ size_if p n
  unfolding size_if
  size-some n r i e h = simp (was-good e h) i

pub size-good : (p : Description) (n r : ℕ) → r ≡ size_if p n → good_params p ≡ true → r ≡ n
unfolding size_if
size-good p n r e g = e ∙ simp g
