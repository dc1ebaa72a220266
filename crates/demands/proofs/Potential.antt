-- The four inequalities of the session formula, over one level's counts: the records of each detail block, or the entries of each index block.
-- Each row that comes in pays for splits and for blocks that are started, whichever it is.
use Prim.Native.Nat.{ℕ, suc, ◌+◌, ◌*◌, ◌-◌, ◌/◌, ◌≤◌}
use mathlib.Core.Path.{◌≡◌, refl, sym, subst}
use mathlib.Core.List.{List, [], ◌∷◌, ◌++◌}
use native.Mathlib.Omega.{arith}
use native.Mathlib.Nat.{zero-add}
use Rattle.table.specs.Splits.{low_count}
use Rattle.demands.proofs.Lists.{All, all_append, all_left, all_right}

-- what the counts are above the larger part of a split, summed
unfoldable pub excess : ℕ → List ℕ → ℕ
excess cap [] = 0
excess cap (c ∷ cs) = (c - low_count cap) + excess cap cs

-- no block holds more than its first row and n others, but for what is above the larger part of a split
abbrev Filled : ℕ → ℕ → List ℕ → Type 0
Filled cap n counts = All (λ c. c ≤ suc n + (c - low_count cap)) counts

-- the last count, or d where there is none
abbrev pub last_or : ℕ → List ℕ → ℕ
last_or d [] = d
last_or d (c ∷ cs) = last_or c cs

excess-append : (cap : ℕ) (xs ys : List ℕ) → excess cap (xs ++ ys) ≡ excess cap xs + excess cap ys
unfolding excess
excess-append cap [] ys = sym (zero-add (excess cap ys))
excess-append cap (x ∷ xs) ys = rw (excess-append cap xs ys) (omega arith)

filled_more : (cap n m : ℕ) → n ≤ m → (cs : List ℕ) → Filled cap n cs → Filled cap m cs
filled_more cap n m l [] h = tt
filled_more cap n m l (c ∷ cs) h = (omega (arith, h.0), filled_more cap n m l cs h.1)

pub last_or-append : (d : ℕ) (xs ys : List ℕ) → last_or d (xs ++ ys) ≡ last_or (last_or d xs) ys
last_or-append d [] ys = refl
last_or-append d (x ∷ xs) ys = last_or-append x xs ys

-- the last count grows no more than an earlier one does
last_or-le : (a b : ℕ) (ys : List ℕ) → a ≤ b → last_or a ys ≤ last_or b ys
last_or-le a b [] h = h
last_or-le a b (y ∷ ys) h = omega arith

last_or-suc : (a b : ℕ) (ys : List ℕ) → a ≤ suc b → last_or a ys ≤ suc (last_or b ys)
last_or-suc a b [] h = h
last_or-suc a b (y ∷ ys) h = omega arith

-- `adds` rows came in, `splits` full blocks of `cap` rows were split, and `starts` blocks were started behind a last one of `fill` rows or more.
-- `idle` of the rows paid for no split: a block begins with one row, and those that fill it up to the larger part of a split pay for none. So it
-- is `cap / 2` or more once a block has split
pub record Paid (cap fill : ℕ) (counts : List ℕ) (adds splits starts : ℕ) : Type 0 where
  pub idle : ℕ
  pub halves : (cap + 1) / 2 * splits + excess cap counts + idle ≤ adds
  pub filled : Filled cap idle counts
  pub first : 1 ≤ splits → cap / 2 ≤ idle
  pub fills : fill * starts + last_or 1 counts ≤ suc adds

pub paid-same : (cap fill : ℕ) (counts counts' : List ℕ) (adds adds' splits splits' starts starts' : ℕ) → counts ≡ counts' → adds ≡ adds' → splits ≡ splits'
    → starts ≡ starts'
    → Paid cap fill counts adds splits starts → Paid cap fill counts' adds' splits' starts'
paid-same cap fill counts counts' adds adds' splits splits' starts starts' e a s t h =
    subst (λ (z : List ℕ). Paid cap fill z adds' splits' starts') e (subst (λ (z : ℕ). Paid cap fill counts z splits' starts') a
    (subst (λ (z : ℕ). Paid cap fill counts adds z starts') s (subst (λ (z : ℕ). Paid cap fill counts adds splits z) t h)))

-- the count c of one block, among those before and behind it, becomes others
module _ (cap fill : ℕ) (big : 2 ≤ cap) (adds splits starts : ℕ) (xs : List ℕ) (c : ℕ) (ys : List ℕ) (h : Paid cap fill (xs ++ c ∷ ys) adds splits starts) where
  was : (cap + 1) / 2 * splits + (excess cap xs + ((c - low_count cap) + excess cap ys)) + h.idle ≤ adds
  unfolding excess
  was = rw (excess-append cap xs (c ∷ ys)) at h.halves

  was-here : c ≤ suc h.idle + (c - low_count cap)
  was-here = (all_right _ xs (c ∷ ys) h.filled).0

  was-last : fill * starts + last_or c ys ≤ suc adds
  was-last = rw (last_or-append 1 xs (c ∷ ys)) at h.fills

  -- others in its place
  filled-with : (n : ℕ) → h.idle ≤ n → (zs : List ℕ) → Filled cap n zs → Filled cap n (xs ++ (zs ++ ys))
  filled-with n l zs f = all_append _ xs (zs ++ ys) (filled_more cap h.idle n l xs (all_left _ xs (c ∷ ys) h.filled))
      (all_append _ zs ys f (filled_more cap h.idle n l ys (all_right _ xs (c ∷ ys) h.filled).1))

  -- a row comes in
  pub paid-add : Paid cap fill (xs ++ suc c ∷ ys) (suc adds) splits starts
  unfolding excess
  paid-add = record {
    idle = h.idle + (1 - (suc c - low_count cap));
    halves = rw (excess-append cap xs (suc c ∷ ys)) (omega (arith, was));
    filled = filled-with _ (omega arith) (suc c ∷ []) (omega (arith, was-here), tt);
    first = λ s. omega (arith, h.first s);
    fills = rw (last_or-append 1 xs (suc c ∷ ys)) (omega (arith, was-last, last_or-suc (suc c) c ys (omega arith)));
  }

  -- a row goes, or none does
  pub paid-less : (c' : ℕ) → c' ≤ c → Paid cap fill (xs ++ c' ∷ ys) adds splits starts
  unfolding excess
  paid-less c' l = record {
    idle = h.idle;
    halves = rw (excess-append cap xs (c' ∷ ys)) (omega (arith, was));
    filled = filled-with _ (omega arith) (c' ∷ []) (omega (arith, was-here), tt);
    first = h.first;
    fills = rw (last_or-append 1 xs (c' ∷ ys)) (omega (arith, was-last, last_or-le c' c ys l));
  }

  -- a row comes in, and the full block is split
  pub paid-split : c ≡ cap → Paid cap fill (xs ++ low_count cap ∷ ((cap + 1 - low_count cap) ∷ ys)) (suc adds) (suc splits) starts
  unfolding excess
  paid-split e = record {
    idle = h.idle;
    halves = rw (excess-append cap xs (low_count cap ∷ ((cap + 1 - low_count cap) ∷ ys))) (omega (arith, was));
    filled = filled-with _ (omega arith) (low_count cap ∷ ((cap + 1 - low_count cap) ∷ [])) (omega (arith, was-here), (omega (arith, was-here), tt));
    first = λ s. omega (arith, was-here);
    fills =
        rw (last_or-append 1 xs (low_count cap ∷ ((cap + 1 - low_count cap) ∷ ys)))
        (omega (arith, was-last, last_or-le (cap + 1 - low_count cap) c ys (omega arith)));
  }

  -- a row comes in, and starts a block behind the last one
  pub paid-start : ys ≡ [] → fill ≤ c → Paid cap fill (xs ++ c ∷ (1 ∷ [])) (suc adds) splits (suc starts)
  unfolding excess
  paid-start e l = record {
    idle = h.idle;
    halves = rw (excess-append cap xs (c ∷ (1 ∷ []))) (omega (arith, rw e at was));
    filled = rw e at (filled-with _ (omega arith) (c ∷ (1 ∷ [])) (was-here, (omega arith, tt)));
    first = h.first;
    fills = rw (last_or-append 1 xs (c ∷ (1 ∷ []))) (omega (arith, rw e at was-last));
  }

  -- the block goes, and is not the last one
  pub paid-gone : (y : ℕ) (zs : List ℕ) → ys ≡ y ∷ zs → Paid cap fill (xs ++ ys) adds splits starts
  unfolding excess
  paid-gone y zs e = record {
    idle = h.idle;
    halves = rw (excess-append cap xs ys) (omega (arith, was));
    filled = filled-with _ (omega arith) [] tt;
    first = h.first;
    fills = rw (last_or-append 1 xs ys, e) (rw e at was-last);
  }

-- a file just made: one block with one row
pub paid-made : (cap fill : ℕ) → 2 ≤ cap → Paid cap fill (1 ∷ []) 0 0 0
unfolding excess
paid-made cap fill big = record { idle = 0; halves = omega arith; filled = (omega arith, tt); first = λ s. absurd (omega arith); fills = omega arith }

-- what is promised of a level
pub paid-halves : (cap fill : ℕ) (counts : List ℕ) (adds splits starts : ℕ) → Paid cap fill counts adds splits starts → (cap + 1) / 2 * splits ≤ adds
paid-halves cap fill counts adds splits starts h = omega (arith, h.halves)

pub paid-first : (cap fill : ℕ) (counts : List ℕ) (adds splits starts : ℕ) → Paid cap fill counts adds splits starts
    → 1 ≤ splits → (cap + 1) / 2 * splits + cap / 2 ≤ adds
paid-first cap fill counts adds splits starts h s = omega (arith, h.halves, h.first s)

pub paid-fills : (cap fill : ℕ) (counts : List ℕ) (adds splits starts : ℕ) → Paid cap fill counts adds splits starts → 1 ≤ last_or 1 counts
    → fill * starts ≤ adds
paid-fills cap fill counts adds splits starts h l = omega (arith, h.fills)
