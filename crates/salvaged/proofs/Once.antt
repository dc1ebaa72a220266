-- Each block and place is met once, in ascending order.
use mathlib.Core.Path.{◌≡◌, refl, sym, ap}
use mathlib.Core.Bool.{Bool, true, false, cond, ◌&&◌}
use mathlib.Core.Logic.{◌⊎◌, inl, inr}
use mathlib.Core.List.{List, [], ◌∷◌, ◌++◌}
use Prim.Native.Nat.{ℕ, zero, suc, ◌+◌, ◌≤◌, ◌<◌}
use native.Mathlib.Omega.{arith}
use borrow.Author.Tests.{ne_eqb}
use lib.Dec.{eqb}
use Rattle.drum.specs.declared.Description.{Description}
use Rattle.drum.specs.Blocks.{block_at}
use Rattle.layout.specs.Holds.{All}
use Rattle.salvage.specs.Met.{Met, over, found, records_in, missed, places, met_in, met_from}
use Rattle.salvaged.proofs.Rows.{all_both, all-at}

abbrev pub block_of : Met → ℕ
block_of (over b m) = b
block_of (found b i r) = b

abbrev pub place_of : Met → ℕ
place_of (over b m) = 0
place_of (found b i r) = i

-- it is met at this block and place; none of a list is
abbrev pub here : ℕ → ℕ → Met → Bool
here b i m = eqb (block_of m) b && eqb (place_of m) i

abbrev pub Away : ℕ → ℕ → List Met → Type 0
Away b i ms = All (λ (m : Met). here b i m ≡ false) ms

pub other_block : (b i : ℕ) (m : Met) → (block_of m ≡ b → ⊥) → here b i m ≡ false
other_block b i m n = ap (λ (c : Bool). c && eqb (place_of m) i) (ne_eqb (block_of m) b n)

pub other_place : (b i : ℕ) (m : Met) → (place_of m ≡ i → ⊥) → here b i m ≡ false
other_place b i m n = go (eqb (block_of m) b)
  where
    go : (c : Bool) → (c && eqb (place_of m) i) ≡ false
    go true = ne_eqb (place_of m) i n
    go false = refl

pub all_map : {A : Type 0} (P Q : A → Type 0) → ((x : A) → P x → Q x) → (xs : List A) → All P xs → All Q xs
unfolding All
all_map P Q f [] a = tt
all_map P Q f (x ∷ xs) a = (f x a.0, all_map P Q f xs a.1)

-- ---- ascending

abbrev pub Later : ℕ → ℕ → Met → Type 0
Later b i m = (b < block_of m) ⊎ ((b ≡ block_of m) × (i < place_of m))

unfoldable pub Asc : List Met → Type 0
Asc [] = Unit {0}
Asc (m ∷ ms) = All (Later (block_of m) (place_of m)) ms × Asc ms

later-not : (b i : ℕ) (m : Met) → Later b i m → here b i m ≡ false
later-not b i m (inl h) = other_block b i m (λ e. omega arith)
later-not b i m (inr h) = other_place b i m (λ e. omega (arith, h.1))

earlier-not : (a m : Met) → Later (block_of a) (place_of a) m → here (block_of m) (place_of m) a ≡ false
earlier-not a m (inl h) = other_block (block_of m) (place_of m) a (λ e. omega arith)
earlier-not a m (inr h) = other_place (block_of m) (place_of m) a (λ e. omega (arith, h.1))

-- around one that is met there are no others at its block and place
pub asc-away : (ks : List Met) (m : Met) (bs : List Met) → Asc (ks ++ m ∷ bs) → Away (block_of m) (place_of m) ks × Away (block_of m) (place_of m) bs
unfolding All Asc
asc-away [] m bs a = (tt, all_map (Later (block_of m) (place_of m)) _ (later-not (block_of m) (place_of m)) bs a.0)
asc-away (x ∷ ks) m bs a =
    let (low, high) = asc-away ks m bs a.1 in
    ((earlier-not x m (all-at (Later (block_of x) (place_of x)) ks m bs a.0).0, low), high)

-- ---- the walk ascends

abbrev pub Within : ℕ → Met → Type 0
Within b m = block_of m ≡ b

abbrev pub From : ℕ → Met → Type 0
From b m = b ≤ block_of m

-- the places of a block: from i on
pub places-in : (b i : ℕ) (rs : List (List ℕ)) → All (λ (m : Met). (block_of m ≡ b) × (i ≤ place_of m)) (places b i rs)
unfolding All places
places-in b i [] = tt
places-in b i (r ∷ rs) =
    ((refl, omega arith), all_map _ _ (λ m h. (h.0, omega (arith, h.1))) (places b (i + 1) rs) (places-in b (i + 1) rs))

places-asc : (b i : ℕ) (rs : List (List ℕ)) → Asc (places b i rs)
unfolding All Asc places
places-asc b i [] = tt
places-asc b i (r ∷ rs) =
    (all_map _ (Later b i) (λ m h. inr (sym h.0, omega (arith, h.1))) (places b (i + 1) rs) (places-in b (i + 1) rs), places-asc b (i + 1) rs)

block-asc : (p : Description) (b : ℕ) (t : List ℕ) → Asc (met_in p b t) × All (Within b) (met_in p b t)
unfolding All Asc met_in
block-asc p b t = go (eqb (missed p t) 0)
  where
    go : (c : Bool) → let ms = cond c (places b 1 (records_in p t)) (over b (missed p t) ∷ []) in Asc ms × All (Within b) ms
    go true = (places-asc b 1 (records_in p t), all_map _ (Within b) (λ m h. h.0) (places b 1 (records_in p t)) (places-in b 1 (records_in p t)))
    go false = ((tt, tt), (refl, tt))

pub in_block : (p : Description) (b : ℕ) (t : List ℕ) → All (Within b) (met_in p b t)
in_block p b t = (block-asc p b t).1

asc-join : (b : ℕ) (xs ys : List Met) → Asc xs → Asc ys → All (Within b) xs → All (From (b + 1)) ys → Asc (xs ++ ys)
unfolding All Asc
asc-join b [] ys a c w f = c
asc-join b (x ∷ xs) ys a c w f = (
  all_both (Later (block_of x) (place_of x)) xs ys a.0 (all_map (From (b + 1)) (Later (block_of x) (place_of x)) (λ m h. inl (omega (arith, w.0, h))) ys f),
  asc-join b xs ys a.1 c w.1 f,
)

pub blocks_from : (p : Description) (copy : List ℕ) (n b : ℕ) → All (From b) (met_from p copy b n)
unfolding All met_from
blocks_from p copy zero b = tt
blocks_from p copy (suc n) b =
    all_both (From b) (met_in p b (block_at p copy b)) (met_from p copy (b + 1) n)
    (all_map (Within b) (From b) (λ m e. omega arith) (met_in p b (block_at p copy b)) (in_block p b (block_at p copy b)))
    (all_map (From (b + 1)) (From b) (λ m h. omega arith) (met_from p copy (b + 1) n) (blocks_from p copy n (b + 1)))

pub walk-asc : (p : Description) (copy : List ℕ) (n b : ℕ) → Asc (met_from p copy b n)
unfolding Asc met_from
walk-asc p copy zero b = tt
walk-asc p copy (suc n) b =
    asc-join b (met_in p b (block_at p copy b)) (met_from p copy (b + 1) n) (block-asc p b (block_at p copy b)).0 (walk-asc p copy n (b + 1))
    (in_block p b (block_at p copy b)) (blocks_from p copy n (b + 1))
