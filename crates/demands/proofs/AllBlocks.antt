-- A tree that stands in a file has all its blocks: the detail and index blocks in use, those on the chain and those never used are N.
use Prim.Native.Nat.{ℕ, zero, suc, ◌+◌, ◌≤◌}
use mathlib.Core.Path.{◌≡◌, refl, sym, ap, ◌∙◌}
use mathlib.Core.List.{List, [], ◌∷◌, ◌++◌, map}
use native.Mathlib.Omega.{arith}
use native.Mathlib.Decide.{dec_le, ℕ_discrete}
use lib.ListN.{length, length-append, length-map}
use borrow.Author.Tests.{le-leb}
use Rattle.drum.specs.declared.Description.{Description}
use Rattle.layout.specs.Tree.{Section}
use Rattle.demands.proofs.Cells.{Cell, is, is-self, is_same, is-not, weigh, cell_times}
use Rattle.demands.proofs.Trees.{leaves_in, leaf_cell, index_text, cells_of}
use Rattle.demands.proofs.Holds.{Free, HoldsCells, inside, inside-le, chain_cells, fresh_cells, free_cells}
use Rattle.demands.proofs.Places.{inside-low}

-- a number of each block 1..n, summed
unfoldable over : (ℕ → ℕ) → ℕ → ℕ
over w zero = 0
over w (suc n) = w (suc n) + over w n

over-ext : (v w : ℕ → ℕ) → ((b : ℕ) → v b ≡ w b) → (n : ℕ) → over v n ≡ over w n
unfolding over
over-ext v w e zero = refl
over-ext v w e (suc n) = omega (arith, e (suc n), over-ext v w e n)

over-plus : (v w : ℕ → ℕ) (n : ℕ) → over (λ b. v b + w b) n ≡ over v n + over w n
unfolding over
over-plus v w zero = omega arith
over-plus v w (suc n) = omega (arith, over-plus v w n)

over_zero : (n : ℕ) → over (λ b. 0) n ≡ 0
unfolding over
over_zero zero = refl
over_zero (suc n) = omega (arith, over_zero n)

-- ---- 1 for a block of the file, else 0

inside_one : (n b : ℕ) → 1 ≤ b → b ≤ n → inside n b ≡ 1
unfolding inside
inside_one n b l u = simp (le-leb 1 b l, le-leb b n u)

inside-none : (n b : ℕ) → (1 ≤ b → b ≤ n → ⊥) → inside n b ≡ 0
inside-none n b h = go (ℕ_discrete (inside n b) 0)
  where
    go : Dec (inside n b ≡ 0) → inside n b ≡ 0
    go (yes e) = e
    go (no z) = let i = inside-low n b (omega arith) in absurd (h i.0 i.1)

inside-more : (a n : ℕ) → inside (suc n) a ≡ is a (suc n) + inside n a
inside-more a n = go (ℕ_discrete a (suc n)) (dec_le 1 a) (dec_le a n)
  where
    go : Dec (a ≡ suc n) → Dec (1 ≤ a) → Dec (a ≤ n) → inside (suc n) a ≡ is a (suc n) + inside n a
    go (yes e) d₁ d₂ = omega (arith, inside_one (suc n) a (omega arith) (omega arith), inside-none n a (λ l u. omega arith), is_same a (suc n) e)
    go (no z) (no l) d₂ = omega (arith, inside-none (suc n) a (λ k u. omega arith), inside-none n a (λ k u. omega arith), is-not a (suc n) z)
    go (no z) (yes l) (yes u) = omega (arith, inside_one (suc n) a l (omega arith), inside_one n a l u, is-not a (suc n) z)
    go (no z) (yes l) (no u) = omega (arith, inside-none (suc n) a (λ k v. z (omega arith)), inside-none n a (λ k v. u v), is-not a (suc n) z)

over-is : (a n : ℕ) → over (is a) n ≡ inside n a
unfolding over
over-is a zero = sym (inside-none 0 a (λ l u. omega arith))
over-is a (suc n) = omega (arith, over-is a n, inside-more a n)

over-inside : (n m : ℕ) → m ≤ n → over (inside n) m ≡ m
unfolding over
over-inside n zero l = refl
over-inside n (suc m) l = omega (arith, over-inside n m (omega arith), inside_one n (suc m) (omega arith) l)

-- each cell of a block of the file is counted once
over-times : (n : ℕ) (cs : List Cell) → ((b : ℕ) → 1 ≤ cell_times b cs → 1 ≤ inside n b) → over (λ b. cell_times b cs) n ≡ length cs
unfolding cell_times weigh
over-times n [] h = over_zero n
over-times n (c ∷ cs) h =
    let one : inside n c.0 ≡ 1 = let l : 1 ≤ inside n c.0 = h c.0 (omega (arith, is-self c.0)) in omega (arith, inside-le n c.0) in
    over-plus (is c.0) (λ b. weigh (λ d. is d.0 b) cs) n ∙ omega (arith, one, over-is c.0 n, over-times n cs (λ b l. h b (omega arith)))

-- ---- so there are N cells

chain_length : (p : Description) (cs : List ℕ) → length (chain_cells p cs) ≡ length cs
chain_length p [] = refl
chain_length p (c ∷ cs) = ap suc (chain_length p cs)

fresh-length : (p : Description) (b n : ℕ) → length (fresh_cells p b n) ≡ n
fresh-length p b zero = refl
fresh-length p b (suc n) = ap suc (fresh-length p (b + 1) n)

cells-length : (p : Description) (ss : List Section) → length (cells_of p ss) ≡ length ss + length (leaves_in ss)
unfolding cells_of
cells-length p [] = refl
cells-length p (s ∷ ss) =
    let here : List Cell = (s.block, index_text p s.leaves) ∷ map (leaf_cell p) s.leaves in
    omega (arith, length-append here (cells_of p ss), length-map s.leaves (leaf_cell p), cells-length p ss, length-append s.leaves (leaves_in ss))

-- every block below word 2 is in use or on the chain
pub below-lowest : (p : Description) (master : List ℕ) (text : ℕ → List ℕ) (ss : List Section) (f : Free) → HoldsCells p master text ss f
    → f.lowest ≡ 1 + (length (leaves_in ss) + length ss) + length f.chain
unfolding free_cells
below-lowest p master text ss f h =
    let cs : List Cell = cells_of p ss ++ free_cells p f in
    let all : over (λ b. cell_times b cs) p.n ≡ length cs = over-times p.n cs (λ b l. omega (arith, h.once b)) in
    let n : over (λ b. cell_times b cs) p.n ≡ p.n
    = over-ext (λ b. cell_times b cs) (inside p.n) h.once p.n ∙ over-inside p.n p.n (omega arith) in
    let free : length (free_cells p f) ≡ length f.chain + f.spare
    = omega (
      arith,
      length-append (chain_cells p f.chain) (fresh_cells p f.lowest f.spare),
      chain_length p f.chain,
      fresh-length p f.lowest f.spare,
    ) in
    omega (arith, h.numbers, all, n, length-append (cells_of p ss) (free_cells p f), cells-length p ss, free)
