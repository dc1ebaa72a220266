-- The tree that a file holds: sections of leaves of rows, and the free cells.
use Prim.Native.Nat.{ℕ, suc}
use Rattle.drum.specs.declared.Description.{Description}
use Rattle.drum.specs.Params.{detail_shape, index_shape}
use mathlib.Core.Path.{◌≡◌, refl, sym}
use mathlib.Core.List.{List, [], ◌∷◌, ◌++◌, map, append_assoc}
use native.Mathlib.Omega.{arith}
use lib.ListN.{take}
use Rattle.words.specs.Keys.{val}
use Rattle.layout.specs.Tree.{Leaf, Section}
pub use Rattle.layout.specs.Tree.{leaves_in, records_in}
pub use Rattle.layout.proofs.Lists.{records-append}
use Rattle.demands.proofs.Order.{Asc, asc-append}
use Rattle.demands.proofs.Cells.{Cell}
unfoldable pub use Rattle.table.specs.Rows.{table}

-- the leaves of two lists of sections
pub leaves_in-append : (xs ys : List Section) → leaves_in (xs ++ ys) ≡ leaves_in xs ++ leaves_in ys
leaves_in-append [] ys = refl
leaves_in-append (x ∷ xs) ys = rw (leaves_in-append xs ys) (sym (append_assoc x.leaves (leaves_in xs) (leaves_in ys)))

-- ---- the order: over the number of a key's words

module _ (k : ℕ) where
  unfoldable pub key : List ℕ → ℕ
  key r = val (take k r)

  unfoldable pub bd : Leaf → ℕ
  bd l = val l.bound

  abbrev pub reach : ℕ → List Leaf → ℕ
  reach lo [] = lo
  reach lo (l ∷ ls) = reach (suc (bd l)) ls

  abbrev pub Ranged : ℕ → List Leaf → Type 0
  Ranged lo [] = Unit {0}
  Ranged lo (l ∷ ls) = Asc key lo l.records (suc (bd l)) × Ranged (suc (bd l)) ls

  pub reach-append : (lo : ℕ) (xs ys : List Leaf) → reach lo (xs ++ ys) ≡ reach (reach lo xs) ys
  reach-append lo [] ys = refl
  reach-append lo (x ∷ xs) ys = reach-append (suc (bd x)) xs ys

  pub ranged-append : (lo : ℕ) (xs ys : List Leaf) → Ranged lo xs → Ranged (reach lo xs) ys → Ranged lo (xs ++ ys)
  ranged-append lo [] ys p q = q
  ranged-append lo (x ∷ xs) ys p q = (p.0, ranged-append (suc (bd x)) xs ys p.1 q)

  pub ranged-left : (lo : ℕ) (xs ys : List Leaf) → Ranged lo (xs ++ ys) → Ranged lo xs
  ranged-left lo [] ys h = tt
  ranged-left lo (x ∷ xs) ys h = (h.0, ranged-left (suc (bd x)) xs ys h.1)

  pub ranged-right : (lo : ℕ) (xs ys : List Leaf) → Ranged lo (xs ++ ys) → Ranged (reach lo xs) ys
  ranged-right lo [] ys h = h
  ranged-right lo (x ∷ xs) ys h = ranged-right (suc (bd x)) xs ys h.1

  -- the contents of a ranged list of leaves ascend
  pub ranged-asc : (lo : ℕ) (ls : List Leaf) → Ranged lo ls → Asc key lo (records_in ls) (reach lo ls)
  ranged-asc lo [] h = omega arith
  ranged-asc lo (l ∷ ls) h = asc-append key lo l.records (suc (bd l)) (records_in ls) (reach (suc (bd l)) ls) h.0 (ranged-asc (suc (bd l)) ls h.1)

  -- leaves in the middle give way to others that end where they ended
  pub ranged-swap : (lo : ℕ) (bs ls ls' cs : List Leaf) → Ranged lo (bs ++ (ls ++ cs)) → Ranged (reach lo bs) ls'
      → reach (reach lo bs) ls' ≡ reach (reach lo bs) ls
      → Ranged lo (bs ++ (ls' ++ cs))
  ranged-swap lo bs ls ls' cs h g e =
      let m : Ranged (reach lo bs) (ls ++ cs) = ranged-right lo bs (ls ++ cs) h in
      ranged-append lo bs (ls' ++ cs) (ranged-left lo bs (ls ++ cs) h) (ranged-append (reach lo bs) ls' cs g (rw e (ranged-right (reach lo bs) ls cs m)))

  pub reach-swap : (lo : ℕ) (bs ls ls' cs : List Leaf) → reach (reach lo bs) ls' ≡ reach (reach lo bs) ls
      → reach lo (bs ++ (ls' ++ cs)) ≡ reach lo (bs ++ (ls ++ cs))
  reach-swap lo bs ls ls' cs e = simp reach-append (rw e)

-- ---- the cells that a tree asks for

unfoldable pub entry : Leaf → List ℕ
entry l = l.bound ++ (l.block ∷ [])

module _ (p : Description) where
  unfoldable pub leaf_cell : Leaf → Cell
  leaf_cell l = (l.block, table (detail_shape p) p.wpb l.records)

  unfoldable pub index_text : List Leaf → List ℕ
  index_text ls = table (index_shape p) p.wpb (map entry ls)

  unfoldable pub cells_of : List Section → List Cell
  cells_of [] = []
  cells_of (s ∷ ss) = ((s.block, index_text s.leaves) ∷ map leaf_cell s.leaves) ++ cells_of ss

  pub cells-append : (xs ys : List Section) → cells_of (xs ++ ys) ≡ cells_of xs ++ cells_of ys
  unfolding cells_of
  cells-append [] ys = refl
  cells-append (x ∷ xs) ys = rw (cells-append xs ys) (simp append_assoc)
