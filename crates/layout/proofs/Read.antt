-- The tree that is read off a file, place by place, and the facts that OPEN's walk asks of each of its blocks.
use Prim.Native.Nat.{ℕ, zero, suc, ◌+◌, ◌*◌, ◌-◌}
use mathlib.Core.Path.{◌≡◌, refl, ap}
use mathlib.Core.List.{List, [], ◌∷◌}
use mathlib.Core.Bool.{true, false}
use native.Mathlib.Omega.{arith}
use lib.Dec.{eqb}
use lib.ListN.{length, get_or, drop}
use Rattle.words.specs.Words.{part, all_are}
use Rattle.words.specs.Keys.{same_key}
use Rattle.drum.specs.declared.Description.{Description}
use Rattle.drum.specs.Params.{D, I, start, index_shape, detail_shape}
use Rattle.drum.specs.Blocks.{sections, chain_head, lowest_unused, block_at, link_place, link_in, is_free, Block}
use Rattle.layout.specs.Inspect.{key_held, named, last_row, records_ok}
use Rattle.layout.specs.Tree.{Leaf, Section, Tree}
use Rattle.layout.specs.Holds.{OneTo}
use Rattle.layout.proofs.Good.{row_more}

-- the counts of the detail block, and of the index block, that starts at s
abbrev pub records_at : Description → List ℕ → ℕ → ℕ
records_at p f s = get_or f s 0 - (detail_shape p).tag

abbrev pub entries_at : Description → List ℕ → ℕ → ℕ
entries_at p f s = get_or f s 0 - (index_shape p).tag

-- the block that free block b links to
abbrev pub next_free : Description → List ℕ → ℕ → ℕ
next_free p f b = link_in p (block_at p f b)

unfoldable pub rows_at : List ℕ → ℕ → ℕ → ℕ → List (List ℕ)
rows_at f stride a zero = []
rows_at f stride a (suc n) = part a stride f ∷ rows_at f stride (a + stride) n

unfoldable pub leaf_at : Description → List ℕ → ℕ → Leaf
leaf_at p f e =
    let s = start p (named p f e) in
    record { bound = key_held p f e; block = named p f e; records = rows_at f p.wpr (s + 1) (records_at p f s) }

unfoldable pub leaves_at : Description → List ℕ → ℕ → ℕ → List Leaf
leaves_at p f e zero = []
leaves_at p f e (suc n) = leaf_at p f e ∷ leaves_at p f (e + (p.k + 1)) n

unfoldable pub section_at : Description → List ℕ → ℕ → Section
section_at p f e = let s = start p (named p f e) in record { block = named p f e; leaves = leaves_at p f (s + 1) (entries_at p f s) }

unfoldable pub sections_at : Description → List ℕ → ℕ → ℕ → List Section
sections_at p f e zero = []
sections_at p f e (suc n) = section_at p f e ∷ sections_at p f (e + (p.k + 1)) n

unfoldable pub chain_at : Description → List ℕ → ℕ → ℕ → List ℕ
chain_at p f zero b = []
chain_at p f (suc fuel) b = elim (eqb b 0) [ true ↦ [] | false ↦ b ∷ chain_at p f fuel (next_free p f b) ]

unfoldable pub tree_at : Description → List ℕ → Tree
tree_at p f = record { sections = sections_at p f 3 (sections f); chain = chain_at p f p.n (chain_head f); lowest = lowest_unused f }

-- a block's count, its word 0 less the tag, and the words behind its rows
pub record RowsOk (p : Description) (f : List ℕ) (most stride tag s n : ℕ) : Type 0 where
  pub count : n ≡ get_or f s 0 - tag
  pub fits : OneTo most n
  pub behind : all_are 0 (part (s + (1 + n * stride)) (p.wpb - (1 + n * stride)) f) ≡ true

-- the detail block under the entry at place e, the key before at place low
pub record LeafFacts (p : Description) (f : List ℕ) (low e : ℕ) : Type 0 where
  pub rows : RowsOk p f (D p) p.wpr (detail_shape p).tag (start p (named p f e)) (records_at p f (start p (named p f e)))
  pub good : records_ok p f low e (start p (named p f e) + 1) (records_at p f (start p (named p f e))) ≡ true

unfoldable pub LeavesAt : Description → List ℕ → ℕ → ℕ → ℕ → Type 0
LeavesAt p f low e zero = Unit {0}
LeavesAt p f low e (suc n) = Block p (named p f e) × LeafFacts p f low e × LeavesAt p f e (e + (p.k + 1)) n

-- the index block under the master's entry at place e
pub record SectionFacts (p : Description) (f : List ℕ) (low e : ℕ) : Type 0 where
  pub rows : RowsOk p f (I p) (p.k + 1) (index_shape p).tag (start p (named p f e)) (entries_at p f (start p (named p f e)))
  pub same : same_key (key_held p f (last_row (start p (named p f e) + 1) (p.k + 1) (entries_at p f (start p (named p f e))))) (key_held p f e) ≡ true
  pub leaves : LeavesAt p f low (start p (named p f e) + 1) (entries_at p f (start p (named p f e)))

unfoldable pub Sections : Description → List ℕ → ℕ → ℕ → ℕ → Type 0
Sections p f low e zero = Unit {0}
Sections p f low e (suc n) = Block p (named p f e) × SectionFacts p f low e × Sections p f e (e + (p.k + 1)) n

-- the free blocks: their kind and the words behind the link, and the links, from b on
unfoldable pub Chain : Description → List ℕ → List ℕ → Type 0
Chain p f [] = Unit {0}
Chain p f (b ∷ bs) =
    Block p b × (is_free p (block_at p f b) ≡ true) × (all_are 0 (drop (link_place p + 1) (block_at p f b)) ≡ true) × Chain p f bs

unfoldable pub Linked : Description → List ℕ → ℕ → List ℕ → Type 0
Linked p f b [] = b ≡ 0
Linked p f b (c ∷ cs) = (b ≡ c) × Linked p f (next_free p f c) cs

-- how many were read
pub rows-length : (f : List ℕ) (stride n a : ℕ) → length (rows_at f stride a n) ≡ n
unfolding rows_at
rows-length f stride zero a = refl
rows-length f stride (suc n) a = ap suc (rows-length f stride n (a + stride))

pub leaves-length : (p : Description) (f : List ℕ) (n a : ℕ) → length (leaves_at p f a n) ≡ n
unfolding leaves_at
leaves-length p f zero a = refl
leaves-length p f (suc n) a = ap suc (leaves-length p f n (a + (p.k + 1)))

pub sections-length : (p : Description) (f : List ℕ) (n e : ℕ) → length (sections_at p f e n) ≡ n
unfolding sections_at
sections-length p f zero e = refl
sections-length p f (suc n) e = ap suc (sections-length p f n (e + (p.k + 1)))

-- the chain, a block at a time
pub chain-none : (p : Description) (f : List ℕ) (fuel b : ℕ) → b ≡ 0 → chain_at p f fuel b ≡ []
unfolding chain_at
chain-none p f zero b e = refl
chain-none p f (suc fuel) b e = rw (e, chain_at)

pub chain-some : (p : Description) (f : List ℕ) (fuel b : ℕ) → eqb b 0 ≡ false
    → chain_at p f (suc fuel) b ≡ b ∷ chain_at p f fuel (next_free p f b)
unfolding chain_at
chain-some p f fuel b e = rw (e, chain_at)

-- the place of the last of n rows
pub last-next : (a stride n : ℕ) → last_row (a + stride) stride (suc n) ≡ last_row a stride (suc (suc n))
last-next a stride n =
    let m = row_more n stride in
    let d : suc n - 1 ≡ n = omega arith in
    let d' : suc (suc n) - 1 ≡ suc n = omega arith in
    rw (d, d') (omega arith)

pub last_one : (a stride : ℕ) → last_row a stride 1 ≡ a
last_one a stride = omega arith
