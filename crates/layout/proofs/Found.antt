-- What OPEN's walk has found where it passes: the facts of each block of the tree that is read off the file, and that its blocks were
-- marked one by one.
use Prim.Native.Nat.{ℕ, zero, suc, ◌+◌, ◌*◌, ◌-◌}
use mathlib.Core.Path.{◌≡◌, refl, sym, ◌∙◌}
use mathlib.Core.List.{List}
use mathlib.Core.Bool.{Bool, true, false}
use native.Mathlib.Omega.{arith}
use lib.Dec.{eqb}
use lib.ListN.{length, get_or, drop, length-replicate}
use borrow.Author.Tests.{eqb-true}
use Rattle.words.specs.Words.{part, zeros, all_are, all_words}
use Rattle.words.specs.Keys.{same_key}
use Rattle.numbers.specs.Numbers.{bad_file}
use Rattle.numbers.specs.Checked.{Checked, passed, refused, ◌>>=◌, ◌>>◌, require, within}
use Rattle.table.specs.declared.Shape.{Shape}
use Rattle.drum.specs.declared.Description.{Description}
use Rattle.drum.specs.Params.{D, I, start, index_shape, detail_shape}
use Rattle.drum.specs.Blocks.{sections, chain_head, lowest_unused, block_at, link_place, is_free, Block}
use Rattle.layout.specs.Inspect.{key_held, named, last_row, records_ok, rows_in, marked, through, detail_held, index_held, chain_held, rest_ok, master_ok, walked}
use Rattle.layout.specs.Inspect.{layout_marks}
use Rattle.layout.specs.Tree.{leaf_blocks, blocks_in}
use Rattle.layout.specs.Holds.{OneTo}
use Rattle.numbers.proofs.Passed.{Passed, chain, bind-passed, then-passed, clash, required, ranged}
use Rattle.layout.proofs.Marks.{mark_all, mark-append, mark-facts, mark-length, all-length, one}
use Rattle.layout.proofs.Read.{RowsOk, LeafFacts, LeavesAt, Sections, Chain, Linked, leaf_at, leaves_at, section_at, sections_at, chain_at, chain-none}
use Rattle.layout.proofs.Read.{entries_at, next_free, chain-some}

rows-lines : (p : Description) (f : List ℕ) (most : ℕ) (h : Shape) (s n : ℕ) (x : Bool)
    → within 1 most (get_or f s 0 - h.tag) ≡ passed n
    → require (all_are 0 (part (s + (1 + n * h.stride)) (p.wpb - (1 + n * h.stride)) f)) bad_file ≡ passed x → RowsOk p f most h.stride h.tag s n
rows-lines p f most h s n x c z =
    let (lo, hi, e) = ranged 1 most (get_or f s 0 - h.tag) n c in
    record { count = sym e; fits = (rw e at lo, rw e at hi); behind = required _ _ _ z }

rows-facts : (p : Description) (f : List ℕ) (most : ℕ) (h : Shape) (s : ℕ) → Passed (RowsOk p f most h.stride h.tag s) (rows_in p f most h s)
unfolding rows_in
rows-facts p f most h s = search (chain, rows-lines) depth 9

-- a mark that was set, on marks of the file's number of blocks
mark-inside : (p : Description) (m b : ℕ) (ms ms' : List ℕ) → length ms ≡ p.n → marked m b ms ≡ passed ms' → Block p b × (length ms' ≡ p.n)
mark-inside p m b ms ms' h e =
    let w = mark-facts m b ms ms' e in
    ((w.inside.0, omega (arith, w.inside)), mark-length m b ms ms' w ∙ h)

-- the detail block
record DetailFacts (p : Description) (f : List ℕ) (low e : ℕ) (ms ms' : List ℕ) : Type 0 where
  mark : marked 1 (named p f e) ms ≡ passed ms'
  leaf : LeafFacts p f low e

detail-lines : (p : Description) (f : List ℕ) (low e : ℕ) (ms ms' : List ℕ) (n : ℕ) (x : Bool)
    → marked 1 (named p f e) ms ≡ passed ms' → rows_in p f (D p) (detail_shape p) (start p (named p f e)) ≡ passed n
    → require (records_ok p f low e (start p (named p f e) + 1) n) bad_file ≡ passed x → DetailFacts p f low e ms ms'
unfolding detail_shape
detail-lines p f low e ms ms' n x m r g =
    let w = (rows-facts p f (D p) (detail_shape p) (start p (named p f e))).holds n r in
    record { mark = m; leaf = record { rows = rw w.count at w; good = required _ _ _ (rw w.count at g) } }

detail-facts : (p : Description) (f : List ℕ) (low e : ℕ) (ms : List ℕ) → Passed (DetailFacts p f low e ms) (detail_held p f low e ms)
unfolding detail_held
detail-facts p f low e ms = search (chain, detail-lines) depth 12

-- the index block
record IndexFacts (p : Description) (f : List ℕ) (low e : ℕ) (ms ms' : List ℕ) : Type 0 where
  middle : List ℕ
  mark : marked 1 (named p f e) ms ≡ passed middle
  rows : RowsOk p f (I p) (p.k + 1) (index_shape p).tag (start p (named p f e)) (entries_at p f (start p (named p f e)))
  same : same_key (key_held p f (last_row (start p (named p f e) + 1) (p.k + 1) (entries_at p f (start p (named p f e))))) (key_held p f e) ≡ true
  below : through (detail_held p f) (p.k + 1) low (start p (named p f e) + 1) (entries_at p f (start p (named p f e))) middle ≡ passed ms'

index-lines : (p : Description) (f : List ℕ) (low e : ℕ) (ms middle : List ℕ) (n : ℕ) (x : Bool)
    → marked 1 (named p f e) ms ≡ passed middle → rows_in p f (I p) (index_shape p) (start p (named p f e)) ≡ passed n
    → require (same_key (key_held p f (last_row (start p (named p f e) + 1) (p.k + 1) n)) (key_held p f e)) bad_file ≡ passed x
    → Passed (IndexFacts p f low e ms) (through (detail_held p f) (p.k + 1) low (start p (named p f e) + 1) n middle)
unfolding index_shape
index-lines p f low e ms middle n x m r g =
    let w = (rows-facts p f (I p) (index_shape p) (start p (named p f e))).holds n r in
    record {
      holds = λ ms' t. record {
        middle = middle;
        mark = m;
        rows = rw w.count at w;
        same = required _ _ _ (rw w.count at g);
        below = rw w.count at t;
      };
    }

index-facts : (p : Description) (f : List ℕ) (low e : ℕ) (ms : List ℕ) → Passed (IndexFacts p f low e ms) (index_held p f low e ms)
unfolding index_held
index-facts p f low e ms = search (chain, index-lines) depth 12

-- all entries of an index block
leaves-found : (p : Description) (f : List ℕ) (n low e : ℕ) (ms ms' : List ℕ) → length ms ≡ p.n
    → through (detail_held p f) (p.k + 1) low e n ms ≡ passed ms'
    → (mark_all 1 (leaf_blocks (leaves_at p f e n)) ms ≡ passed ms') × LeavesAt p f low e n
unfolding through leaves_at leaf_at leaf_blocks mark_all LeavesAt
leaves-found p f zero low e ms ms' h q = (q, tt)
leaves-found p f (suc n) low e ms ms' h q =
    let (s, q₁, q₂) = bind-passed (detail_held p f low e ms) (through (detail_held p f) (p.k + 1) e (e + (p.k + 1)) n) ms' q in
    let w = (detail-facts p f low e ms).holds s q₁ in
    let (b, h') = mark-inside p 1 (named p f e) ms s h w.mark in
    let (m, l) = leaves-found p f n e (e + (p.k + 1)) s ms' h' q₂ in
    (rw w.mark m, (b, w.leaf, l))

-- all sections
sections-found : (p : Description) (f : List ℕ) (n low e : ℕ) (ms ms' : List ℕ) → length ms ≡ p.n
    → through (index_held p f) (p.k + 1) low e n ms ≡ passed ms'
    → (mark_all 1 (blocks_in (sections_at p f e n)) ms ≡ passed ms') × Sections p f low e n
unfolding through sections_at section_at blocks_in mark_all Sections
sections-found p f zero low e ms ms' h q = (q, tt)
sections-found p f (suc n) low e ms ms' h q =
    let (s, q₁, q₂) = bind-passed (index_held p f low e ms) (through (index_held p f) (p.k + 1) e (e + (p.k + 1)) n) ms' q in
    let w = (index-facts p f low e ms).holds s q₁ in
    let (b, h') = mark-inside p 1 (named p f e) ms w.middle h w.mark in
    let a = start p (named p f e) in
    let ls = leaf_blocks (leaves_at p f (a + 1) (entries_at p f a)) in
    let (m, l) = leaves-found p f (entries_at p f a) low (a + 1) w.middle s h' w.below in
    let (m', ss) = sections-found p f n e (e + (p.k + 1)) s ms' (all-length 1 one ls w.middle s m ∙ h') q₂ in (
      rw w.mark (mark-append 1 ls (blocks_in (sections_at p f (e + (p.k + 1)) n)) w.middle ∙ rw m m'),
      (b, record { rows = w.rows; same = w.same; leaves = l }, ss),
    )

-- the chain
pub record ChainFacts (p : Description) (f : List ℕ) (b : ℕ) (cs ms ms' : List ℕ) : Type 0 where
  pub marks : mark_all 2 cs ms ≡ passed ms'
  pub texts : Chain p f cs
  pub links : Linked p f b cs

module _ (p : Description) (f : List ℕ) where
  abbrev behind : ℕ → ℕ → List ℕ → Checked (List ℕ)
  behind fuel b m = require (all_are 0 (drop (link_place p + 1) (block_at p f b))) bad_file >> chain_held p f fuel (next_free p f b) m

  abbrev onward : ℕ → ℕ → List ℕ → Checked (List ℕ)
  onward fuel b m = require (is_free p (block_at p f b)) bad_file >> behind fuel b m

  chain-found : (fuel b : ℕ) (ms ms' : List ℕ) → length ms ≡ p.n → chain_held p f fuel b ms ≡ passed ms'
      → ChainFacts p f b (chain_at p f fuel b) ms ms'
  unfolding chain_held mark_all Chain Linked chain_at
  chain-found zero b ms ms' k q = go (eqb b 0) refl q
    where
      go : (t : Bool) → eqb b 0 ≡ t → (elim t [ true ↦ passed ms | false ↦ refused bad_file ]) ≡ passed ms'
          → ChainFacts p f b (chain_at p f zero b) ms ms'
      go true e q = record { marks = q; texts = tt; links = eqb-true _ _ e }
      go false e q = clash _ _ q
  chain-found (suc fuel) b ms ms' k q = go (eqb b 0) refl q (λ m. chain-found fuel (next_free p f b) m ms')
    where
      go : (t : Bool) → eqb b 0 ≡ t → (elim t [ true ↦ passed ms | false ↦ marked 2 b ms >>= onward fuel b ]) ≡ passed ms'
          → ((m : List ℕ) → length m ≡ p.n → chain_held p f fuel (next_free p f b) m ≡ passed ms'
          → ChainFacts p f (next_free p f b) (chain_at p f fuel (next_free p f b)) m ms')
          → ChainFacts p f b (chain_at p f (suc fuel) b) ms ms'
      go true e q h =
          let z : b ≡ 0 = eqb-true _ _ e in
          rw (chain-none p f (suc fuel) b z) (record { marks = q; texts = tt; links = z })
      go false e q h =
          let (m, q₁, q₂) = bind-passed (marked 2 b ms) (onward fuel b) ms' q in
          let (y, q₃) = then-passed (is_free p (block_at p f b)) bad_file (behind fuel b m) ms' q₂ in
          let (z, q₄) = then-passed (all_are 0 (drop (link_place p + 1) (block_at p f b))) bad_file (chain_held p f fuel (next_free p f b) m) ms' q₃ in
          let (i, k') = mark-inside p 2 b ms m k q₁ in
          let w = h m k' q₄ in
          rw (chain-some p f fuel b e) (record { marks = rw q₁ w.marks; texts = (i, y, z, w.texts); links = (refl, w.links) })

-- the whole
pub record LayoutFacts (p : Description) (f : List ℕ) (ms : List ℕ) : Type 0 where
  pub words : all_words f ≡ true
  pub control : OneTo p.control (sections f)
  pub lowest : OneTo (suc p.n) (lowest_unused f)
  pub master : master_ok p f (sections f) ≡ true
  pub middle : List ℕ
  pub reached : mark_all 1 (blocks_in (sections_at p f 3 (sections f))) (zeros p.n) ≡ passed middle
  pub tree : Sections p f 0 3 (sections f)
  pub free : ChainFacts p f (chain_head f) (chain_at p f p.n (chain_head f)) middle ms
  pub rest : rest_ok p f (lowest_unused f) ms ≡ true

walk-lines : (p : Description) (f : List ℕ) (a : Bool) (n l : ℕ) (middle ms : List ℕ) (x y : Bool)
    → require (all_words f) bad_file ≡ passed a → within 1 p.control (sections f) ≡ passed n → within 1 (suc p.n) (lowest_unused f) ≡ passed l
    → require (master_ok p f (sections f)) bad_file ≡ passed x
    → through (index_held p f) (p.k + 1) 0 3 (sections f) (zeros p.n) ≡ passed middle
    → chain_held p f p.n (chain_head f) middle ≡ passed ms → require (rest_ok p f (lowest_unused f) ms) bad_file ≡ passed y → LayoutFacts p f ms
walk-lines p f a n l middle ms x y q₁ q₂ q₃ q₄ q₅ q₆ q₇ =
    let (s₁, s₂, e) = ranged 1 p.control (sections f) n q₂ in
    let (l₁, l₂, e') = ranged 1 (suc p.n) (lowest_unused f) l q₃ in
    let z = length-replicate {A = ℕ} p.n 0 in
    let (m, t) = sections-found p f (sections f) 0 3 (zeros p.n) middle z q₅ in
    let k = all-length 1 one (blocks_in (sections_at p f 3 (sections f))) (zeros p.n) middle m in
    record {
      words = required _ _ _ q₁;
      control = (s₁, s₂);
      lowest = (l₁, l₂);
      master = required _ _ _ q₄;
      middle = middle;
      reached = m;
      tree = t;
      free = chain-found p f p.n (chain_head f) middle ms (k ∙ z) q₆;
      rest = required _ _ _ q₇;
    }

pub layout-facts : (p : Description) (f : List ℕ) → Passed (LayoutFacts p f) (layout_marks p f)
unfolding layout_marks walked
layout-facts p f = search (chain, walk-lines) depth 14
