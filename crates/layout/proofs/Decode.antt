-- A tree that stands in a file is the one that is read off it.
use Prim.Native.Nat.{ℕ, zero, suc, ◌+◌, ◌*◌, ◌≤◌}
use mathlib.Core.Path.{◌≡◌, refl, sym, ap, ◌∙◌}
use mathlib.Core.List.{List, [], ◌∷◌, ◌++◌, flatten}
use native.Mathlib.Omega.{arith}
use native.Mathlib.Nat.{not-suc-le-zero, mul-le-mul_right}
use lib.ListN.{length}
use borrow.Author.Tests.{ne_eqb}
use Rattle.words.specs.Words.{part}
use Rattle.words.proofs.Parts.{length_part, part-add}
use Rattle.drum.specs.declared.Description.{Description}
use Rattle.drum.specs.Params.{D, I, start, index_shape, detail_shape}
use Rattle.drum.specs.Blocks.{Block}
use Rattle.layout.specs.Inspect.{key_held, named}
use Rattle.layout.specs.Tree.{Leaf, Section, bound_of, leaves_in, leaf_blocks, blocks_in}
use Rattle.layout.specs.Holds.{All, OneTo, LeafOk, LeavesOk, index_entries, master_entries, IndexIn, DetailIn}
use Rattle.layout.proofs.Good.{Sized, row_more, cap-d, cap-i, block_in_lem}
use Rattle.layout.proofs.Lists.{append-parts, length-flatten, all_left, all_right, all_blocks}
use Rattle.layout.proofs.Read.{Linked, Chain, rows_at, leaf_at, leaves_at, section_at, sections_at, chain_at, chain-none, chain-some}
use Rattle.layout.proofs.Read.{records_at, entries_at, next_free}
use Rattle.layout.proofs.Texts.{Words, block_words, entry-is}
use Rattle.layout.proofs.Trees.{leaves-left, leaves-right, bound-width, index-length}

-- rows, from words
rows_are : (f : List ℕ) (stride : ℕ) (rows : List (List ℕ)) (a : ℕ) → All (λ r. length r ≡ stride) rows → a + length rows * stride ≤ length f
    → part a (length rows * stride) f ≡ flatten rows → rows_at f stride a (length rows) ≡ rows
unfolding rows_at flatten All
rows_are f stride [] a w h e = refl
rows_are f stride (r ∷ rows) a (l, w) h e =
    let n = length rows * stride in
    let m = row_more (length rows) stride in
    let t : part a stride f ++ part (a + stride) n f ≡ r ++ flatten rows = sym (part-add a stride n f) ∙ ap (λ (x : ℕ). part a x f) (sym m) ∙ e in
    let (x, y) = append-parts (part a stride f) r (part (a + stride) n f) (flatten rows) (length_part a stride f (omega arith) ∙ sym l) t in
    rw (x, rows_are f stride rows (a + stride) w (omega arith) y)

abbrev mk_leaf : List ℕ → ℕ → List (List ℕ) → Leaf
mk_leaf b n r = record { bound = b; block = n; records = r }

leaf-eq : (l m : Leaf) → l.bound ≡ m.bound → l.block ≡ m.block → l.records ≡ m.records → l ≡ m
leaf-eq l m a b c = λ i. mk_leaf (a i) (b i) (c i)

abbrev mk_section : ℕ → List Leaf → Section
mk_section b ls = record { block = b; leaves = ls }

section-eq : (s t : Section) → s.block ≡ t.block → s.leaves ≡ t.leaves → s ≡ t
section-eq s t a b = λ i. mk_section (a i) (b i)

module _ (p : Description) (f : List ℕ) (z : Sized p f) where
  -- a detail block
  leaf-words : (l : Leaf) (before : List (List ℕ)) → LeafOk p before l → Block p l.block → DetailIn p f l
      → Words p f l.block ((detail_shape p).tag + length l.records) (flatten l.records)
  leaf-words l before o i t =
      let n = length-flatten p.wpr l.records o.widths in
      let m : length l.records * p.wpr ≤ D p * p.wpr = mul-le-mul_right p.wpr o.counted.1 in
      let fits = block_in_lem p f z l.block i in
      block_words p f l.block ((detail_shape p).tag + length l.records) (flatten l.records) fits (omega (arith, cap-d p z.good)) t

  leaf-is : (l : Leaf) (before : List (List ℕ)) (a : ℕ) → LeafOk p before l → Block p l.block → DetailIn p f l
      → key_held p f a ≡ l.bound → named p f a ≡ l.block → leaf_at p f a ≡ l
  unfolding leaf_at
  leaf-is l before a o i t k b =
      let w = leaf-words l before o i t in
      let s = start p l.block in
      let n = length-flatten p.wpr l.records o.widths in
      let m : length l.records * p.wpr ≤ D p * p.wpr = mul-le-mul_right p.wpr o.counted.1 in
      let h : s + 1 + length l.records * p.wpr ≤ length f = omega (arith, block_in_lem p f z l.block i, cap-d p z.good) in
      let r : rows_at f p.wpr (s + 1) (length l.records) ≡ l.records =
      rows_are f p.wpr l.records (s + 1) o.widths h (rw n at w.rows) in
      let c : records_at p f s ≡ length l.records = omega (arith, w.count) in
      leaf-eq _ l k b (rw (b, c) r)

  leaves-are : (before : List (List ℕ)) (ls : List Leaf) (a : ℕ) → LeavesOk p before ls → All (λ (l : Leaf). Block p l.block) ls
      → All (DetailIn p f) ls → a + length ls * (p.k + 1) ≤ length f → part a (length ls * (p.k + 1)) f ≡ index_entries ls
      → leaves_at p f a (length ls) ≡ ls
  unfolding LeavesOk All index_entries leaves_at
  leaves-are before [] a o i t h e = refl
  leaves-are before (l ∷ ls) a (o, os) (i, is) (t, ts) h e =
      let m = row_more (length ls) (p.k + 1) in
      let (k, b, r) = entry-is p f a l.bound l.block (index_entries ls) (length ls) h o.width e in
      rw (leaf-is l before a o i t k b, leaves-are (l.bound ∷ []) ls (a + (p.k + 1)) os is ts (omega arith) r)

  -- a section
  section-words : (s : Section) (before : List (List ℕ)) → LeavesOk p before s.leaves → length s.leaves ≤ I p → Block p s.block
      → IndexIn p f s → Words p f s.block ((index_shape p).tag + length s.leaves) (index_entries s.leaves)
  section-words s before o c i t =
      let n = index-length p before s.leaves o in
      let m : length s.leaves * (p.k + 1) ≤ I p * (p.k + 1) = mul-le-mul_right (p.k + 1) c in
      let fits = block_in_lem p f z s.block i in
      block_words p f s.block ((index_shape p).tag + length s.leaves) (index_entries s.leaves) fits (omega (arith, cap-i p z.good)) t

  section-is : (s : Section) (before : List (List ℕ)) (a : ℕ) → LeavesOk p before s.leaves → length s.leaves ≤ I p → Block p s.block
      → All (λ (l : Leaf). Block p l.block) s.leaves → IndexIn p f s → All (DetailIn p f) s.leaves → named p f a ≡ s.block
      → section_at p f a ≡ s
  unfolding section_at
  section-is s before a o c i is t ts b =
      let w = section-words s before o c i t in
      let e = start p s.block in
      let n = index-length p before s.leaves o in
      let m : length s.leaves * (p.k + 1) ≤ I p * (p.k + 1) = mul-le-mul_right (p.k + 1) c in
      let h : e + 1 + length s.leaves * (p.k + 1) ≤ length f = omega (arith, block_in_lem p f z s.block i, cap-i p z.good) in
      let r : leaves_at p f (e + 1) (length s.leaves) ≡ s.leaves = leaves-are before s.leaves (e + 1) o is ts h (rw n at w.rows) in
      let q : entries_at p f e ≡ length s.leaves = omega (arith, w.count) in
      section-eq _ s b (rw (b, q) r)

  pub sections-are : (before : List (List ℕ)) (ss : List Section) (a : ℕ) → LeavesOk p before (leaves_in ss)
      → All (λ (s : Section). OneTo (I p) (length s.leaves)) ss → All (Block p) (blocks_in ss)
      → All (IndexIn p f) ss → All (DetailIn p f) (leaves_in ss)
      → a + length ss * (p.k + 1) ≤ length f → part a (length ss * (p.k + 1)) f ≡ master_entries ss → sections_at p f a (length ss) ≡ ss
  unfolding All leaves_in blocks_in master_entries sections_at
  sections-are before [] a o c i t ts h e = refl
  sections-are before (s ∷ ss) a o (c, cs) (i, is) (t, t') ts h e =
      let m = row_more (length ss) (p.k + 1) in
      let o₁ = leaves-left p before s.leaves (leaves_in ss) o in
      let o₂ = leaves-right p before s.leaves (leaves_in ss) o c.0 in
      let width = bound-width p before s.leaves o₁ c.0 in
      let (k, b, r) = entry-is p f a (bound_of s.leaves) s.block (master_entries ss) (length ss) h width e in
      let i₁ = all_blocks (Block p) s.leaves (all_left (Block p) (leaf_blocks s.leaves) (blocks_in ss) is) in
      let i₂ = all_right (Block p) (leaf_blocks s.leaves) (blocks_in ss) is in
      let ts₁ = all_left (DetailIn p f) s.leaves (leaves_in ss) ts in
      let ts₂ = all_right (DetailIn p f) s.leaves (leaves_in ss) ts in
      rw (
        section-is s before a o₁ c.1 i i₁ t ts₁ b,
        sections-are (bound_of s.leaves ∷ []) ss (a + (p.k + 1)) o₂ cs i₂ t' ts₂ (omega arith) r,
      )

  -- the chain
  pub chain-is : (cs : List ℕ) (fuel b : ℕ) → length cs ≤ fuel → Chain p f cs → Linked p f b cs → chain_at p f fuel b ≡ cs
  unfolding Chain Linked
  chain-is [] fuel b h t e = chain-none p f fuel b e
  chain-is (c ∷ cs) zero b h t l = absurd (not-suc-le-zero h)
  chain-is (c ∷ cs) (suc fuel) b h ((i, j), y, q, t) (e, l) =
      let n : c ≡ 0 → ⊥ = λ y. omega arith in
      ap (chain_at p f (suc fuel)) e
      ∙ chain-some p f fuel c (ne_eqb c 0 n)
      ∙ ap (λ (x : List ℕ). c ∷ x) (chain-is cs fuel (next_free p f c) (omega arith) t l)
