-- The walk passes where the facts of each block hold and the blocks can be marked one by one.
use Prim.Native.Nat.{ℕ, zero, suc, ◌+◌, ◌-◌, ◌≤◌}
use mathlib.Core.Path.{◌≡◌, sym, ap, ◌∙◌}
use mathlib.Core.List.{List, [], ◌∷◌, ◌++◌}
use mathlib.Core.Bool.{true}
use native.Mathlib.Omega.{arith}
use native.Mathlib.Nat.{not-suc-le-zero}
use lib.ListN.{length, get_or, drop}
use borrow.Author.Tests.{le-leb, ne_eqb}
use Rattle.words.specs.Words.{all_are, zeros}
use Rattle.numbers.specs.Checked.{passed}
use Rattle.table.specs.declared.Shape.{Shape}
use Rattle.drum.specs.declared.Description.{Description}
use Rattle.drum.specs.Params.{D, I, start, index_shape, detail_shape}
use Rattle.drum.specs.Blocks.{sections, chain_head, block_at, link_place, is_free}
use Rattle.layout.specs.Inspect.{named, rows_in, marked, through, detail_held, index_held, chain_held, walked, layout_marks}
use Rattle.layout.specs.Tree.{leaf_blocks, blocks_in}
use Rattle.numbers.proofs.Passed.{bind-passed}
use Rattle.layout.proofs.Marks.{mark_all, mark-append}
use Rattle.layout.proofs.Read.{RowsOk, LeafFacts, SectionFacts, LeavesAt, Sections, Chain, Linked, leaf_at, leaves_at, section_at, sections_at, chain_at}
use Rattle.layout.proofs.Read.{entries_at, next_free}
use Rattle.layout.proofs.Found.{LayoutFacts}

rows_pass : (p : Description) (f : List ℕ) (most : ℕ) (h : Shape) (s : ℕ) → RowsOk p f most h.stride h.tag s (get_or f s 0 - h.tag)
    → rows_in p f most h s ≡ passed (get_or f s 0 - h.tag)
unfolding rows_in
rows_pass p f most h s w = simp (le-leb _ _ w.fits.0, le-leb _ _ w.fits.1, w.behind)

module _ (p : Description) (f : List ℕ) where
  detail-pass : (low e : ℕ) (ms ms' : List ℕ) → marked 1 (named p f e) ms ≡ passed ms' → LeafFacts p f low e → detail_held p f low e ms ≡ passed ms'
  unfolding detail_held detail_shape
  detail-pass low e ms ms' m w = simp (m, rows_pass p f (D p) (detail_shape p) (start p (named p f e)) w.rows, w.good)

  leaves-pass : (n low e : ℕ) (ms ms' : List ℕ) → LeavesAt p f low e n → mark_all 1 (leaf_blocks (leaves_at p f e n)) ms ≡ passed ms'
      → through (detail_held p f) (p.k + 1) low e n ms ≡ passed ms'
  unfolding through leaves_at leaf_at leaf_blocks mark_all LeavesAt
  leaves-pass zero low e ms ms' t q = q
  leaves-pass (suc n) low e ms ms' (i, w, t) q =
      let (s, q₁, q₂) = bind-passed (marked 1 (named p f e) ms) (mark_all 1 (leaf_blocks (leaves_at p f (e + (p.k + 1)) n))) ms' q in
      rw (detail-pass low e ms s q₁ w) (leaves-pass n e (e + (p.k + 1)) s ms' t q₂)

  index-pass : (low e : ℕ) (ms s v : List ℕ) → marked 1 (named p f e) ms ≡ passed s → SectionFacts p f low e
      → mark_all 1 (leaf_blocks (leaves_at p f (start p (named p f e) + 1) (entries_at p f (start p (named p f e))))) s ≡ passed v
      → index_held p f low e ms ≡ passed v
  unfolding index_held index_shape
  index-pass low e ms s v m w q =
      let b = start p (named p f e) in
      simp (m, rows_pass p f (I p) (index_shape p) b w.rows, w.same) (leaves-pass (entries_at p f b) low (b + 1) s v w.leaves q)

  sections-pass : (n low e : ℕ) (ms ms' : List ℕ) → Sections p f low e n → mark_all 1 (blocks_in (sections_at p f e n)) ms ≡ passed ms'
      → through (index_held p f) (p.k + 1) low e n ms ≡ passed ms'
  unfolding through sections_at section_at blocks_in mark_all Sections
  sections-pass zero low e ms ms' t q = q
  sections-pass (suc n) low e ms ms' (i, w, t) q =
      let ls = leaf_blocks (leaves_at p f (start p (named p f e) + 1) (entries_at p f (start p (named p f e)))) in
      let ss = blocks_in (sections_at p f (e + (p.k + 1)) n) in
      let (s, q₁, q₂) = bind-passed (marked 1 (named p f e) ms) (mark_all 1 (ls ++ ss)) ms' q in
      let (v, q₃, q₄) = bind-passed (mark_all 1 ls s) (mark_all 1 ss) ms' (sym (mark-append 1 ls ss s) ∙ q₂) in
      rw (index-pass low e ms s v q₁ w q₃) (sections-pass n e (e + (p.k + 1)) v ms' t q₄)

  -- the chain
  chain-step : (fuel c : ℕ) (ms s : List ℕ) → (c ≡ 0 → ⊥) → marked 2 c ms ≡ passed s → is_free p (block_at p f c) ≡ true
      → all_are 0 (drop (link_place p + 1) (block_at p f c)) ≡ true
      → chain_held p f (suc fuel) c ms ≡ chain_held p f fuel (next_free p f c) s
  unfolding chain_held
  chain-step fuel c ms s n q y z = rw (ne_eqb c 0 n, chain_held) (simp (q, y, z))

  chain-end : (fuel b : ℕ) (ms : List ℕ) → b ≡ 0 → chain_held p f fuel b ms ≡ passed ms
  unfolding chain_held
  chain-end zero b ms e = rw (e, chain_held)
  chain-end (suc fuel) b ms e = rw (e, chain_held)

  chain-pass : (cs : List ℕ) (fuel b : ℕ) (ms ms' : List ℕ) → length cs ≤ fuel → Chain p f cs → Linked p f b cs → mark_all 2 cs ms ≡ passed ms'
      → chain_held p f fuel b ms ≡ passed ms'
  unfolding mark_all Chain Linked
  chain-pass [] fuel b ms ms' l t k q = chain-end fuel b ms k ∙ q
  chain-pass (c ∷ cs) zero b ms ms' l t k q = absurd (not-suc-le-zero l)
  chain-pass (c ∷ cs) (suc fuel) b ms ms' l ((i, j), y, z, t) (e, k) q =
      let (s, q₁, q₂) = bind-passed (marked 2 c ms) (mark_all 2 cs) ms' q in
      let n : c ≡ 0 → ⊥ = λ y. omega arith in
      ap (λ (x : ℕ). chain_held p f (suc fuel) x ms) e
      ∙ chain-step fuel c ms s n q₁ y z
      ∙ chain-pass cs fuel (next_free p f c) s ms' (omega arith) t k q₂

  -- the whole
  pub layout-pass : (ms : List ℕ) → length (chain_at p f p.n (chain_head f)) ≤ p.n → LayoutFacts p f ms → layout_marks p f ≡ passed ms
  unfolding layout_marks walked
  layout-pass ms few w =
      let cs = chain_at p f p.n (chain_head f) in
      simp (
        w.words,
        le-leb _ _ w.control.0,
        le-leb _ _ w.control.1,
        le-leb _ _ w.lowest.0,
        le-leb _ _ w.lowest.1,
        w.master,
        sections-pass (sections f) 0 3 (zeros p.n) w.middle w.tree w.reached,
        chain-pass cs p.n (chain_head f) w.middle ms few w.free.texts w.free.links w.free.marks,
        w.rest,
      )
