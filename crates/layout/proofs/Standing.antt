-- The facts of the walk give the texts of the tree that is read off the file: index blocks, detail blocks, chain, blocks never used.
use Prim.Native.Nat.{ℕ, zero, suc, ◌+◌, ◌*◌, ◌-◌, ◌≤◌, ◌<◌}
use mathlib.Core.Path.{◌≡◌, refl, sym, ap, ◌∙◌}
use mathlib.Core.List.{List, [], ◌∷◌}
use mathlib.Core.Bool.{true}
use native.Mathlib.Omega.{arith}
use native.Mathlib.Nat.{zero-mul, mul-le-mul_right}
use lib.ListN.{length, get_or, drop, length-drop, length-replicate, get_or-replicate}
use lib.Seq.{get_or-drop, ext_get_or}
use Rattle.words.specs.Words.{part, all_are, zeros}
use Rattle.words.proofs.Parts.{length_part, part_none, get_d_part}
use Rattle.words.proofs.Keys.{same_key-true}
use Rattle.words.proofs.All.{all_are-get_or}
use Rattle.drum.specs.declared.Description.{Description}
use Rattle.drum.specs.Params.{D, I, start, index_shape, detail_shape}
use Rattle.drum.specs.Blocks.{block_at, free_text, Block}
use Rattle.drum.proofs.Good.{good-yes}
use Rattle.drum.proofs.Blocks.{length-block}
use Rattle.drum.proofs.FreeTexts.{free-text}
use Rattle.layout.specs.Inspect.{key_held, named}
use Rattle.layout.specs.Tree.{Section, bound_of, leaves_in, head_of}
use Rattle.layout.specs.Holds.{All, OneTo, master_entries, IndexIn, DetailIn, ChainIn}
use Rattle.layout.proofs.Good.{Sized, cap-d, cap-i, start-le, block_in_lem}
use Rattle.layout.proofs.Lists.{all_append}
use Rattle.layout.proofs.Read.{LeafFacts, SectionFacts, LeavesAt, Sections, Chain, Linked, leaf_at, leaves_at, section_at, sections_at, rows-length}
use Rattle.layout.proofs.Read.{records_at, entries_at, next_free, leaves-length}
use Rattle.layout.proofs.Texts.{rows-flat, block-part, block-text, entry_more, entry-words, entries-flat, last-bound}

module _ (p : Description) (f : List ℕ) (z : Sized p f) where
  leaf-text : (low e : ℕ) → Block p (named p f e) → LeafFacts p f low e → DetailIn p f (leaf_at p f e)
  unfolding leaf_at
  leaf-text low e i w =
      let s = start p (named p f e) in
      rw (rows-length f p.wpr (records_at p f s) (s + 1), rows-flat f p.wpr (records_at p f s) (s + 1))
      (block-text p f (D p) p.wpr (detail_shape p).tag (named p f e) (records_at p f s) (block_in_lem p f z (named p f e) i) (cap-d p z.good) w.rows)

  leaves-texts : (n low e : ℕ) → LeavesAt p f low e n → All (DetailIn p f) (leaves_at p f e n)
  unfolding LeavesAt All leaves_at
  leaves-texts zero low e h = tt
  leaves-texts (suc n) low e (i, w, h) = (leaf-text low e i w, leaves-texts n e (e + (p.k + 1)) h)

  index-text : (low e : ℕ) → Block p (named p f e) → SectionFacts p f low e → IndexIn p f (section_at p f e)
  unfolding section_at
  index-text low e i w =
      let s = start p (named p f e) in
      let n = entries_at p f s in
      let l : n * (p.k + 1) ≤ I p * (p.k + 1) = mul-le-mul_right (p.k + 1) w.rows.fits.1 in
      let b = block_in_lem p f z (named p f e) i in
      let k : s + 1 + n * (p.k + 1) ≤ length f = omega (arith, cap-i p z.good) in
      rw (leaves-length p f n (s + 1), entries-flat p f n (s + 1) k)
      (block-text p f (I p) (p.k + 1) (index_shape p).tag (named p f e) n b (cap-i p z.good) w.rows)

  section-leaves : (low e : ℕ) → SectionFacts p f low e → All (DetailIn p f) (section_at p f e).leaves
  unfolding section_at
  section-leaves low e w = leaves-texts _ low _ w.leaves

  pub section-bound : (low e : ℕ) → SectionFacts p f low e → bound_of (section_at p f e).leaves ≡ key_held p f e
  unfolding section_at
  section-bound low e w = last-bound p f _ _ w.rows.fits.0 ∙ same_key-true _ _ w.same

  section-block : (e : ℕ) → (section_at p f e).block ≡ named p f e
  unfolding section_at
  section-block e = refl

  -- all sections
  pub sections-details : (n low e : ℕ) → Sections p f low e n → All (DetailIn p f) (leaves_in (sections_at p f e n))
  unfolding Sections All sections_at leaves_in
  sections-details zero low e h = tt
  sections-details (suc n) low e (i, w, h) =
      all_append (DetailIn p f) (section_at p f e).leaves _ (section-leaves low e w) (sections-details n e (e + (p.k + 1)) h)

  pub sections-indexes : (n low e : ℕ) → Sections p f low e n → All (IndexIn p f) (sections_at p f e n)
  unfolding Sections All sections_at
  sections-indexes zero low e h = tt
  sections-indexes (suc n) low e (i, w, h) = (index-text low e i w, sections-indexes n e (e + (p.k + 1)) h)

  pub sections-counted : (n low e : ℕ) → Sections p f low e n → All (λ (s : Section). OneTo (I p) (length s.leaves)) (sections_at p f e n)
  unfolding Sections All sections_at section_at
  sections-counted zero low e h = tt
  sections-counted (suc n) low e (i, w, h) = (rw (leaves-length p f _ _) w.rows.fits, sections-counted n e (e + (p.k + 1)) h)

  pub sections-flat : (n low e : ℕ) → Sections p f low e n → e + n * (p.k + 1) ≤ length f
      → master_entries (sections_at p f e n) ≡ part e (n * (p.k + 1)) f
  unfolding master_entries sections_at Sections
  sections-flat zero low e h k = rw zero-mul (sym (part_none e f))
  sections-flat (suc n) low e (i, w, h) k =
      let m = entry_more p n in
      rw (
        m,
        sections-flat n e (e + (p.k + 1)) h (omega arith),
        section-bound low e w,
        section-block e,
        entry-words p f e (n * (p.k + 1)) (omega arith),
      )

  -- the chain
  pub head-is : (b : ℕ) (cs : List ℕ) → Linked p f b cs → head_of cs ≡ b
  unfolding Linked head_of
  head-is b [] e = sym e
  head-is b (c ∷ cs) (e, h) = sym e

  pub chain-texts : (b : ℕ) (cs : List ℕ) → Chain p f cs → Linked p f b cs → ChainIn p f cs
  unfolding Chain Linked ChainIn
  chain-texts b [] t l = tt
  chain-texts b (c ∷ cs) (i, k, q, t) (e, l) =
      let next = next_free p f c in
      let w = length-block p f z.size c i in
      (free-text p (block_at p f c) k q w (good-yes p z.good) ∙ ap (free_text p) (sym (head-is next cs l)), chain-texts next cs t l)

  -- blocks never used
  pub unused-text : (lowest b : ℕ) → all_are 0 (drop (start p lowest) f) ≡ true → lowest ≤ b → Block p b → block_at p f b ≡ zeros p.wpb
  unused-text lowest b q h i =
      let l = block_in_lem p f z b i in
      let s = start p b in
      let le : start p lowest ≤ s = start-le p lowest b h in
      let n : length (part s p.wpb f) ≡ p.wpb = length_part s p.wpb f l in
      block-part p f b
      ∙ ext_get_or 0 (part s p.wpb f) (zeros p.wpb) (n ∙ sym (length-replicate p.wpb 0))
      (λ j k.
      let k' : j < p.wpb = omega arith in
      let d : start p lowest + (s + j - start p lowest) ≡ s + j = omega arith in
      let r : s + j - start p lowest < length (drop (start p lowest) f) = rw (length-drop (start p lowest) f) (omega arith) in
      get_d_part s p.wpb j f k'
      ∙ ap (λ (m : ℕ). get_or f m 0) (sym d)
      ∙ sym (get_or-drop (start p lowest) f (s + j - start p lowest) 0)
      ∙ all_are-get_or 0 (drop (start p lowest) f) (s + j - start p lowest) q r
      ∙ sym (get_or-replicate p.wpb j 0 0 k'))
