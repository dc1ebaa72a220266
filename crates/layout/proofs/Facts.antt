-- The sentences on a tree that stands in a file give the facts that the walk asks for, place by place.
use Prim.Native.Nat.{ℕ, zero, suc, ◌+◌, ◌*◌, ◌-◌, ◌≤◌}
use mathlib.Core.Path.{◌≡◌, refl, sym, ap, ◌∙◌}
use mathlib.Core.Logic.{◌⊎◌, inl, inr, ⊎_elim}
use mathlib.Core.List.{List, [], ◌∷◌, ◌++◌, flatten}
use mathlib.Core.Bool.{Bool, true, false, not, ◌&&◌, ◌||◌}
use native.Mathlib.Omega.{arith}
use native.Mathlib.Nat.{mul-le-mul_right}
use lib.ListN.{length, drop, length-replicate}
use Rattle.words.specs.Words.{part, all_are, all_words, zeros, top_word}
use Rattle.words.specs.Keys.{ones, is_ones}
use Rattle.words.proofs.Parts.{length_part, part-add}
use Rattle.words.proofs.Keys.{same_key-refl}
use Rattle.words.proofs.All.{is_ones-ones, all_are-replicate}
use Rattle.drum.specs.declared.Description.{Description}
use Rattle.drum.specs.Params.{D, I, start, index_shape, detail_shape}
use Rattle.drum.specs.Blocks.{block_at, link_place, link_in, is_free, Block}
use Rattle.drum.proofs.Good.{good-yes}
use Rattle.drum.proofs.FreeTexts.{link-free_text, kind-free_text, zeros-free_text}
use Rattle.table.specs.Tables.{laid}
use Rattle.layout.specs.Create.{end_record}
use Rattle.layout.specs.Inspect.{key_held, named, last_row, records_ok, end_ok}
use Rattle.layout.specs.Tree.{Leaf, Section, bound_of, leaves_in, leaf_blocks, blocks_in, head_of}
use Rattle.layout.specs.Holds.{All, OneTo, LeafOk, LeavesOk, index_entries, master_entries, IndexIn, DetailIn, ChainIn}
use Rattle.layout.proofs.Good.{Sized, row_more, cap-d, cap-i, block_in_lem}
use Rattle.layout.proofs.Lists.{append-parts, length-flatten, all_append, all_left, all_right, all_blocks}
use Rattle.layout.proofs.Read.{LeafFacts, SectionFacts, LeavesAt, Sections, Chain, Linked, rows_at, leaf_at, leaves_at, section_at, sections_at, rows-length}
use Rattle.layout.proofs.Read.{records_at, entries_at, next_free, leaves-length}
use Rattle.layout.proofs.Texts.{block_words, entry-is, last-bound}
use Rattle.layout.proofs.Order.{befores, before-some, rising-back, last-bounded, rows_words, last_row_lem}
use Rattle.layout.proofs.Trees.{LeafEnds, leaves-left, leaves-right, bound-width, index-length}

module _ (p : Description) (f : List ℕ) (z : Sized p f) where
  -- the end record
  end-both : (r : ℕ) → r + p.wpr ≤ length f → part r p.wpr f ≡ end_record p
      → (is_ones (key_held p f r) && all_are 0 (part (r + p.k) (p.wpr - p.k) f)) ≡ true
  unfolding end_record key_held
  end-both r h q =
      let g = z.good.key in
      let m = p.wpr - p.k in
      let l : p.wpr ≡ p.k + m = omega arith in
      let t : part r p.k f ++ part (r + p.k) m f ≡ ones p.k ++ zeros m =
      sym (part-add r p.k m f) ∙ ap (λ (n : ℕ). part r n f) (sym l) ∙ q in
      let n : length (part r p.k f) ≡ length (ones p.k) = length_part r p.k f (omega arith) ∙ sym (length-replicate p.k top_word) in
      let (a, b) = append-parts (part r p.k f) (ones p.k) (part (r + p.k) m f) (zeros m) n t in
      rw (a, b, is_ones-ones, all_are-replicate)

  end_back : (e r : ℕ) → r + p.wpr ≤ length f → (is_ones (key_held p f e) ≡ false) ⊎ (part r p.wpr f ≡ end_record p) → end_ok p f e r ≡ true
  unfolding end_ok
  end_back e r h (inl q) = simp q
  end_back e r h (inr q) = go (is_ones (key_held p f e))
    where
      go : (t : Bool) → (not t || (is_ones (key_held p f r) && all_are 0 (part (r + p.k) (p.wpr - p.k) f))) ≡ true
      go false = refl
      go true = end-both r h q

  -- detail blocks
  leaf-facts : (low e : ℕ) → Block p (named p f e) → LeafOk p (befores p f low) (leaf_at p f e) → DetailIn p f (leaf_at p f e) → LeafEnds p (leaf_at p f e)
      → LeafFacts p f low e
  unfolding leaf_at records_ok
  leaf-facts low e i o t d =
      let s = start p (named p f e) in
      let n = records_at p f s in
      let kwpr = z.good.key in
      let rs = rows_at f p.wpr (s + 1) n in
      let len = rows-length f p.wpr n (s + 1) in
      let c : OneTo (D p) n = rw len at o.counted in
      let m : n * p.wpr ≤ D p * p.wpr = mul-le-mul_right p.wpr c.1 in
      let q : n - 1 + 1 ≤ D p = omega arith in
      let m' : (n - 1 + 1) * p.wpr ≤ D p * p.wpr = mul-le-mul_right p.wpr q in
      let fits = block_in_lem p f z (named p f e) i in
      let fl : length (flatten rs) ≡ n * p.wpr = length-flatten p.wpr rs o.widths ∙ ap (λ (x : ℕ). x * p.wpr) len in
      let w = block_words p f (named p f e) ((detail_shape p).tag + length rs) (flatten rs) fits (omega (arith, cap-d p z.good)) t in
      let r = last_row (s + 1) p.wpr n in
      let k : r + p.wpr ≤ length f = omega (arith, cap-d p z.good) in
      let up = rising-back p f p.wpr kwpr n low (s + 1) (omega arith) o.order in
      let top = last-bounded p f p.wpr kwpr n (s + 1) (key_held p f e) c.0 o.bounded in
      let end = end_back e r k (⊎_elim inl (λ x. inr (sym (last_row_lem f p.wpr n (s + 1) c.0) ∙ x)) d) in
      record { rows = record { count = refl; fits = c; behind = rw fl at w.behind }; good = simp (up, top, end) }

  block-at : (e : ℕ) → Block p (leaf_at p f e).block → Block p (named p f e)
  unfolding leaf_at
  block-at e i = i

  before_at : (e : ℕ) (ls : List Leaf) → LeavesOk p ((leaf_at p f e).bound ∷ []) ls → LeavesOk p (key_held p f e ∷ []) ls
  unfolding leaf_at
  before_at e ls o = o

  leaves-facts : (n low e : ℕ) → 1 ≤ e → LeavesOk p (befores p f low) (leaves_at p f e n) → All (λ (l : Leaf). Block p l.block) (leaves_at p f e n)
      → All (DetailIn p f) (leaves_at p f e n) → All (LeafEnds p) (leaves_at p f e n) → LeavesAt p f low e n
  unfolding LeavesAt LeavesOk All leaves_at
  leaves-facts zero low e s o i t d = tt
  leaves-facts (suc n) low e s (o, os) (i, is) (t, ts) (d, ds) =
      let i' = block-at e i in
      let next = e + (p.k + 1) in
      (i', leaf-facts low e i' o t d, leaves-facts n e next (omega arith) (rw (before-some p f e s) (before_at e (leaves_at p f next n) os)) is ts ds)

  -- index blocks
  section-facts : (low e : ℕ) → key_held p f e ≡ bound_of (section_at p f e).leaves → Block p (named p f e)
      → LeavesOk p (befores p f low) (section_at p f e).leaves → OneTo (I p) (length (section_at p f e).leaves)
      → All (λ (l : Leaf). Block p l.block) (section_at p f e).leaves
      → block_at p f (named p f e) ≡ laid p.wpb ((index_shape p).tag + length (section_at p f e).leaves) (index_entries (section_at p f e).leaves)
      → All (DetailIn p f) (section_at p f e).leaves → All (LeafEnds p) (section_at p f e).leaves → SectionFacts p f low e
  unfolding section_at
  section-facts low e key i o c is t ts ds =
      let b = start p (named p f e) in
      let n = entries_at p f b in
      let ls = leaves_at p f (b + 1) n in
      let len = leaves-length p f n (b + 1) in
      let c' : OneTo (I p) n = rw len at c in
      let m : n * (p.k + 1) ≤ I p * (p.k + 1) = mul-le-mul_right (p.k + 1) c'.1 in
      let fits = block_in_lem p f z (named p f e) i in
      let fl : length (index_entries ls) ≡ n * (p.k + 1) = index-length p (befores p f low) ls o ∙ ap (λ (x : ℕ). x * (p.k + 1)) len in
      let w = block_words p f (named p f e) ((index_shape p).tag + length ls) (index_entries ls) fits (omega (arith, cap-i p z.good)) t in
      record {
        rows = record { count = refl; fits = c'; behind = rw fl at w.behind };
        same = rw (key ∙ last-bound p f n (b + 1) c'.0) (same_key-refl (key_held p f (last_row (b + 1) (p.k + 1) n)));
        leaves = leaves-facts n low (b + 1) (omega arith) o is ts ds;
      }

  section-block : (e : ℕ) → (section_at p f e).block ≡ named p f e
  unfolding section_at
  section-block e = refl

  pub sections-facts : (n low e : ℕ) → 1 ≤ e → e + n * (p.k + 1) ≤ length f → LeavesOk p (befores p f low) (leaves_in (sections_at p f e n))
      → All (λ (s : Section). OneTo (I p) (length s.leaves)) (sections_at p f e n) → All (Block p) (blocks_in (sections_at p f e n))
      → All (IndexIn p f) (sections_at p f e n) → All (DetailIn p f) (leaves_in (sections_at p f e n)) → All (LeafEnds p) (leaves_in (sections_at p f e n))
      → part e (n * (p.k + 1)) f ≡ master_entries (sections_at p f e n) → Sections p f low e n
  unfolding Sections All leaves_in blocks_in master_entries sections_at
  sections-facts zero low e s h o c i t ts ds q = tt
  sections-facts (suc n) low e s h o (c, cs) (i, is) (t, t') ts ds q =
      let m = row_more n (p.k + 1) in
      let next = e + (p.k + 1) in
      let ls = (section_at p f e).leaves in
      let rest = leaves_in (sections_at p f next n) in
      let o₁ = leaves-left p (befores p f low) ls rest o in
      let o₂ = leaves-right p (befores p f low) ls rest o c.0 in
      let more = master_entries (sections_at p f next n) in
      let (key, b, r) = entry-is p f e (bound_of ls) (section_at p f e).block more n h (bound-width p (befores p f low) ls o₁ c.0) q in
      let i' : Block p (named p f e) = rw (section-block e) at i in
      let i₁ = all_blocks (Block p) ls (all_left (Block p) (leaf_blocks ls) (blocks_in (sections_at p f next n)) is) in
      let i₂ = all_right (Block p) (leaf_blocks ls) (blocks_in (sections_at p f next n)) is in (
        i',
        section-facts low e key i' o₁ c i₁ (rw (section-block e) at t) (all_left (DetailIn p f) ls rest ts) (all_left (LeafEnds p) ls rest ds),
        sections-facts n e next (omega arith) (omega arith) (rw (before-some p f e s, key) o₂) cs i₂ t'
            (all_right (DetailIn p f) ls rest ts) (all_right (LeafEnds p) ls rest ds) r,
      )

  -- the chain
  pub chain-facts : (cs : List ℕ) → All (Block p) cs → ChainIn p f cs → Chain p f cs × Linked p f (head_of cs) cs
  unfolding All ChainIn Chain Linked head_of
  chain-facts [] i t = (tt, refl)
  chain-facts (c ∷ cs) (i, is) (t, ts) =
      let (a, b) = chain-facts cs is ts in
      let g = good-yes p z.good in
      let n = head_of cs in
      let k : is_free p (block_at p f c) ≡ true = rw t (kind-free_text p n g) in
      let q : all_are 0 (drop (link_place p + 1) (block_at p f c)) ≡ true = rw t (zeros-free_text p n g) in
      let l : next_free p f c ≡ n = ap (link_in p) t ∙ link-free_text p n g in
      ((i, k, q, a), (refl, rw l b))

  -- the words of the records
  leaves-words : (n e : ℕ) → all_words f ≡ true → All (λ (l : Leaf). All (λ r. all_words r ≡ true) l.records) (leaves_at p f e n)
  unfolding All leaves_at leaf_at
  leaves-words zero e w = tt
  leaves-words (suc n) e w = (rows_words f p.wpr _ _ w, leaves-words n (e + (p.k + 1)) w)

  section-words : (e : ℕ) → all_words f ≡ true → All (λ (l : Leaf). All (λ r. all_words r ≡ true) l.records) (section_at p f e).leaves
  unfolding section_at
  section-words e w = leaves-words _ _ w

  pub sections-words : (n e : ℕ) → all_words f ≡ true → All (λ (l : Leaf). All (λ r. all_words r ≡ true) l.records) (leaves_in (sections_at p f e n))
  unfolding All sections_at leaves_in
  sections-words zero e w = tt
  sections-words (suc n) e w = all_append _ (section_at p f e).leaves _ (section-words e w) (sections-words n (e + (p.k + 1)) w)
