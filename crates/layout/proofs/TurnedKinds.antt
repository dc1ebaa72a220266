-- Blocks that say what they are: in the second form word 0 tells a block's kind, and no file is good in both forms.
use Prim.Native.Nat.{ℕ, zero, suc, ◌+◌, ◌*◌, ◌/◌, ◌≤◌}
use mathlib.Core.Path.{◌≡◌, refl, sym, ap, subst, ◌∙◌}
use mathlib.Core.Bool.{Bool, true, false, cond}
use mathlib.Core.List.{List, [], ◌∷◌}
use native.Mathlib.Decide.{ℕ_discrete}
use native.Mathlib.Omega.{arith}
use native.Mathlib.Nat.{not-suc-le-zero, mul-le-mul}
use lib.Dec.{leb}
use lib.ListN.{length, get_or}
use borrow.Author.Tests.{leb-true, leb-false}
use Rattle.table.specs.Tables.{laid}
use Rattle.drum.specs.declared.Description.{Description}
use Rattle.drum.specs.Params.{D, I, good_params, index_kind, detail_kind, index_shape, detail_shape}
use Rattle.drum.specs.Blocks.{sections, block_at, Block}
use Rattle.drum.proofs.Good.{caps}
use Rattle.drum.proofs.Forms.{tag-first, tag-second}
use Rattle.drum.proofs.FreeTexts.{second-free}
use Rattle.layout.specs.Inspect.{named}
use Rattle.layout.specs.Tree.{Leaf, Section, Tree, leaves_of, leaf_blocks, reached_blocks, head_of, times}
use Rattle.layout.specs.Holds.{All, OneTo, LeavesOk, IndexIn, DetailIn, ChainIn, Holds, WellFormed}
use Rattle.layout.specs.Turned.{other_form, indexes_in, kind_of, KindsTold, OneForm}
use Rattle.layout.proofs.Good.{good-facts}
use Rattle.layout.proofs.Lists.{get_or-zeros}
use Rattle.layout.proofs.Read.{section_at, sections_at, tree_at, sections-length}
use Rattle.layout.proofs.Unique.{tree-at}
use Rattle.layout.proofs.OneFile.{all-times}
use Rattle.layout.proofs.TurnedForm.{good-other, other_block}
use Rattle.layout.proofs.TurnedMarks.{reached-either}

-- no count reaches the next kind
module _ (p : Description) (good : good_params p ≡ true) where
  few-entries : I p ≤ 4095
  few-entries = let c = caps p good in let g = c.facts in omega arith

  few-records : D p ≤ 4095
  few-records =
      let c = caps p good in
      let g = c.facts in
      let one : D p * 1 ≤ D p * p.wpr = mul-le-mul (omega arith) (omega arith) in
      omega arith

laid-first : (w n : ℕ) (rows : List ℕ) → get_or (laid w n rows) 0 0 ≡ n
unfolding laid
laid-first w n rows = refl

-- word 0 of the first index block
record FirstWord (p : Description) (f : List ℕ) : Type 0 where
  entries : ℕ
  fits : OneTo (I p) entries
  word : get_or (block_at p f (named p f 3)) 0 0 ≡ (index_shape p).tag + entries

module _ (p : Description) (f : List ℕ) (t : Tree) (good : good_params p ≡ true) (h : Holds p f t) where
  first_word : FirstWord p f
  unfolding tree_at All sections_at section_at
  first_word =
      let k = subst (Holds p f) (sym (tree-at p f (record { good = good-facts p good; size = h.size }) t h)) h in
      go (sections f) (rw (sections-length p f (sections f) 3) at k.control.0) k.indexes k.counted
    where
      go : (n : ℕ) → 1 ≤ n → All (IndexIn p f) (sections_at p f 3 n) → All (λ (s : Section). OneTo (I p) (length s.leaves)) (sections_at p f 3 n)
          → FirstWord p f
      go zero l a c = absurd (not-suc-le-zero l)
      go (suc n) l (a, more) (c, cs) = record { entries = _; fits = c; word = ap (λ (x : List ℕ). get_or x 0 0) a ∙ laid-first p.wpb _ _ }

-- a form that is not the second is the first
first-left : (n : ℕ) → (n ≡ 2 → ⊥) → 1 ≤ n → n ≤ 2 → n ≡ 1
first-left zero d lo hi = absurd (not-suc-le-zero lo)
first-left (suc zero) d lo hi = refl
first-left (suc (suc n)) d lo hi = absurd (d (omega arith))

-- in one form it is at most 4095, in the other more
pub one_form : OneForm
unfolding WellFormed other_form index_shape I
one_form p f good (t, h) (u, k) =
    let q = other_form p in
    let x = first_word p f t good h in
    let y = first_word q f u (good-other p good) k in
    let g = good-facts p good in
    let few = few-entries p good in
    let same : get_or (block_at q f (named p f 3)) 0 0 ≡ get_or (block_at p f (named p f 3)) 0 0 = ap (λ (l : List ℕ). get_or l 0 0) (other_block p f (named p f 3)) in
    by (ℕ_discrete p.form 2) (omega (arith, x.word, y.word)) x.fits y.fits few g.form-least g.form-most
  where
    by : {m n : ℕ} → Dec (p.form ≡ 2) → (index_shape p).tag + m ≡ (index_shape (other_form p)).tag + n → OneTo (I p) m → OneTo (I p) n → I p ≤ 4095
        → 1 ≤ p.form → p.form ≤ 2 → ⊥
    by (yes e) w a b few lo hi = omega (arith, tag-second p index_kind e, tag-first (other_form p) index_kind (λ z. absurd (omega arith)), a, b)
    by (no d) w a b few lo hi =
        let one : p.form ≡ 1 = first-left p.form d lo hi in
        omega (arith, tag-first p index_kind d, tag-second (other_form p) index_kind (omega arith), a, b)

-- the second form
module _ (p : Description) (f : List ℕ) (good : good_params p ≡ true) (two : p.form ≡ 2) where
  abbrev Says : ℕ → ℕ → Type 0
  Says k b = get_or (block_at p f b) 0 0 / 4096 ≡ k

  indexes-say : (ss : List Section) → All (λ (s : Section). OneTo (I p) (length s.leaves)) ss → All (IndexIn p f) ss → All (Says 1) (indexes_in ss)
  unfolding All indexes_in index_shape
  indexes-say [] c h = tt
  indexes-say (s ∷ ss) (c, cs) (a, h) =
      let w = ap (λ (x : List ℕ). get_or x 0 0) a ∙ laid-first p.wpb _ _ in
      (omega (arith, w, c, few-entries p good, tag-second p index_kind two), indexes-say ss cs h)

  details-say : (before : List (List ℕ)) (ls : List Leaf) → LeavesOk p before ls → All (DetailIn p f) ls → All (Says 2) (leaf_blocks ls)
  unfolding All leaf_blocks LeavesOk detail_shape
  details-say before [] o h = tt
  details-say before (l ∷ ls) (o, os) (a, h) =
      let w = ap (λ (x : List ℕ). get_or x 0 0) a ∙ laid-first p.wpb _ _ in
      (omega (arith, w, o.counted, few-records p good, tag-second p detail_kind two), details-say (l.bound ∷ []) ls os h)

  chain-says : (cs : List ℕ) → ChainIn p f cs → All (Says 3) cs
  unfolding All ChainIn
  chain-says [] h = tt
  chain-says (c ∷ cs) (a, h) =
      let g = (caps p good).facts in
      let w : get_or (block_at p f c) 0 0 ≡ 12288 = ap (λ (x : List ℕ). get_or x 0 0) (a ∙ second-free p (head_of cs) two (omega arith)) in
      (omega arith, chain-says cs h)

  module _ (t : Tree) (h : Holds p f t) where
    block-says : (b : ℕ) → Block p b → Says (kind_of t b) b
    unfolding kind_of
    block-says b i =
        go (leb t.lowest b) (leb 1 (times b (indexes_in t.sections))) (leb 1 (times b (leaf_blocks (leaves_of t)))) (leb 1 (times b t.chain))
        refl refl refl refl (h.once b i)
      where
        go : (u x y c : Bool) → leb t.lowest b ≡ u → leb 1 (times b (indexes_in t.sections)) ≡ x → leb 1 (times b (leaf_blocks (leaves_of t))) ≡ y
            → leb 1 (times b t.chain) ≡ c → times b (reached_blocks t) + times b t.chain + cond u 1 0 ≡ 1 → Says (cond x 1 (cond y 2 (cond c 3 0))) b
        go u true y c eu ex ey ec o = all-times (Says 1) b _ (indexes-say t.sections h.counted h.indexes) (leb-true _ _ ex)
        go u false true c eu ex ey ec o = all-times (Says 2) b _ (details-say [] (leaves_of t) h.leaves h.details) (leb-true _ _ ey)
        go u false false true eu ex ey ec o = all-times (Says 3) b _ (chain-says t.chain h.chained) (leb-true _ _ ec)
        go true false false false eu ex ey ec o =
            let w = ap (λ (x : List ℕ). get_or x 0 0) (h.unused b (leb-true _ _ eu) i.1) ∙ get_or-zeros p.wpb 0 in
            omega arith
        go false false false false eu ex ey ec o =
            let r = reached-either b t.sections in
            let none = leb-false 1 (times b (indexes_in t.sections)) ex in
            absurd (omega (arith, none, leb-false 1 (times b (leaf_blocks (leaves_of t))) ey, leb-false 1 (times b t.chain) ec))

pub kinds-told : KindsTold
kinds-told p f t b good two h i = block-says p f good two t h b i
