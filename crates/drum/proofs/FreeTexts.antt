-- The text of a free block in both forms: its kind, its link, and zeros; and a text that has these is it.
use Prim.Native.Nat.{ℕ, suc, ◌+◌, ◌-◌, ◌≤◌, ◌<◌}
use mathlib.Core.Path.{◌≡◌, sym, ap, ◌∙◌}
use mathlib.Core.Bool.{true}
use mathlib.Core.List.{List, [], ◌∷◌}
use native.Mathlib.Decide.{ℕ_discrete}
use native.Mathlib.Omega.{arith}
use borrow.Author.Tests.{eqb-true}
use borrow.Rule.Slice.PartMut.{put_mid, mid_of}
use lib.Dec.{eqb}
use lib.ListN.{length, get_or, set, drop, length-replicate}
use lib.Seq.{get_or-set_same}
use Rattle.words.specs.Words.{put, zeros, all_are}
use Rattle.words.proofs.Parts.{put_all}
use Rattle.words.proofs.All.{all_are-replicate, all_are-true}
use Rattle.table.specs.Tables.{laid}
use Rattle.table.proofs.Lengths.{length-laid}
use Rattle.drum.specs.declared.Description.{Description}
use Rattle.drum.specs.Params.{start, good_params, tag_of, free_kind}
use Rattle.drum.specs.Blocks.{put_block, link_place, free_text, link_in, is_free}
use Rattle.drum.specs.Inside.{HasBlock}
use Rattle.drum.proofs.Good.{caps}
use Rattle.drum.proofs.Forms.{tag-first, tag-second, link-first, link-second, free-first, free-second, not-second, link-most}
use Rattle.drum.proofs.Lent.{block-wide, lent_length, given_back}

module _ (p : Description) (link : ℕ) where
  -- in the first form the link and zeros, in the second the kind before them
  pub first-free : (p.form ≡ 2 → ⊥) → free_text p link ≡ laid p.wpb link []
  unfolding free_text laid
  first-free n =
      ap (λ (x : ℕ). set (laid p.wpb x []) (link_place p) link) (tag-first p free_kind n)
      ∙ ap (λ (i : ℕ). set (laid p.wpb 0 []) i link) (link-first p n)

  pub free-plain : p.form ≡ 1 → free_text p link ≡ laid p.wpb link []
  free-plain e = first-free (not-second p e)

  pub second-free : p.form ≡ 2 → 2 ≤ p.wpb → free_text p link ≡ free_kind ∷ link ∷ zeros (p.wpb - 2)
  unfolding free_text laid
  second-free e w =
      let m : p.wpb - 1 - 0 ≡ suc (p.wpb - 2) = omega arith in
      ap (λ (x : ℕ). set (laid p.wpb x []) (link_place p) link) (tag-second p free_kind e)
      ∙ ap (λ (i : ℕ). set (laid p.wpb free_kind []) i link) (link-second p e)
      ∙ ap (λ (k : ℕ). set (free_kind ∷ zeros k) 1 link) m

  module _ (good : good_params p ≡ true) where
    wide : 6 ≤ p.wpb
    wide = (caps p good).facts.wpb-least

    -- its link, its kind, and zeros behind the link
    pub link-free_text : link_in p (free_text p link) ≡ link
    unfolding link_in free_text
    link-free_text =
        let w = wide in
        let l = length-laid p.wpb (tag_of p free_kind) [] (omega arith) in
        get_or-set_same (laid p.wpb (tag_of p free_kind) []) (link_place p) link 0 (omega (arith, link-most p))

    pub kind-free_text : is_free p (free_text p link) ≡ true
    kind-free_text = by (ℕ_discrete p.form 2)
      where
        by : Dec (p.form ≡ 2) → is_free p (free_text p link) ≡ true
        by (yes e) =
            let w = wide in
            free-second p (free_text p link) e ∙ ap (λ (t : List ℕ). eqb (get_or t 0 0) free_kind) (second-free e (omega arith))
        by (no n) = free-first p (free_text p link) n

    pub zeros-free_text : all_are 0 (drop (link_place p + 1) (free_text p link)) ≡ true
    unfolding laid
    zeros-free_text = by (ℕ_discrete p.form 2)
      where
        by : Dec (p.form ≡ 2) → all_are 0 (drop (link_place p + 1) (free_text p link)) ≡ true
        by (yes e) =
            let w = wide in
            ap (λ (i : ℕ). all_are 0 (drop (i + 1) (free_text p link))) (link-second p e)
            ∙ ap (λ (t : List ℕ). all_are 0 (drop 2 t)) (second-free e (omega arith))
            ∙ all_are-replicate (p.wpb - 2) 0
        by (no n) =
            ap (λ (i : ℕ). all_are 0 (drop (i + 1) (free_text p link))) (link-first p n)
            ∙ ap (λ (t : List ℕ). all_are 0 (drop 1 t)) (first-free n)
            ∙ all_are-replicate (p.wpb - 1 - 0) 0

-- a block's text with these is that of a free block with its own link
module _ (p : Description) where
  one : (t : List ℕ) → (p.form ≡ 2 → ⊥) → 1 ≤ length t → length t ≡ p.wpb → all_are 0 (drop 1 t) ≡ true → t ≡ free_text p (get_or t 0 0)
  unfolding laid
  one [] n least l z = absurd (omega arith)
  one (x ∷ t) n least l z =
      let m : length t ≡ p.wpb - 1 - 0 = omega arith in
      ap (λ (r : List ℕ). x ∷ r) (all_are-true 0 t z ∙ ap (λ (k : ℕ). zeros k) m) ∙ sym (first-free p x n)

  two : (t : List ℕ) → p.form ≡ 2 → 2 ≤ length t → length t ≡ p.wpb → eqb (get_or t 0 0) free_kind ≡ true → all_are 0 (drop 2 t) ≡ true
      → t ≡ free_text p (get_or t 1 0)
  two [] e least l k z = absurd (omega arith)
  two (x ∷ []) e least l k z = absurd (omega arith)
  two (x ∷ y ∷ t) e least l k z =
      let m : length t ≡ p.wpb - 2 = omega arith in
      ap (λ (h : ℕ). h ∷ y ∷ t) (eqb-true x free_kind k)
      ∙ ap (λ (r : List ℕ). free_kind ∷ y ∷ r) (all_are-true 0 t z ∙ ap (λ (q : ℕ). zeros q) m)
      ∙ sym (second-free p y e (omega arith))

  pub free-text : (t : List ℕ) → is_free p t ≡ true → all_are 0 (drop (link_place p + 1) t) ≡ true → length t ≡ p.wpb → good_params p ≡ true
      → t ≡ free_text p (link_in p t)
  unfolding link_in
  free-text t k z l good = by (ℕ_discrete p.form 2)
    where
      w : 6 ≤ p.wpb
      w = (caps p good).facts.wpb-least

      by : Dec (p.form ≡ 2) → t ≡ free_text p (get_or t (link_place p) 0)
      by (yes e) =
          let i = link-second p e in
          two t e (omega (arith, w)) l (sym (free-second p t e) ∙ k) (rw (i) at z)
          ∙ ap (λ (x : ℕ). free_text p (get_or t x 0)) (sym i)
      by (no n) =
          let i = link-first p n in
          one t n (omega (arith, w)) l (rw (i) at z)
          ∙ ap (λ (x : ℕ). free_text p (get_or t x 0)) (sym i)

-- the text, by zeros, the kind and the link
pub freed-by : (t t₁ t₂ r : List ℕ) (kind i link : ℕ) → t₁ ≡ put t 0 (zeros (length t)) → t₂ ≡ set t₁ 0 kind → r ≡ set t₂ i link → i < length t
    → r ≡ set (laid (length t) kind []) i link
unfolding laid
freed-by t t₁ t₂ r kind i link e₁ e₂ er h =
    let e : length t ≡ suc (length t - 1 - 0) = omega arith in
    let u : t₁ ≡ zeros (length t) = e₁ ∙ put_all t (zeros (length t)) (length-replicate (length t) 0) in
    er ∙ ap (λ (y : List ℕ). set y i link) (e₂ ∙ ap (λ (y : List ℕ). set y 0 kind) u ∙ ap (λ (m : ℕ). set (zeros m) 0 kind) e)

-- a block lent, and given back as a free block's text
module _ (p : Description) (f : List ℕ) (b a : ℕ) where
  pub link-lies : (i : ℕ) → i ≡ link_place p → HasBlock p f b → a ≡ start p b → i < length (mid_of a (a + p.wpb - a) f)
  link-lies i ei h e =
      let w = block-wide p f b h in
      let l = lent_length p f b a h e in
      omega (arith, link-most p)

  pub freed-back : (t : List ℕ) (kind i link : ℕ) → t ≡ set (laid (length (mid_of a (a + p.wpb - a) f)) kind []) i link
      → kind ≡ tag_of p free_kind → i ≡ link_place p → HasBlock p f b → a ≡ start p b → length t ≡ length (mid_of a (a + p.wpb - a) f)
      → put_mid a (a + p.wpb - a) f t ≡ put_block p f b (free_text p link)
  unfolding free_text
  freed-back t kind i link et ek ei h e k =
      given_back p f b a t h e k
      ∙ ap (put_block p f b) (et ∙ (λ j. set (laid (lent_length p f b a h e j) (ek j) []) (ei j) link))
