-- One block turned where it lies: the count, the link, and each text by its mark.
use Prim.Native.Nat.{ℕ, suc, ◌+◌, ◌-◌, ◌≤◌, ◌<◌}
use mathlib.Core.Path.{◌≡◌, refl, sym, ap, ◌∙◌}
use mathlib.Core.List.{List, ◌∷◌}
use native.Mathlib.Omega.{arith}
use mir.Syntax.{w64}
use mir.Val.{Fits}
use lib.ListN.{length, get_or, set}
use borrow.Author.Tests.{eq-eqb, ne_eqb}
use Rattle.words.specs.Words.{part, put}
use Rattle.words.proofs.Parts.{part-cons, put-cons, put-part, get_d_part, length_part}
use Rattle.words.proofs.All.{all_words-get_or}
use Rattle.table.specs.Tables.{count}
use Rattle.drum.specs.declared.Description.{Description}
use Rattle.drum.specs.Params.{start, tag_of, index_shape, detail_shape}
use Rattle.drum.specs.Blocks.{block_at, put_block, free_text, link_place, link_in}
use Rattle.drum.specs.Inside.{HasBlock}
use Rattle.drum.proofs.Good.{caps}
use Rattle.drum.proofs.Forms.{tag-most, link-most}
use Rattle.drum.proofs.Lent.{lies-end, block-wide, first_word}
use Rattle.layout.specs.Turned.{other_form, turned_index, turned_detail, turned_free, turned_text}
use Rattle.layout.proofs.TurnedForm.{good-other, other-start, other-size}
use Rattle.turn.specs.Fits.{Turnable, recounted}

-- the first of the w words from word s on is set
set_first : (f : List ℕ) (s w x : ℕ) → s + w ≤ length f → 0 < w → set f s x ≡ put f s (set (part s w f) 0 x)
set_first f s w x h l =
    let n : w ≡ suc (w - 1) = omega arith in
    let e : s + 1 ≡ suc s = omega arith in
    let rest = part (s + 1) (w - 1) f in
    let c : part s w f ≡ get_or f s 0 ∷ rest =
    ap (λ (m : ℕ). part s m f) n ∙ part-cons s (w - 1) f (omega arith) ∙ ap (λ (m : ℕ). get_or f s 0 ∷ part m (w - 1) f) (sym e) in
    let k : length rest ≡ w - 1 = length_part (s + 1) (w - 1) f (omega arith) in
    ap (λ (y : List ℕ). set y s x) (sym (put-part f (s + 1) (w - 1) (omega arith)))
    ∙ put-cons f s rest x (omega arith)
    ∙ ap (λ (y : List ℕ). put f s (set y 0 x)) (sym c)

-- block b lies in the file, and its words are small
module _ (p : Description) (f : List ℕ) (b : ℕ) (w : Turnable p f b) where
  pub begins : start p b < length f
  begins = omega (arith, lies-end p f b w.has, block-wide p f b w.has)

  ends : start p b + p.wpb ≤ length f
  ends = lies-end p f b w.has

  wide : 6 ≤ p.wpb
  wide = block-wide p f b w.has

  small : (i : ℕ) → get_or (block_at p f b) i 0 ≤ 262143
  small i = all_words-get_or (block_at p f b) i w.words

module _ (p : Description) (f : List ℕ) (b : ℕ) where
  pub start-lies : (a : ℕ) → a ≡ start p b → Turnable p f b → a < length f
  start-lies a ea w = omega (arith, begins p f b w)

  -- the count with the other tag: n is word 0 of the block, g its tag, c its count, t the other tag
  module _ (a n g c t kind : ℕ) (q : Description) (ec : c ≡ n - g) (en : n ≡ get_or f a 0) (ea : a ≡ start p b) (et : t ≡ tag_of q kind)
      (few : kind ≤ 8192) (w : Turnable p f b) where
    pub count_small : t + c ≤ 4294967295
    count_small = omega (arith, first_word p f b a n en w.has ea, small p f b w 0, tag-most q kind)

    pub count_fits : Fits w64 (t + c)
    count_fits = omega (arith, count_small)

    pub count-turned : (r : List ℕ) → r ≡ set f a (t + c) → g ≡ tag_of p kind → q ≡ other_form p → r ≡ put_block p f b (recounted p kind (block_at p f b))
    unfolding put_block block_at
    count-turned r er eg eq =
        let first : n ≡ get_or (part (start p b) p.wpb f) 0 0 = unfold block_at in first_word p f b a n en w.has ea in
        let x : t + c ≡ tag_of (other_form p) kind + (get_or (part (start p b) p.wpb f) 0 0 - tag_of p kind) =
        (λ j. (et ∙ ap (λ (d : Description). tag_of d kind) eq) j + (ec ∙ (λ i. first i - eg i)) j) in
        er ∙ (λ j. set f (ea j) (x j)) ∙ set_first f (start p b) p.wpb _ (ends p f b w) (omega (arith, wide p f b w))

  -- the link: i is its place, l the link
  module _ (a i : ℕ) (ea : a ≡ start p b) (ei : i ≡ link_place p) (w : Turnable p f b) where
    pub link-lies : a + i < length f
    link-lies = omega (arith, ends p f b w, wide p f b w, link-most p)

    pub link_fits : Fits w64 (a + i)
    link_fits =
        let c = caps p w.has.good in
        omega (arith, link-lies, w.has.file-is, c.file-is, c.master-most, c.blocks-most)

    link-is : (l : ℕ) → l ≡ get_or f (a + i) 0 → l ≡ link_in p (block_at p f b)
    unfolding link_in block_at
    link-is l el =
        el ∙ (λ j. get_or f (ea j + ei j) 0) ∙ sym (get_d_part (start p b) p.wpb (link_place p) f (omega (arith, wide p f b w, link-most p)))

    pub link-small : (l : ℕ) → l ≡ get_or f (a + i) 0 → l ≤ 262143
    unfolding link_in
    link-small l el = omega (arith, link-is l el, small p f b w (link_place p))

    pub link-turned : (l : ℕ) (q : Description) (r : List ℕ) → r ≡ put_block q f b (free_text q l) → l ≡ get_or f (a + i) 0 → q ≡ other_form p
        → r ≡ put_block p f b (turned_free p (block_at p f b))
    unfolding turned_free put_block
    link-turned l q r er el eq =
        er
        ∙ (λ j. put f (start (eq j) b) (free_text (eq j) (link-is l el j)))
        ∙ ap (λ (s : ℕ). put f s (free_text (other_form p) (link_in p (block_at p f b)))) (other-start p b)

  pub other-has : (q : Description) → q ≡ other_form p → Turnable p f b → HasBlock q f b
  unfolding other_form
  other-has q e w =
      let h = w.has in
      rw e (record { good = good-other p h.good; file-is = h.file-is ∙ sym (other-size p); least = h.least; most = h.most })

-- by the mark
module _ (p : Description) (f : List ℕ) (b m : ℕ) where
  pub index-turns : (r : List ℕ) → r ≡ put_block p f b (recounted p 4096 (block_at p f b)) → m ≡ 3 → r ≡ put_block p f b (turned_text p m (block_at p f b))
  unfolding turned_text turned_index count index_shape
  index-turns r er e = er ∙ sym (rw (eq-eqb m 3 e))

  pub detail-turns : (r : List ℕ) → r ≡ put_block p f b (recounted p 8192 (block_at p f b)) → m ≡ 1
      → r ≡ put_block p f b (turned_text p m (block_at p f b))
  unfolding turned_text turned_detail count detail_shape
  detail-turns r er e = er ∙ sym (rw e refl)

  pub link-turns : (r : List ℕ) → r ≡ put_block p f b (turned_free p (block_at p f b)) → m ≡ 2
      → r ≡ put_block p f b (turned_text p m (block_at p f b))
  unfolding turned_text
  link-turns r er e = er ∙ sym (rw e refl)

  pub none-turns : Turnable p f b → (m ≡ 3 → ⊥) → (m ≡ 1 → ⊥) → (m ≡ 2 → ⊥) → f ≡ put_block p f b (turned_text p m (block_at p f b))
  unfolding turned_text put_block block_at
  none-turns w n k l =
      sym (rw (ne_eqb m 3 n, ne_eqb m 1 k, ne_eqb m 2 l) (put-part f (start p b) p.wpb (ends p f b w)))
