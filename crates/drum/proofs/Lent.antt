-- A block lent as the words `&mut file[start..end]` and given back: what was made of it is what the block then is.
use mathlib.Core.Path.{◌≡◌, sym, ap, ◌∙◌}
use mathlib.Core.List.{List, [], ◌∷◌, ◌++◌}
use Prim.Native.Nat.{ℕ, suc, ◌+◌, ◌-◌, ◌≤◌, ◌<◌}
use native.Mathlib.Omega.{arith}
use borrow.Rule.Slice.PartMut.{put_mid, mid_of}
use lib.ListN.{length, get_or, set, length-append, length-replicate, length-set}
use Rattle.words.specs.Words.{part, put, zeros}
use Rattle.words.proofs.Parts.{mid-part, set-put, put-after, put_all, part-all, length_part, get_d_part}
use Rattle.table.specs.declared.Shape.{Shape}
use Rattle.table.specs.Tables.{count, place, inserted, replaced, laid}
use Rattle.table.specs.Splits.{renamed}
use Rattle.drum.specs.declared.Description.{Description}
use Rattle.drum.specs.Params.{start, index_kind, index_shape, tag_of}
use Rattle.drum.specs.Blocks.{Fitting, Block, block_at, put_block}
use Rattle.drum.specs.Inside.{HasBlock, Takes}
use Rattle.drum.proofs.Good.{caps}
use Rattle.drum.proofs.Forms.{entries-read}
use Rattle.drum.proofs.Blocks.{block_within, length-block, length-put_block, block_same, block-over, lent-block}

module _ (p : Description) (f : List ℕ) (b : ℕ) where
  -- the block lies in the file
  pub lies-end : HasBlock p f b → start p b + p.wpb ≤ length f
  lies-end h =
      let w = block_within p b (h.least, h.most) in
      let l = h.file-is in
      omega arith

  pub lies-start : HasBlock p f b → start p b < length f
  lies-start h =
      let g = caps p h.good in
      let q = g.facts in
      let l = lies-end h in
      omega arith

  pub block-wide : HasBlock p f b → 6 ≤ p.wpb
  block-wide h = (caps p h.good).facts.wpb-least

  -- its first word in the file
  pub first_word : (a n : ℕ) → n ≡ get_or f a 0 → HasBlock p f b → a ≡ start p b → n ≡ get_or (block_at p f b) 0 0
  unfolding block_at
  first_word a n en h e =
      let g = caps p h.good in
      let q = g.facts in
      en ∙ ap (λ (x : ℕ). get_or f x 0) (e ∙ z) ∙ sym (get_d_part (start p b) p.wpb 0 f (omega arith))
    where
      z : start p b ≡ start p b + 0
      z = omega arith

  -- it is the count of an index block, with its tag
  pub first-entries : (a n g r : ℕ) → r ≡ n - g → n ≡ get_or f a 0 → g ≡ tag_of p index_kind → HasBlock p f b → a ≡ start p b
      → r ≡ count (index_shape p) (block_at p f b)
  first-entries a n g r er en eg h e = entries-read p (block_at p f b) r n g er (first_word a n en h e) eg

  -- the words that are lent are the block's, and as many
  pub lent : (a : ℕ) → a ≡ start p b → mid_of a (a + p.wpb - a) f ≡ block_at p f b
  unfolding block_at
  lent a e =
      let k : a + p.wpb - a ≡ p.wpb = omega arith in
      rw (k, e) (mid-part (start p b) p.wpb f)

  pub lent_length : (a : ℕ) → HasBlock p f b → a ≡ start p b → length (mid_of a (a + p.wpb - a) f) ≡ p.wpb
  lent_length a h e = ap length (lent a e) ∙ length-block p f h.file-is b (h.least, h.most)

  -- a text that comes back is the block's then
  pub given_back : (a : ℕ) (t : List ℕ) → HasBlock p f b → a ≡ start p b → length t ≡ length (mid_of a (a + p.wpb - a) f)
      → put_mid a (a + p.wpb - a) f t ≡ put_block p f b t
  given_back a t h e k = lent-block p f t b a (a + p.wpb - a) e (omega arith) (k ∙ lent_length a h e)

  -- each change of the words that are lent is that change of the block
  changed-back : (g : List ℕ → List ℕ) (a : ℕ) (t : List ℕ) → HasBlock p f b → a ≡ start p b → t ≡ g (mid_of a (a + p.wpb - a) f)
      → length t ≡ length (mid_of a (a + p.wpb - a) f) → put_mid a (a + p.wpb - a) f t ≡ put_block p f b (g (block_at p f b))
  changed-back g a t h e et k = given_back a t h e k ∙ ap (put_block p f b) (et ∙ ap g (lent a e))

  module _ (a : ℕ) (t : List ℕ) where
    pub laid-back : (n : ℕ) (rows : List ℕ) → t ≡ laid (length (mid_of a (a + p.wpb - a) f)) n rows → HasBlock p f b → a ≡ start p b
        → length t ≡ length (mid_of a (a + p.wpb - a) f) → put_mid a (a + p.wpb - a) f t ≡ put_block p f b (laid p.wpb n rows)
    laid-back n rows et h e k =
        given_back a t h e k ∙ ap (put_block p f b) (et ∙ ap (λ (w : ℕ). laid w n rows) (lent_length a h e))

    pub inserted-back : (h : Shape) (i : ℕ) (r : List ℕ) → t ≡ inserted h i r (mid_of a (a + p.wpb - a) f) → HasBlock p f b → a ≡ start p b
        → length t ≡ length (mid_of a (a + p.wpb - a) f) → put_mid a (a + p.wpb - a) f t ≡ put_block p f b (inserted h i r (block_at p f b))
    inserted-back h i r et has e k = changed-back (inserted h i r) a t has e et k

    pub replaced-back : (h : Shape) (i : ℕ) (r : List ℕ) → t ≡ replaced h i r (mid_of a (a + p.wpb - a) f) → HasBlock p f b → a ≡ start p b
        → length t ≡ length (mid_of a (a + p.wpb - a) f) → put_mid a (a + p.wpb - a) f t ≡ put_block p f b (replaced h i r (block_at p f b))
    replaced-back h i r et has e k = changed-back (replaced h i r) a t has e et k

    pub renamed-back : (h : Shape) (i x : ℕ) → t ≡ set (mid_of a (a + p.wpb - a) f) (place h i + h.width) x → HasBlock p f b → a ≡ start p b
        → length t ≡ length (mid_of a (a + p.wpb - a) f) → put_mid a (a + p.wpb - a) f t ≡ put_block p f b (renamed h i x (block_at p f b))
    unfolding renamed
    renamed-back h i x et has e k = changed-back (renamed h i x) a t has e et k

  -- what the block can take, the words that are lent can
  module _ (a : ℕ) (h : Shape) (i : ℕ) (takes : Takes h i (block_at p f b)) (e : a ≡ start p b) where
    pub room-lent : place h (count h (mid_of a (a + p.wpb - a) f)) + h.stride ≤ length (mid_of a (a + p.wpb - a) f)
    room-lent = rw (lent a e) takes.room

    pub place-lent : i ≤ count h (mid_of a (a + p.wpb - a) f)
    place-lent = rw (lent a e) takes.place-most

    pub count-lent : h.tag + count h (mid_of a (a + p.wpb - a) f) < 262143
    count-lent = rw (lent a e) takes.count_most

-- a file that fits has its blocks
pub held : (p : Description) (f b : List ℕ) (x : ℕ) → Fitting p f b → 1 ≤ x → x ≤ p.n → HasBlock p f x
held p f b x fit l m = record { good = fit.good; file-is = fit.file-is; least = l; most = m }

-- and has them still when one of them was written
pub held-still : (p : Description) (f g : List ℕ) (b x : ℕ) (t : List ℕ) → g ≡ put_block p f b t → length t ≡ p.wpb → HasBlock p f b → HasBlock p f x → HasBlock p g x
held-still p f g b x t e n h k =
    record {
      good = k.good;
      file-is = ap length e ∙ length-put_block p f h.file-is b (h.least, h.most) t n;
      least = k.least;
      most = k.most;
    }

-- a block changed twice
pub changed-twice : (p : Description) (f f₁ f₂ : List ℕ) (b : ℕ) (t u : List ℕ) → HasBlock p f b → length t ≡ p.wpb → length u ≡ p.wpb
    → f₁ ≡ put_block p f b t → (g : List ℕ → List ℕ) → f₂ ≡ put_block p f₁ b (g (block_at p f₁ b)) → g t ≡ u → f₂ ≡ put_block p f b u
changed-twice p f f₁ f₂ b t u h ht hu e₁ g e₂ e =
    let hf = h.file-is in
    let hb : Block p b = (h.least, h.most) in
    e₂
    ∙ ap (λ (y : List ℕ). put_block p y b (g (block_at p y b))) e₁
    ∙ ap (λ (y : List ℕ). put_block p (put_block p f b t) b (g y)) (block_same p f hf b hb t ht)
    ∙ ap (put_block p (put_block p f b t) b) e
    ∙ block-over p f hf b hb t ht u hu

-- a count, rows and zeros, by a store, a copy and zeros
pub laid_by : (d d₁ d₂ d₃ rows : List ℕ) (c n m : ℕ) → d₁ ≡ set d 0 c → d₂ ≡ put d₁ 1 (part 0 n rows) → d₃ ≡ put d₂ (1 + n) (zeros m)
    → n ≡ length rows → 1 + length rows ≤ length d → m ≡ length d₂ - 1 - n → length d₂ ≡ length d₁ → d₃ ≡ laid (length d) c rows
unfolding laid
laid_by d d₁ d₂ d₃ rows c n m p q r l h e k =
    let z : List ℕ = zeros m in
    let w : List ℕ = rows ++ z in
    let a : length z ≡ m = length-replicate m 0 in
    let i : length d₁ ≡ length d = ap length p ∙ length-set d 0 c in
    let u : d₂ ≡ put d 0 (c ∷ rows) =
    q ∙ ap (put d₁ 1) (part-all n rows (sym l)) ∙ ap (λ (x : List ℕ). put x 1 rows) (p ∙ set-put d 0 c (omega arith)) ∙ put-after d 0 (c ∷ []) rows (omega arith) in
    let j : 1 + n ≡ 0 + suc (length rows) = omega arith in
    let v : d₃ ≡ put (put d 0 (c ∷ rows)) (0 + length (c ∷ rows)) z =
    r ∙ ap (λ (x : List ℕ). put x (1 + n) z) u ∙ ap (λ (y : ℕ). put (put d 0 (c ∷ rows)) y z) j in
    let f : m ≡ length d - 1 - length rows = omega arith in
    let g : length (c ∷ w) ≡ length d = simp length-append (omega arith) in
    v ∙ put-after d 0 (c ∷ rows) z (omega arith) ∙ put_all d (c ∷ w) g ∙ ap (λ (y : ℕ). c ∷ (rows ++ zeros y)) f

-- a block copied to the buffer, and the buffer copied to a block
module _ (p : Description) (f b : List ℕ) (x a : ℕ) (e : a ≡ start p x) (fit : Fitting p f b) (least : 1 ≤ x) (most : x ≤ p.n) where
  pub block-end : a + p.wpb ≤ length f
  block-end =
      let w = block_within p x (least, most) in
      let l = fit.file-is in
      omega arith

  pub read_by : (t : List ℕ) → t ≡ put b 0 (part a p.wpb f) → t ≡ block_at p f x
  unfolding block_at
  read_by t q =
      let n = length_part a p.wpb f block-end ∙ sym fit.buffer-is in
      q ∙ put_all b (part a p.wpb f) n ∙ ap (λ (y : ℕ). part y p.wpb f) e

  pub written-by : (g : List ℕ) → g ≡ put f a (part 0 p.wpb b) → g ≡ put_block p f x b
  unfolding put_block
  written-by g q = q ∙ ap (put f a) (part-all p.wpb b fit.buffer-is) ∙ ap (λ (y : ℕ). put f y b) e
