-- What a PUT that answers 0 has done: where its record lies, which words have changed, and that the place behind it is one from which GET
-- goes on rightly.
use mathlib.Core.Path.{◌≡◌, refl, sym, ap, ◌∙◌, subst}
use mathlib.Core.Bool.{Bool, true, false, cond, ◌||◌, or-true}
use mathlib.Core.List.{List, [], ◌∷◌, ◌++◌}
use Prim.Native.Nat.{ℕ, ◌+◌, ◌*◌, ◌-◌, ◌≤◌, ◌<◌}
use native.Mathlib.Omega.{arith}
use native.Mathlib.Nat.{add-zero, zero-add}
use lib.Seq.{get_or-append_seam}
use lib.Dec.{leb, ltb, eqb}
use lib.ListN.{length, get_or, length-append}
use borrow.Author.Tests.{le-leb, ltb-true, lt-ltb, eq-eqb, ltb-false}
use Rattle.numbers.specs.Checked.{passed}
use Rattle.words.specs.Words.{part, put}
use Rattle.words.proofs.Parts.{length_part, length-put, part-part, part-put-before, part-put-in, part-append-low, part-all, get_d_part, get_or-put-in}
use Rattle.sequential.specs.declared.Kind.{Kind}
use Rattle.sequential.specs.declared.Kind.TheVariants.{Fixed, Variable}
use Rattle.sequential.specs.declared.Layout.{Layout}
use Rattle.sequential.specs.declared.Place.{Place}
use Rattle.sequential.specs.declared.Row.{Row}
use Rattle.sequential.specs.Rows.{area, sized, blocks, size, right, room, word_of, next, behind, put_place, closed_of, closed, row_words, laid}
use Rattle.sequential.specs.Calls.{put_spot}
use Rattle.sequential.specs.Lent.{LiesIn}
use Rattle.sequential.specs.Laws.{first}
use Rattle.sequential.proofs.Good.{Good, good-facts, whole-good, lies-end}
use Rattle.sequential.proofs.Laid.{put-tests, put-finds, lay-close}

-- two files whose words before word k are the same
abbrev pub Agree : ℕ → List ℕ → List ℕ → Type 0
Agree k f g = part 0 k f ≡ part 0 k g

pub agree-part : (k a n : ℕ) (f g : List ℕ) → Agree k f g → a + n ≤ k → part a n f ≡ part a n g
agree-part k a n f g e h =
    subst (λ (i : ℕ). part i n f ≡ part i n g) (zero-add a) (sym (part-part 0 k a n f h) ∙ ap (part a n) e ∙ part-part 0 k a n g h)

pub agree-word : (k i : ℕ) (f g : List ℕ) → Agree k f g → i < k → get_or f i 0 ≡ get_or g i 0
agree-word k i f g e h =
    subst (λ (j : ℕ). get_or f j 0 ≡ get_or g j 0) (zero-add i) (sym (get_d_part 0 k i f h) ∙ ap (λ (t : List ℕ). get_or t i 0) e ∙ get_d_part 0 k i g h)

pub agree_less : (j k : ℕ) (f g : List ℕ) → Agree k f g → j ≤ k → Agree j f g
agree_less j k f g e h = agree-part k 0 j f g e (omega arith)

pub succ-times : (a b : ℕ) → (a + 1) * b ≡ a * b + b
succ-times a b = omega arith

module _ (l : Layout) where
  -- what is known of a PUT that answers 0
  pub record Put (q : Place) (f w : List ℕ) (r : Row) : Type 0 where
    pub lies : LiesIn l r (length f)
    pub sized-is : sized l (length f) (length w) ≡ true
    pub right_is : right l r.words ≡ true
    pub words-is : r.words ≡ size l.kind 0 w
    pub place_is : r.place ≡ put_place l q r.words
    pub block-is : ltb q.block (blocks l (length f)) ≡ true
    pub words-in : r.words ≤ length w

  pub put-facts : (q : Place) (f w : List ℕ) (r : Row) → put_spot l q (length f) w ≡ passed r → Put q f w r
  put-facts q f w r e =
      let (sz, rt, qb, bl, er) = put-tests l q (length f) w r e in
      let (li, wi) = put-finds l q (length f) w r e in
      record {
        lies = li;
        sized-is = sz;
        right_is = subst (λ (x : Row). right l x.words ≡ true) er rt;
        words-is = sym (ap (λ (x : Row). x.words) er);
        place_is = subst (λ (x : Row). x.place ≡ put_place l q x.words) er refl;
        block-is = qb;
        words-in = wi;
      }

  -- the place behind a record, as a word of the file
  pub behind-word : (r : Row) → word_of l (behind r) ≡ word_of l r.place + r.words
  unfolding word_of behind
  behind-word r = omega arith

  -- a later place is a later word
  pub next_word : (q : Place) → Good l → q.at ≤ area l → word_of l q ≤ word_of l (next q)
  unfolding word_of next
  next_word q g h =
      let a = g.area-is in
      let b = g.leaders-lt in
      let m : (q.block + 1) * l.wpb ≡ q.block * l.wpb + l.wpb = succ-times q.block l.wpb in
      omega arith

  pub next-beyond : (q : Place) → Good l → q.at < area l → word_of l q < word_of l (next q)
  unfolding word_of next
  next-beyond q g h =
      let a = g.area-is in
      let b = g.leaders-lt in
      let m : (q.block + 1) * l.wpb ≡ q.block * l.wpb + l.wpb = succ-times q.block l.wpb in
      omega arith

  module _ (q : Place) (f w : List ℕ) (r : Row) (p : Put q f w r) where
    fine : Good l
    fine = good-facts l (whole-good l (length f) p.lies.sized)

    -- what is written lies in the file
    pub row-length : length (row_words l r w) ≡ r.words + cond (closed l r) 1 0
    unfolding row_words
    row-length = length-append (part 0 r.words w) (cond (closed l r) (0 ∷ []) []) ∙ go (closed l r)
      where
        go : (b : Bool) → length (part 0 r.words w) + length {A = ℕ} (cond b (0 ∷ []) []) ≡ r.words + cond b 1 0
        go true = rw (length_part 0 r.words w (let z = p.words-in in omega arith))
        go false = rw (length_part 0 r.words w (let z = p.words-in in omega arith))

    pub row-end : word_of l r.place + length (row_words l r w) ≤ length f
    row-end = subst (λ (n : ℕ). word_of l r.place + n ≤ length f) (sym row-length) (go (closed l r) refl)
      where
        go : (b : Bool) → closed l r ≡ b → word_of l r.place + (r.words + cond b 1 0) ≤ length f
        go true e = let z = lay-close l r (length f) (word_of l r.place) refl p.lies (closed l r) refl e in omega arith
        go false e = let z = lies-end l r (length f) p.lies in omega arith

    pub laid-length : length (laid l r w f) ≡ length f
    unfolding laid
    laid-length = length-put f (word_of l r.place) (row_words l r w) row-end

    low : part 0 r.words (row_words l r w) ≡ part 0 r.words w
    unfolding row_words
    low =
        let n : length (part 0 r.words w) ≡ r.words = length_part 0 r.words w (let z = p.words-in in omega arith) in
        part-append-low 0 r.words (part 0 r.words w) (cond (closed l r) (0 ∷ []) []) (omega arith) ∙ part-all r.words (part 0 r.words w) n

    -- the record stands there
    pub laid-row : part (word_of l r.place) r.words (laid l r w f) ≡ part 0 r.words w
    unfolding laid
    laid-row =
        let a = word_of l r.place in
        let h : 0 + r.words ≤ length (row_words l r w) = (let z = row-length in omega arith) in
        let x : part (a + 0) r.words (put f a (row_words l r w)) ≡ part 0 r.words (row_words l r w) =
        part-put-in f a (row_words l r w) 0 r.words h row-end in
        subst (λ (i : ℕ). part i r.words (put f a (row_words l r w)) ≡ part 0 r.words w) (add-zero a) (x ∙ low)

    -- no word before it has changed
    pub laid-before : (k : ℕ) → k ≤ word_of l r.place → Agree k (laid l r w f) f
    unfolding laid
    laid-before k h = part-put-before f (word_of l r.place) (row_words l r w) 0 k (omega arith) row-end

    -- a zero word stands behind a variable record that does not fill its block
    row_last : closed l r ≡ true → get_or (row_words l r w) r.words 0 ≡ 0
    unfolding row_words
    row_last c =
        let n : length (part 0 r.words w) ≡ r.words = length_part 0 r.words w (let z = p.words-in in omega arith) in
        rw c (subst (λ (i : ℕ). get_or (part 0 r.words w ++ (0 ∷ [])) i 0 ≡ 0) n (get_or-append_seam (part 0 r.words w) 0 [] 0))

    pub laid-zero : l.kind ≡ Variable → r.place.at + r.words < area l → get_or (laid l r w f) (word_of l (behind r)) 0 ≡ 0
    unfolding laid closed
    laid-zero k h =
        let a = word_of l r.place in
        let c : closed l r ≡ true = ap (λ (z : Kind). closed_of z (ltb (r.place.at + r.words) (area l))) k ∙ lt-ltb _ _ h in
        let m : length (row_words l r w) ≡ r.words + 1 = row-length ∙ ap (λ (b : Bool). r.words + cond b 1 0) c in
        let x : get_or (put f a (row_words l r w)) (a + r.words) 0 ≡ get_or (row_words l r w) (a + r.words - a) 0 =
        get_or-put-in f a (row_words l r w) (a + r.words) (omega arith) (omega arith) row-end in
        let d : a + r.words - a ≡ r.words = omega arith in
        subst (λ (i : ℕ). get_or (put f a (row_words l r w)) i 0 ≡ 0) (sym (behind-word r)) (x ∙ ap (λ (i : ℕ). get_or (row_words l r w) i 0) d ∙ row_last c)

  pub fits-room : (at n : ℕ) → at + n ≤ area l → room l at n ≡ true
  unfolding room
  fits-room at n h = le-leb (at + n) (area l) h

  -- a place that a PUT may leave: in the data area, and, of variable records, at a block's start or end or at a zero word
  abbrev pub zero_of : Kind → ℕ → ℕ → Bool
  zero_of (Fixed n) at word = true
  zero_of Variable at word = eqb at 0 || (leb (area l) at || eqb word 0)

  pub record Ready (q : Place) (f : List ℕ) : Type 0 where
    pub most : q.at ≤ area l
    pub zero : zero_of l.kind q.at (get_or f (word_of l q) 0) ≡ true

  pub ready-first : (f : List ℕ) → Ready first f
  ready-first f = record { most = omega arith; zero = go l.kind }
    where
      go : (k : Kind) → zero_of k 0 (get_or f (word_of l first) 0) ≡ true
      go (Fixed n) = refl
      go Variable = refl

  module _ (q : Place) (f w : List ℕ) (r : Row) (p : Put q f w r) where
    pub ready-behind : Ready (behind r) (laid l r w f)
    unfolding behind
    ready-behind = record { most = p.lies.most; zero = go l.kind refl }
      where
        go : (k : Kind) → l.kind ≡ k → zero_of l.kind (behind r).at (get_or (laid l r w f) (word_of l (behind r)) 0) ≡ true
        go (Fixed n) ek = ap (λ (k : Kind). zero_of k (behind r).at (get_or (laid l r w f) (word_of l (behind r)) 0)) ek
        go Variable ek =
            ap (λ (k : Kind). zero_of k (behind r).at (get_or (laid l r w f) (word_of l (behind r)) 0)) ek
            ∙ (test (ltb (r.place.at + r.words) (area l)) refl)
          where
            test : (b : Bool) → ltb (r.place.at + r.words) (area l) ≡ b
                → (eqb (r.place.at + r.words) 0 || (leb (area l) (r.place.at + r.words) || eqb (get_or (laid l r w f) (word_of l (behind r)) 0) 0)) ≡ true
            test true e =
                let z = laid-zero q f w r p ek (ltb-true _ _ e) in
                simp (eq-eqb (get_or (laid l r w f) (word_of l (behind r)) 0) 0 z, or-true)
            test false e = simp (le-leb (area l) (r.place.at + r.words) (ltb-false _ _ e), or-true)

    -- it goes to a later word, or stays
    pub place-later : Ready q f → word_of l q ≤ word_of l r.place
    unfolding put_place
    place-later h = subst (λ (z : Place). word_of l q ≤ word_of l z) (sym p.place_is) (go (room l q.at r.words))
      where
        go : (b : Bool) → word_of l q ≤ word_of l (cond b q (next q))
        go true = omega arith
        go false = next_word q (good-facts l (whole-good l (length f) p.lies.sized)) h.most
