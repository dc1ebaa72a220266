-- The record written or read: where it lies, and what PUT and GET then give.
use mathlib.Core.Path.{◌≡◌, refl, sym, ap, ◌∙◌, subst}
use mathlib.Core.Bool.{Bool, true, false, cond, not, ◌&&◌}
use mathlib.Core.List.{List, [], ◌∷◌, ◌++◌, append-nil}
use Prim.Native.Nat.{ℕ, ◌+◌, ◌-◌, ◌≤◌, ◌<◌}
use native.Mathlib.Omega.{arith}
use lib.Dec.{leb, ltb, eqb}
use lib.ListN.{length, replicate}
use borrow.Author.Tests.{leb-true, ltb-true, eqb-false, not-true}
use Rattle.numbers.specs.Numbers.{done, wrong_size, wrong_length, no_room, at_end}
use Rattle.numbers.specs.Checked.{Checked, passed, refused, require, ◌>>◌}
use Rattle.numbers.proofs.Passed.{clash as refused-not}
use Rattle.words.specs.Words.{part, put}
use Rattle.words.proofs.Keys.{clash}
use Rattle.words.proofs.All.{and_both}
use Rattle.words.proofs.Parts.{length_part, length-put, put-after}
use Rattle.sequential.specs.declared.Kind.{Kind}
use Rattle.sequential.specs.declared.Kind.TheVariants.{Fixed, Variable}
use Rattle.sequential.specs.declared.Layout.{Layout}
use Rattle.sequential.specs.declared.Place.{Place}
use Rattle.sequential.specs.declared.Row.{Row}
use Rattle.sequential.specs.Rows.{area, sized, blocks, size, right, room, word_of, next, behind, put_place, closed_of, closed}
use Rattle.sequential.specs.Rows.{row_words, laid, get_place, work_of}
use Rattle.sequential.specs.Calls.{put_spot, row_from, get_spot, put_row, put_told, get_row, get_told, fixed_right}
use Rattle.sequential.specs.Lent.{LiesIn}
use Rattle.sequential.proofs.Good.{lies-end, lies-few, inside-word}
use Rattle.sequential.proofs.Spots.{sized-whole, sized-work}

-- tests that were passed one after the other, and what is left
two : (a b : Bool) (m n : ℕ) (x y : Row) → (require a m >> (require b n >> passed x)) ≡ passed y → (a ≡ true) × (b ≡ true) × (x ≡ y)
two true true m n x y e = (refl, refl, cc)
two true false m n x y e = refused-not n y e
two false b m n x y e = refused-not m y e

four : (a b c d : Bool) (m n o p : ℕ) (x : Checked Row) (y : Row)
    → (require a m >> (require b n >> (require c o >> (require d p >> x)))) ≡ passed y
    → (a ≡ true) × (b ≡ true) × (c ≡ true) × (d ≡ true) × (x ≡ passed y)
four true true true true m n o p x y e = (refl, refl, refl, refl, e)
four true true true false m n o p x y e = refused-not p y e
four true true false d m n o p x y e = refused-not o y e
four true false c d m n o p x y e = refused-not n y e
four false b c d m n o p x y e = refused-not m y e

module _ (l : Layout) where
  -- a right length, and room, as facts
  pub right-least : (n : ℕ) → right l n ≡ true → 1 ≤ n
  unfolding right
  right-least n h = leb-true 1 n (and_both (leb 1 n) (leb n (area l)) h).0

  pub right-most : (n : ℕ) → right l n ≡ true → n ≤ area l
  unfolding right
  right-most n h = leb-true n (area l) (and_both (leb 1 n) (leb n (area l)) h).1

  pub room_fits : (at n : ℕ) → room l at n ≡ true → at + n ≤ area l
  unfolding room
  room_fits at n h = leb-true (at + n) (area l) h

  pub place-room : (q : Place) (n : ℕ) → right l n ≡ true → (put_place l q n).at + n ≤ area l
  unfolding put_place next
  place-room q n h = go (room l q.at n) refl
    where
      go : (b : Bool) → room l q.at n ≡ b → (cond b q (record { block = q.block + 1; at = 0 })).at + n ≤ area l
      go true e = room_fits q.at n e
      go false e = let m = right-most n h in omega arith

  -- a zero word goes behind a variable record that does not fill its block
  pub closed-fixed : (r : Row) (n : ℕ) → l.kind ≡ Fixed n → false ≡ closed l r
  unfolding closed
  closed-fixed r n k = rw k

  pub closed-variable : (r : Row) → l.kind ≡ Variable → ltb (r.place.at + r.words) (l.wpb - l.leaders) ≡ closed l r
  unfolding closed area
  closed-variable r k = rw k

  -- that word is in the block too
  pub closed-room : (r : Row) → closed l r ≡ true → r.place.at + r.words < area l
  unfolding closed
  closed-room r h = go l.kind h
    where
      go : (k : Kind) → closed_of k (ltb (r.place.at + r.words) (area l)) ≡ true → r.place.at + r.words < area l
      go (Fixed n) h = absurd (clash (sym h))
      go Variable h = ltb-true _ _ h

  module _ (r : Row) (file : ℕ) (start : ℕ) (s : start ≡ word_of l r.place) (h : LiesIn l r file) where
    pub lay-end : start + r.words ≤ file
    lay-end = subst (λ (i : ℕ). i + r.words ≤ file) (sym s) (lies-end l r file h)

    pub lay-close : (b : Bool) → b ≡ closed l r → b ≡ true → start + r.words < file
    unfolding word_of
    lay-close b e t =
        let c = closed-room r (sym e ∙ t) in
        let i =
        inside-word l (record { block = r.place.block; at = r.place.at + r.words }) file (record { sized = h.sized; block = h.block; word = c }) in
        omega arith

  -- the record's words, and the zero word
  module _ (r : Row) (f g w : List ℕ) (start : ℕ) (s : start ≡ word_of l r.place) (e : g ≡ put f start (part 0 r.words w))
      (b : Bool) (c : b ≡ closed l r) where
    pub laid-open : b ≡ false → g ≡ laid l r w f
    unfolding laid row_words
    laid-open h = e ∙ rw (sym c ∙ h) (rw s (ap (put f (word_of l r.place)) (sym (append-nil (part 0 r.words w)))))

    pub laid-closed : (z : List ℕ) → z ≡ put g (start + r.words) (replicate 1 0) → b ≡ true → LiesIn l r (length f) → r.words ≤ length w
        → z ≡ laid l r w f
    unfolding laid row_words
    laid-closed z ez h lies wl =
        let n : length (part 0 r.words w) ≡ r.words = length_part 0 r.words w (omega arith) in
        let y = lies-end l r (length f) lies in
        let behind : put (put f start (part 0 r.words w)) (start + r.words) (0 ∷ []) ≡ put f start (part 0 r.words w ++ (0 ∷ [])) =
        subst (λ (m : ℕ). put (put f start (part 0 r.words w)) (start + m) (0 ∷ []) ≡ put f start (part 0 r.words w ++ (0 ∷ []))) n
        (put-after f start (part 0 r.words w) (0 ∷ []) (omega arith)) in
        ez ∙ ap (λ (t : List ℕ). put t (start + r.words) (0 ∷ [])) e ∙ behind ∙ rw (sym c ∙ h) (rw s refl)

  -- the zero word lies in the file too
  pub zero-end : (r : Row) (start : ℕ) (f g w : List ℕ) (b : Bool) → g ≡ put f start (part 0 r.words w) → LiesIn l r (length f)
      → start ≡ word_of l r.place → r.words ≤ length w → b ≡ closed l r → b ≡ true → start + r.words + 1 ≤ length g
  zero-end r start f g w b e lies s wl c h =
      let x = lay-close r (length f) start s lies b c h in
      let n : length (part 0 r.words w) ≡ r.words = length_part 0 r.words w (omega arith) in
      let m : length g ≡ length f = ap length e ∙ length-put f start (part 0 r.words w) (omega arith) in
      omega arith

  -- what PUT's plan finds lies in a block of the file, and the workspace has its words
  module _ (q : Place) (file : ℕ) (w : List ℕ) where
    words-in : right l (size l.kind 0 w) ≡ true → sized l file (length w) ≡ true → size l.kind 0 w ≤ length w
    words-in rt sz = go l.kind refl
      where
        go : (k : Kind) → l.kind ≡ k → size l.kind 0 w ≤ length w
        go (Fixed n) ek =
            let s : length w ≡ n = sized-work l file (length w) sz ∙ ap (λ (k : Kind). work_of k (area l)) ek in
            rw ek (omega arith)
        go Variable ek =
            let s : length w ≡ area l = sized-work l file (length w) sz ∙ ap (λ (k : Kind). work_of k (area l)) ek in
            let m = right-most (size l.kind 0 w) rt in
            omega arith

    pub put-tests : (r : Row) → put_spot l q file w ≡ passed r
        → (sized l file (length w) ≡ true) × (right l (size l.kind 0 w) ≡ true) × (ltb q.block (blocks l file) ≡ true)
        × (ltb (put_place l q (size l.kind 0 w)).block (blocks l file) ≡ true)
        × (record { place = put_place l q (size l.kind 0 w); words = size l.kind 0 w } ≡ r)
    unfolding put_spot
    put-tests r e =
        let (sz, rt, qb, bl, er) =
        four (sized l file (length w)) (right l (size l.kind 0 w)) (ltb q.block (blocks l file))
        (ltb (put_place l q (size l.kind 0 w)).block (blocks l file)) wrong_size wrong_length no_room no_room
        (passed (record { place = put_place l q (size l.kind 0 w); words = size l.kind 0 w })) r e in
        (sz, rt, qb, bl, let z : record { place = put_place l q (size l.kind 0 w); words = size l.kind 0 w } ≡ r = cc in z)

    pub put-finds : (r : Row) → put_spot l q file w ≡ passed r → LiesIn l r file × (r.words ≤ length w)
    put-finds r e =
        let (sz, rt, qb, bl, er) = put-tests r e in
        subst (λ (x : Row). LiesIn l x file × (x.words ≤ length w)) er (
          record {
            sized = sized-whole l file (length w) sz;
            block = ltb-true (put_place l q (size l.kind 0 w)).block (blocks l file) bl;
            least = right-least (size l.kind 0 w) rt;
            most = place-room q (size l.kind 0 w) rt;
          },
          words-in rt sz,
        )

    module _ (r : Row) (e : passed r ≡ put_spot l q file w) where
      pub put-lies : LiesIn l r file
      put-lies = (put-finds r (sym e)).0

      pub put-words : r.words ≤ length w
      put-words = (put-finds r (sym e)).1

      pub put-few : r.place.at + r.words ≤ 4096
      put-few = lies-few l r file put-lies

  -- and so does what GET's plan finds
  module _ (q : Place) (left : ℕ) (f : List ℕ) (work : ℕ) where
    pub row-tests : (z : Place) (r : Row) → row_from l z f ≡ passed r
        → (ltb z.block (blocks l (length f)) ≡ true) × (1 ≤ size l.kind (word_of l z) f)
        × (room l z.at (size l.kind (word_of l z) f) ≡ true) × (record { place = z; words = size l.kind (word_of l z) f } ≡ r)
    unfolding row_from
    row-tests z r e =
        let m = size l.kind (word_of l z) f in
        let (bl, rt, er) = two (ltb z.block (blocks l (length f))) (leb 1 m && room l z.at m) at_end wrong_length (record { place = z; words = m }) r e in
        let (low, rm) = and_both (leb 1 m) (room l z.at m) rt in
        (bl, leb-true 1 m low, rm, er)

    pub get_tests : (r : Row) → get_spot l q left f work ≡ passed r
        → (sized l (length f) work ≡ true) × (fixed_right l ≡ true) × (not (eqb left 0) ≡ true)
        × (ltb q.block (blocks l (length f)) ≡ true) × (row_from l (get_place l q f) f ≡ passed r)
    unfolding get_spot
    get_tests r e =
        four (sized l (length f) work) (fixed_right l) (not (eqb left 0)) (ltb q.block (blocks l (length f)))
        wrong_size wrong_length at_end at_end (row_from l (get_place l q f) f) r e

    get-finds : (r : Row) → get_spot l q left f work ≡ passed r → LiesIn l r (length f)
    get-finds r e =
        let (sz, fr, lf, qb, e₁) = get_tests r e in
        let (bl, low, rm, er) = row-tests (get_place l q f) r e₁ in
        subst (λ (x : Row). LiesIn l x (length f)) er
        (record {
          sized = sized-whole l (length f) work sz;
          block = ltb-true (get_place l q f).block (blocks l (length f)) bl;
          least = low;
          most = room_fits (get_place l q f).at (size l.kind (word_of l (get_place l q f)) f) rm;
        })

    get-some : (r : Row) → get_spot l q left f work ≡ passed r → 1 ≤ left
    get-some r e =
        let (sz, fr, lf, qb, e₁) = get_tests r e in
        let z = eqb-false left 0 (not-true (eqb left 0) lf) in
        omega arith

    module _ (r : Row) (e : passed r ≡ get_spot l q left f work) where
      pub get-lies : LiesIn l r (length f)
      get-lies = get-finds r (sym e)

      pub get-few : r.place.at + r.words ≤ 4096
      get-few = lies-few l r (length f) get-lies

      pub get-end : (start : ℕ) → start ≡ word_of l r.place → start + r.words ≤ length f
      get-end start es = lay-end r (length f) start es get-lies

      pub get_left : 1 ≤ left
      get_left = get-some r (sym e)

  -- PUT and GET, once it is decided
  module _ (q : Place) (f w : List ℕ) where
    pub put_refused : (m n : ℕ) → refused m ≡ put_spot l q (length f) w → n ≡ m → record { number = n; place = q; file = f } ≡ put_row l q f w
    unfolding put_row
    put_refused m n e k = rw k (ap (put_told l q f w) e)

    pub put-done : (r : Row) (g : List ℕ) (z : Place) → passed r ≡ put_spot l q (length f) w → g ≡ laid l r w f → z ≡ behind r
        → record { number = done; place = z; file = g } ≡ put_row l q f w
    unfolding put_row
    put-done r g z e eg ez =
        let d : record { number = done; place = z; file = g } ≡ put_told l q f w (passed r) = λ j. record { number = done; place = ez j; file = eg j } in
        d ∙ ap (put_told l q f w) e

  module _ (q : Place) (left : ℕ) (f w : List ℕ) where
    pub get_refused : (m n : ℕ) → refused m ≡ get_spot l q left f (length w) → n ≡ m
        → record { number = n; place = q; left = left; work = w } ≡ get_row l q left f w
    unfolding get_row
    get_refused m n e k = rw k (ap (get_told l q left f w) e)

    module _ (r : Row) (e : passed r ≡ get_spot l q left f (length w)) where
      pub get-done : (start : ℕ) (v : List ℕ) (z : Place) → start ≡ word_of l r.place → v ≡ put w 0 (part start r.words f) → z ≡ behind r
          → record { number = done; place = z; left = left - 1; work = v } ≡ get_row l q left f w
      unfolding get_row
      get-done start v z es ev ez =
          let d : record { number = done; place = z; left = left - 1; work = v } ≡ get_told l q left f w (passed r) =
          λ j. record { number = done; place = ez j; left = left - 1; work = (ev ∙ ap (λ (i : ℕ). put w 0 (part i r.words f)) es) j } in
          d ∙ ap (get_told l q left f w) e

      -- the workspace has room for it
      fits : r.words ≤ length w
      fits =
          let (sz, fr, lf, qb, e₁) = get_tests q left f (length w) r (sym e) in
          let (bl, low, rm, er) = row-tests q left f (length w) (get_place l q f) r e₁ in
          subst (λ (x : Row). x.words ≤ length w) er (go l.kind refl sz (room_fits (get_place l q f).at (size l.kind (word_of l (get_place l q f)) f) rm))
        where
          go : (k : Kind) → l.kind ≡ k → sized l (length f) (length w) ≡ true
              → (get_place l q f).at + size l.kind (word_of l (get_place l q f)) f ≤ area l → size l.kind (word_of l (get_place l q f)) f ≤ length w
          go (Fixed n) ek sz rm =
              let x : length w ≡ n = sized-work l (length f) (length w) sz ∙ ap (λ (k : Kind). work_of k (area l)) ek in
              rw ek (omega arith)
          go Variable ek sz rm =
              let x : length w ≡ area l = sized-work l (length f) (length w) sz ∙ ap (λ (k : Kind). work_of k (area l)) ek in
              omega arith

      pub get-fits : 0 + r.words ≤ length w
      get-fits = let z = fits in omega arith
