-- PUT and GET told in words: the place and what is left fit their words, and what is returned is what the calls give. The laws speak as the
-- code does: t is its test of the row, l and q what it reads from it, a the call's answer, us the row written back, r what it returns.
use Prim.Native.Nat.{ℕ, ◌+◌, ◌*◌, ◌≤◌, ◌<◌}
use mathlib.Core.Path.{◌≡◌, refl, sym, ap, ◌∙◌, subst}
use mathlib.Core.Bool.{Bool, true, false, not}
use mathlib.Core.List.{List}
use native.Mathlib.Nat.{mul-le-mul_right}
use native.Mathlib.Omega.{arith}
use borrow.Author.Tests.{leb-true, leb-false, not-true, not-false}
use mir.Syntax.{w32}
use mir.Val.{Fits}
use lib.Dec.{leb}
use lib.ListN.{length, get_or, set}
use Rattle.numbers.specs.Numbers.{wrong_size}
use Rattle.numbers.specs.Checked.{Checked, passed, refused}
use Rattle.sequential.specs.declared.Layout.{Layout}
use Rattle.sequential.specs.declared.Place.{Place}
use Rattle.sequential.specs.declared.Row.{Row}
use Rattle.sequential.specs.declared.PutAnswer.{PutAnswer}
use Rattle.sequential.specs.declared.GetAnswer.{GetAnswer}
use Rattle.sequential.specs.Rows.{behind}
use Rattle.sequential.specs.Calls.{put_spot, get_spot, put_told, get_told, put_row, get_row, put_gave, get_gave}
use Rattle.sequential.specs.Lent.{LiesIn}
use Rattle.sequential.proofs.Good.{good-facts, whole-good, block-end, lies-few}
use Rattle.sequential.proofs.Laid.{put-finds, get-lies}
use Rattle.rowcalls.specs.Words.{is_row, layout_of, place_of, at_place, most_word, Small}
use Rattle.rowcalls.specs.Calls.{returned, told_put, told_get, put_called, get_called}
use Rattle.rowcalls.proofs.Words.{row-facts}

-- the place behind a record of a file with few enough blocks
behind-small : (l : Layout) (r : Row) (file : ℕ) → LiesIn l r file → file ≤ most_word * l.wpb → Small (behind r)
unfolding behind
behind-small l r file h few =
    let g = good-facts l (whole-good l file h.sized) in
    let e = block-end l r.place.block file h.block in
    let a = lies-few l r file h in
    let least = g.least in
    record { block = go (leb r.place.block most_word) refl e least; at = omega arith }
  where
    go : (b : Bool) → leb r.place.block most_word ≡ b → r.place.block * l.wpb + l.wpb ≤ file → 6 ≤ l.wpb
        → r.place.block ≤ most_word
    go true x e least = leb-true _ _ x
    go false x e least =
        let y = leb-false r.place.block most_word x in
        let z : most_word ≤ r.place.block = omega arith in
        let m : most_word * l.wpb ≤ r.place.block * l.wpb = mul-le-mul_right l.wpb z in
        absurd (omega arith)

module _ (l : Layout) (q : Place) (f w : List ℕ) (few : length f ≤ most_word * l.wpb) (s : Small q) where
  put_small : Small (put_row l q f w).place
  unfolding put_row
  put_small = go (put_spot l q (length f) w) refl
    where
      go : (x : Checked Row) → put_spot l q (length f) w ≡ x → Small (put_told l q f w x).place
      go (refused n) e = s
      go (passed r) e = behind-small l r (length f) (put-finds l q (length f) w r e).0 few

  module _ (left : ℕ) where
    get-small : Small (get_row l q left f w).place
    unfolding get_row
    get-small = go (get_spot l q left f (length w)) refl
      where
        go : (x : Checked Row) → get_spot l q left f (length w) ≡ x → Small (get_told l q left f w x).place
        go (refused n) e = s
        go (passed r) e = behind-small l r (length f) (get-lies l q left f (length w) r (sym e)) few

-- GET leaves no more to be read than it was told
get-fewer : (l : Layout) (q : Place) (left : ℕ) (f w : List ℕ) → (get_row l q left f w).left ≤ left
unfolding get_row
get-fewer l q left f w = go (get_spot l q left f (length w))
  where
    go : (x : Checked Row) → (get_told l q left f w x).left ≤ left
    go (refused n) = omega arith
    go (passed r) = omega arith

module _ (ws : List ℕ) (t : Bool) where
  -- what the code's test tells
  asked-yes : (file : ℕ) → t ≡ is_row ws file → not t ≡ false → is_row ws file ≡ true
  asked-yes file e h = sym e ∙ not-false t h

  asked-no : (file : ℕ) → t ≡ is_row ws file → not t ≡ true → is_row ws file ≡ false
  asked-no file e h = sym e ∙ not-true t h

  pub asked-whole : (file : ℕ) → t ≡ is_row ws file → not t ≡ false → length ws ≡ 7
  asked-whole file e h = (row-facts ws file (asked-yes file e h)).whole

  pub asked-six : (file : ℕ) → t ≡ is_row ws file → not t ≡ false → 6 < length ws
  asked-six file e h = let n = asked-whole file e h in omega arith

  -- words that are no row
  pub put-none : (f w : List ℕ) (r : ℕ) → t ≡ is_row ws (length f) → not t ≡ true → r ≡ wrong_size → returned r ws f w ≡ put_called ws f w
  unfolding put_called
  put-none f w r e h p = (λ j. returned (p j) ws f w) ∙ rw (asked-no (length f) e h)

  pub get_none : (f w : List ℕ) (r : ℕ) → t ≡ is_row ws (length f) → not t ≡ true → r ≡ wrong_size → returned r ws f w ≡ get_called ws f w
  unfolding get_called
  get_none f w r e h p = (λ j. returned (p j) ws f w) ∙ rw (asked-no (length f) e h)

  -- the row's place is small, and the file has few enough blocks
  row_small : ((i : ℕ) → Fits w32 (get_or ws i 0)) → Small (place_of ws)
  unfolding place_of
  row_small word = let b = word 4 in let a = word 5 in record { block = omega arith; at = omega arith }

  row-few : (f : List ℕ) → t ≡ is_row ws (length f) → not t ≡ false → length f ≤ most_word * (layout_of ws).wpb
  unfolding layout_of
  row-few f e h = (row-facts ws (length f) (asked-yes (length f) e h)).blocks-most

  module _ (l : Layout) (q : Place) where
    -- PUT's answer can be told
    pub put-tellable : (a : PutAnswer) (f g w : List ℕ) → put_gave a g ≡ put_row l q f w → l ≡ layout_of ws → q ≡ place_of ws
        → t ≡ is_row ws (length f) → not t ≡ false → ((i : ℕ) → Fits w32 (get_or ws i 0)) → Small a.place
    put-tellable a f g w e el eq et h word =
        let p : a.place ≡ (put_row (layout_of ws) (place_of ws) f w).place = (λ j. (e j).place) ∙ (λ j. (put_row (el j) (eq j) f w).place) in
        subst Small (sym p) (put_small (layout_of ws) (place_of ws) f w (row-few f et h) (row_small word))

    -- and is told
    pub put-called : (a : PutAnswer) (f g w us : List ℕ) (r : ℕ) → put_gave a g ≡ put_row l q f w → l ≡ layout_of ws → q ≡ place_of ws
        → us ≡ at_place ws a.place → r ≡ a.number → t ≡ is_row ws (length f) → not t ≡ false → returned r us g w ≡ put_called ws f w
    unfolding put_called
    put-called a f g w us r e el eq eu er et h =
        let c : returned r us g w ≡ told_put ws w (put_gave a g) = λ j. returned (er j) (eu j) g w in
        c ∙ ap (told_put ws w) (e ∙ (λ j. put_row (el j) (eq j) f w)) ∙ rw (asked-yes (length f) et h)

    -- the same of GET
    pub get-tellable : (a : GetAnswer) (left : ℕ) (f w v : List ℕ) → get_gave a v ≡ get_row l q left f w → l ≡ layout_of ws → q ≡ place_of ws
        → t ≡ is_row ws (length f) → not t ≡ false → ((i : ℕ) → Fits w32 (get_or ws i 0)) → Small a.place
    get-tellable a left f w v e el eq et h word =
        let p : a.place ≡ (get_row (layout_of ws) (place_of ws) left f w).place =
        (λ j. (e j).place) ∙ (λ j. (get_row (el j) (eq j) left f w).place) in
        subst Small (sym p) (get-small (layout_of ws) (place_of ws) f w (row-few f et h) (row_small word) left)

    pub get_left : (a : GetAnswer) (left : ℕ) (f w v : List ℕ) → get_gave a v ≡ get_row l q left f w → left ≡ get_or ws 6 0
        → ((i : ℕ) → Fits w32 (get_or ws i 0)) → a.left ≤ most_word
    get_left a left f w v e ef word =
        let p : a.left ≡ (get_row l q left f w).left = λ j. (e j).left in
        let m = get-fewer l q left f w in
        let k = word 6 in
        omega arith

    pub get-called : (a : GetAnswer) (left : ℕ) (f w v us : List ℕ) (r : ℕ) → get_gave a v ≡ get_row l q left f w → l ≡ layout_of ws
        → q ≡ place_of ws → left ≡ get_or ws 6 0 → us ≡ set (at_place ws a.place) 6 a.left → r ≡ a.number
        → t ≡ is_row ws (length f) → not t ≡ false → returned r us f v ≡ get_called ws f w
    unfolding get_called
    get-called a left f w v us r e el eq ef eu er et h =
        let c : returned r us f v ≡ told_get ws f (get_gave a v) = λ j. returned (er j) (eu j) f v in
        c ∙ ap (told_get ws f) (e ∙ (λ j. get_row (el j) (eq j) (ef j) f w)) ∙ rw (asked-yes (length f) et h)
