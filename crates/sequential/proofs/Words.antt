-- Which words a PUT changes, what stands behind a variable record, and that a refusal changes nothing.
use mathlib.Core.Path.{◌≡◌, refl, sym, ap, ◌∙◌, subst}
use mathlib.Core.Bool.{Bool, true, false, cond}
use mathlib.Core.List.{List}
use mathlib.Core.Logic.{inl, inr}
use Prim.Native.Nat.{ℕ, ◌+◌, ◌*◌, ◌≤◌, ◌<◌}
use native.Mathlib.Nat.{mul-le-mul_right}
use native.Mathlib.Omega.{arith}
use lib.Dec.{ltb}
use lib.ListN.{length, get_or}
use borrow.Author.Tests.{ltb-true, ltb-false}
use Rattle.numbers.specs.Numbers.{done}
use Rattle.numbers.specs.Checked.{Checked, passed, refused}
use Rattle.numbers.proofs.Passed.{bind-passed}
use Rattle.words.proofs.Parts.{get_or-put-before, get_or-put-after}
use Rattle.sequential.specs.declared.Layout.{Layout}
use Rattle.sequential.specs.declared.Place.{Place}
use Rattle.sequential.specs.declared.Row.{Row}
use Rattle.sequential.specs.Rows.{area, size, word_of, behind, closed, row_words, laid}
use Rattle.sequential.specs.Calls.{put_spot, get_spot, put_row, put_told, get_row, get_told}
use Rattle.sequential.specs.Laws.{File, puts, zeros_at, OnlyItsWords, LeadersKept, ZeroBehind, Unchanged}
use Rattle.sequential.proofs.Good.{Good, good-facts, whole-good}
use Rattle.sequential.proofs.Laid.{closed-room}
use Rattle.sequential.proofs.Putting.{Put, put-facts, behind-word, row-length, row-end, laid-zero}

-- a PUT that answers 0 has laid its row
put-laid : (l : Layout) (x y : File) (w : List ℕ) → puts l x w ≡ passed y
    → (r : Row) × Put l x.place x.words w r × (record { words = laid l r w x.words; place = behind r } ≡ y)
unfolding puts
put-laid l x y w e =
    let (r, er, ex) = bind-passed (put_spot l x.place (length x.words) w) (λ r. passed (record { words = laid l r w x.words; place = behind r })) y e in
    (r, put-facts l x.place x.words w r er, let z : record { words = laid l r w x.words; place = behind r } ≡ y = cc in z)

module _ (l : Layout) (q : Place) (f w : List ℕ) (r : Row) (p : Put l q f w r) where
  -- words before the row, and words behind it and its zero word
  before-row : (i : ℕ) → i < word_of l r.place → get_or (laid l r w f) i 0 ≡ get_or f i 0
  unfolding laid
  before-row i h = let e = row-end l q f w r p in get_or-put-before f (word_of l r.place) (row_words l r w) i h (omega arith)

  behind-row : (i : ℕ) → word_of l (behind r) + zeros_at l (behind r) ≤ i → get_or (laid l r w f) i 0 ≡ get_or f i 0
  unfolding laid zeros_at behind closed
  behind-row i h =
      let e = row-end l q f w r p in
      let n = row-length l q f w r p in
      let b = behind-word l r in
      get_or-put-after f (word_of l r.place) (row_words l r w) i (omega arith) (omega arith)

pub only-its-words : OnlyItsWords
only-its-words l x y w e i (inl h) =
    let (r, p, ey) = put-laid l x y w e in
    let b = behind-word l r in
    let n = p.words-is in
    let z : i + size l.kind 0 w < word_of l (behind r) = subst (λ (v : File). i + size l.kind 0 w < word_of l v.place) (sym ey) h in
    ap (λ (v : File). get_or v.words i 0) (sym ey) ∙ before-row l x.place x.words w r p i (omega arith)
only-its-words l x y w e i (inr h) =
    let (r, p, ey) = put-laid l x y w e in
    ap (λ (v : File). get_or v.words i 0) (sym ey)
    ∙ behind-row l x.place x.words w r p i (subst (λ (v : File). word_of l v.place + zeros_at l v.place ≤ i) (sym ey) h)

pub zero-behind : ZeroBehind
unfolding behind
zero-behind l x y w k e h =
    let (r, p, ey) = put-laid l x y w e in
    subst (λ (v : File). get_or v.words (word_of l v.place) 0 ≡ 0) ey
    (laid-zero l x.place x.words w r p k (subst (λ (v : File). v.place.at < area l) (sym ey) h))

-- the row and its zero word lie in the data area of their block
row_inside : (l : Layout) (q : Place) (f w : List ℕ) (r : Row) (p : Put l q f w r)
    → word_of l r.place + length (row_words l r w) ≤ r.place.block * l.wpb + l.wpb
unfolding word_of
row_inside l q f w r p = go (closed l r) refl
  where
    g : Good l
    g = good-facts l (whole-good l (length f) p.lies.sized)

    go : (t : Bool) → closed l r ≡ t → word_of l r.place + length (row_words l r w) ≤ r.place.block * l.wpb + l.wpb
    go true e =
        let n = row-length l q f w r p ∙ ap (λ (t : Bool). r.words + cond t 1 0) e in
        let m = closed-room l r e in
        let a = g.area-is in
        let b = g.leaders-lt in
        omega arith
    go false e =
        let n = row-length l q f w r p ∙ ap (λ (t : Bool). r.words + cond t 1 0) e in
        let m = p.lies.most in
        let a = g.area-is in
        let b = g.leaders-lt in
        omega arith

-- so a leader word stands before the data of its block, and behind those of the blocks before it
leader-apart : (l : Layout) (q : Place) (f w : List ℕ) (r : Row) (p : Put l q f w r) (b i : ℕ) → i < l.leaders
    → get_or (laid l r w f) (b * l.wpb + i) 0 ≡ get_or f (b * l.wpb + i) 0
unfolding laid word_of
leader-apart l q f w r p b i h = go (ltb r.place.block b) refl
  where
    go : (t : Bool) → ltb r.place.block b ≡ t → get_or (laid l r w f) (b * l.wpb + i) 0 ≡ get_or f (b * l.wpb + i) 0
    go true e =
        let z = row_inside l q f w r p in
        let x = row-end l q f w r p in
        let m : (r.place.block + 1) * l.wpb ≤ b * l.wpb =
        mul-le-mul_right l.wpb (let y : r.place.block < b = ltb-true r.place.block b e in omega arith) in
        get_or-put-after f (word_of l r.place) (row_words l r w) (b * l.wpb + i) (omega arith) (omega arith)
    go false e =
        let m : b * l.wpb ≤ r.place.block * l.wpb = mul-le-mul_right l.wpb (ltb-false _ _ e) in
        before-row l q f w r p (b * l.wpb + i) (omega arith)

pub leaders-kept : LeadersKept
leaders-kept l x y w e b i h =
    let (r, p, ey) = put-laid l x y w e in
    ap (λ (v : File). get_or v.words (b * l.wpb + i) 0) (sym ey) ∙ leader-apart l x.place x.words w r p b i h

pub unchanged : Unchanged
unfolding put_row get_row
unchanged l q left f w = (put_same (put_spot l q (length f) w), get-same (get_spot l q left f (length w)))
  where
    put_same : (c : Checked Row) → ((put_told l q f w c).number ≡ done → ⊥) → ((put_told l q f w c).place ≡ q) × ((put_told l q f w c).file ≡ f)
    put_same (refused n) h = (refl, refl)
    put_same (passed r) h = absurd (h refl)

    get-same : (c : Checked Row) → ((get_told l q left f w c).number ≡ done → ⊥)
        → ((get_told l q left f w c).place ≡ q) × ((get_told l q left f w c).left ≡ left) × ((get_told l q left f w c).work ≡ w)
    get-same (refused n) h = (refl, refl, refl)
    get-same (passed r) h = absurd (h refl)
