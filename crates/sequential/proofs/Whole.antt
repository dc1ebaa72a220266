-- Fixed records: so many whole ones to a block, one behind the other, until no block is left.
use mathlib.Core.Path.{◌≡◌, refl, sym, ap, ◌∙◌, subst}
use mathlib.Core.Bool.{Bool, true, false, cond}
use mathlib.Core.List.{List, [], ◌∷◌}
use Prim.Native.Nat.{ℕ, ◌+◌, ◌*◌, ◌/◌, ◌%◌, ◌≤◌, ◌<◌}
use native.Mathlib.Nat.{mul-le-mul_right, le-div_iff_mul-le, div-lt_iff_lt-mul, div-eq_of_lt-le, lt-div-mul-add, div-add-mod', mod-lt, zero-add, zero-mul}
use native.Mathlib.Omega.{arith}
use lib.Dec.{ltb, leb}
use lib.ListN.{length}
use borrow.Author.Tests.{ltb-true, ltb-false, lt-ltb, le-ltb, le-leb, lt-leb}
use Rattle.numbers.specs.Numbers.{no_room}
use Rattle.numbers.specs.Checked.{Checked, passed, refused}
use Rattle.numbers.proofs.Passed.{bind-passed}
use Rattle.sequential.specs.declared.Kind.{Kind}
use Rattle.sequential.specs.declared.Kind.TheVariants.{Fixed}
use Rattle.sequential.specs.declared.Layout.{Layout}
use Rattle.sequential.specs.declared.Place.{Place}
use Rattle.sequential.specs.declared.Row.{Row}
use Rattle.sequential.specs.Rows.{area, size, right, room, sized, next, behind, blocks, put_place, laid}
use Rattle.sequential.specs.Calls.{put_spot}
use Rattle.sequential.specs.Laws.{first, File, puts, put_all, WholeOnes}
use Rattle.sequential.proofs.Laid.{right-least, right-most}
use Rattle.sequential.proofs.Putting.{Put, put-facts, laid-length}

-- a record goes to its block or to the next
put-later : (l : Layout) (q : Place) (n : ℕ) → q.block ≤ (put_place l q n).block
unfolding put_place next
put-later l q n = go (room l q.at n)
  where
    go : (b : Bool) → q.block ≤ (cond b q (record { block = q.block + 1; at = 0 })).block
    go true = omega arith
    go false = omega arith

module _ (l : Layout) (n : ℕ) (kind : l.kind ≡ Fixed n) (rt : right l n ≡ true) where
  -- after j PUTs the place is behind some whole records of a block, and every block before it holds area / n
  record Stands (q : Place) (j : ℕ) : Type 0 where
    pub rows : ℕ
    pub at-is : q.at ≡ rows * n
    pub most : rows ≤ area l / n
    pub all : q.block * (area l / n) + rows ≡ j

  low : 1 ≤ n
  low = right-least l n rt

  one : 1 ≤ area l / n
  one = (le-div_iff_mul-le low).1 (let z = right-most l n rt in omega arith)

  stands-first : Stands first 0
  stands-first = record { rows = 0; at-is = omega arith; most = omega arith; all = omega arith }

  -- division with its rest, from block and rows
  split-of : (b m j : ℕ) → b * (area l / n) + m ≡ j → m < area l / n → (j / (area l / n) ≡ b) × (j % (area l / n) ≡ m)
  split-of b m j e h =
      let x : b * (area l / n) ≤ j = omega arith in
      let y : j < (b + 1) * (area l / n) = omega arith in
      let d : j / (area l / n) ≡ b = div-eq_of_lt-le (area l / n) x y in
      let z = div-add-mod' j (area l / n) in
      let w : b * (area l / n) + j % (area l / n) ≡ j = ap (λ (k : ℕ). k * (area l / n) + j % (area l / n)) (sym d) ∙ z in
      (d, omega arith)

  -- the next record goes to its place
  put-at : (q : Place) (j : ℕ) → Stands q j → put_place l q n ≡ record { block = j / (area l / n); at = j % (area l / n) * n }
  unfolding put_place room next
  put-at q j s = go (ltb s.rows (area l / n)) refl
    where
      go : (b : Bool) → ltb s.rows (area l / n) ≡ b
          → cond (leb (q.at + n) (area l)) q (record { block = q.block + 1; at = 0 }) ≡ record { block = j / (area l / n); at = j % (area l / n) * n }
      go true e =
          let h : s.rows < area l / n = ltb-true _ _ e in
          let m : (s.rows + 1) * n ≤ area l = (le-div_iff_mul-le low).0 (let z : s.rows + 1 ≤ area l / n = omega arith in z) in
          let a = s.at-is in
          let (d, r) = split-of q.block s.rows j s.all h in
          let here : leb (q.at + n) (area l) ≡ true = le-leb (q.at + n) (area l) (omega arith) in
          ap (λ (t : Bool). cond t q (record { block = q.block + 1; at = 0 })) here
          ∙ (λ i. record { block = sym d i; at = (a ∙ ap (λ (k : ℕ). k * n) (sym r)) i })
      go false e =
          let h : area l / n ≤ s.rows = ltb-false _ _ e in
          let m = s.most in
          let f : area l < area l / n * n + n = lt-div-mul-add low in
          let k : area l / n * n ≤ s.rows * n = mul-le-mul_right n h in
          let a = s.at-is in
          let al = s.all in
          let (d, r) = split-of (q.block + 1) 0 j (omega arith) one in
          let away : leb (q.at + n) (area l) ≡ false = lt-leb (q.at + n) (area l) (omega arith) in
          ap (λ (t : Bool). cond t q (record { block = q.block + 1; at = 0 })) away
          ∙ (λ i. record { block = sym d i; at = (sym (zero-mul n) ∙ ap (λ (k : ℕ). k * n) (sym r)) i })

  -- and stands behind it then
  stands-next : (j : ℕ) → Stands (record { block = j / (area l / n); at = j % (area l / n) * n + n }) (j + 1)
  stands-next j =
      let z = div-add-mod' j (area l / n) in
      let m = mod-lt j one in
      record { rows = j % (area l / n) + 1; at-is = omega arith; most = omega arith; all = omega arith }

  stands-put : (q : Place) (j : ℕ) (f w : List ℕ) (r : Row) → Stands q j → Put l q f w r → Stands (behind r) (j + 1)
  unfolding behind
  stands-put q j f w r s p =
      let n-is : r.words ≡ n = p.words-is ∙ ap (λ (k : Kind). size k 0 w) kind in
      let to : r.place ≡ record { block = j / (area l / n); at = j % (area l / n) * n } = p.place_is ∙ ap (put_place l q) n-is ∙ put-at q j s in
      subst (λ (z : Place). Stands z (j + 1)) (λ i. record { block = (sym to i).block; at = (sym to i).at + sym n-is i }) (stands-next j)

  -- 070002 exactly where no block is left
  spot-at : (q : Place) (j file : ℕ) (w : List ℕ) → Stands q j → sized l file (length w) ≡ true
      → put_spot l q file w
      ≡ cond (ltb j (blocks l file * (area l / n))) (passed (record { place = record { block = j / (area l / n); at = j % (area l / n) * n }; words = n }))
      (refused no_room)
  unfolding put_spot
  spot-at q j file w s sz = go (ltb j (blocks l file * (area l / n))) refl
    where
      is : size l.kind 0 w ≡ n
      is = ap (λ (k : Kind). size k 0 w) kind

      fit : right l (size l.kind 0 w) ≡ true
      fit = ap (right l) is ∙ rt

      to : put_place l q (size l.kind 0 w) ≡ record { block = j / (area l / n); at = j % (area l / n) * n }
      to = ap (put_place l q) is ∙ put-at q j s

      row : ◌≡◌ {A = Checked Row} (passed (record { place = put_place l q (size l.kind 0 w); words = size l.kind 0 w }))
          (passed (record { place = record { block = j / (area l / n); at = j % (area l / n) * n }; words = n }))
      row = λ i. passed (record { place = to i; words = is i })

      go : (b : Bool) → ltb j (blocks l file * (area l / n)) ≡ b
          → put_spot l q file w
          ≡ cond (ltb j (blocks l file * (area l / n))) (passed (record { place = record { block = j / (area l / n); at = j % (area l / n) * n }; words = n }))
          (refused no_room)
      go true e =
          let x : j / (area l / n) < blocks l file = (div-lt_iff_lt-mul one).1 (ltb-true _ _ e) in
          let y : (put_place l q (size l.kind 0 w)).block < blocks l file = subst (λ (z : Place). z.block < blocks l file) (sym to) x in
          let o : q.block ≤ (put_place l q (size l.kind 0 w)).block = put-later l q (size l.kind 0 w) in
          simp (sz, fit, lt-ltb q.block (blocks l file) (omega arith), lt-ltb (put_place l q (size l.kind 0 w)).block (blocks l file) y, e) row
      go false e =
          let x : blocks l file ≤ j / (area l / n) = past (ltb-false _ _ e) in
          let y : blocks l file ≤ (put_place l q (size l.kind 0 w)).block = subst (λ (z : Place). blocks l file ≤ z.block) (sym to) x in
          let z = le-ltb (put_place l q (size l.kind 0 w)).block (blocks l file) y in
          first-test (ltb q.block (blocks l file)) refl e z
        where
          past : blocks l file * (area l / n) ≤ j → blocks l file ≤ j / (area l / n)
          past h = (le-div_iff_mul-le one).1 h

          first-test : (b : Bool) → ltb q.block (blocks l file) ≡ b → ltb j (blocks l file * (area l / n)) ≡ false
              → ltb (put_place l q (size l.kind 0 w)).block (blocks l file) ≡ false
              → put_spot l q file w
              ≡ cond (ltb j (blocks l file * (area l / n)))
              (passed (record { place = record { block = j / (area l / n); at = j % (area l / n) * n }; words = n }))
              (refused no_room)
          first-test true b e z = simp (sz, fit, b, z, e)
          first-test false b e z = simp (sz, fit, b, e)

  -- all PUTs, one after the other
  stands-all : (a x : File) (ws : List (List ℕ)) (j : ℕ) → Stands a.place j → put_all l a ws ≡ passed x
      → Stands x.place (j + length ws) × (length x.words ≡ length a.words)
  unfolding put_all puts
  stands-all a x [] j s e =
      let h : a ≡ x = cc in
      subst (λ (y : File). Stands y.place (j + 0) × (length y.words ≡ length a.words)) h
      (subst (Stands a.place) (let z : j ≡ j + 0 = omega arith in z) s, refl)
  stands-all a x (w ∷ ws) j s e =
      let (b, eb, ex) = bind-passed (puts l a w) (λ y. put_all l y ws) x e in
      let (r, er, ey) =
      bind-passed (put_spot l a.place (length a.words) w) (λ r. passed (record { words = laid l r w a.words; place = behind r })) b eb in
      let p = put-facts l a.place a.words w r er in
      let eb₂ : record { words = laid l r w a.words; place = behind r } ≡ b = cc in
      let next = stands-put a.place j a.words w r s p in
      let (t, len) = stands-all b x ws (j + 1) (subst (λ (y : File). Stands y.place (j + 1)) eb₂ next) ex in (
        subst (Stands x.place) (let z : j + 1 + length ws ≡ j + length (w ∷ ws) = omega arith in z) t,
        len ∙ ap (λ (y : File). length y.words) (sym eb₂) ∙ laid-length l a.place a.words w r p,
      )

pub whole-ones : WholeOnes
whole-ones l f n ws x w k rt e sz =
    let (s, len) = stands-all l n k rt (record { words = f; place = first }) x ws 0 (stands-first l n k rt) e in
    spot-at l n k rt x.place (length ws) (length f) w (subst (Stands l n k rt x.place) (zero-add (length ws)) s) sz
