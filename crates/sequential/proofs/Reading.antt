-- What PUT writes, GET reads back. A GET looks at words before the place where it ends, a PUT writes at words from its place on; so a GET
-- that follows a PUT's steps finds the record, whatever is put behind it.
use mathlib.Core.Path.{◌≡◌, refl, sym, ap, ◌∙◌, subst}
use mathlib.Core.Bool.{Bool, true, false, cond, not, ◌&&◌, ◌||◌, or-true}
use mathlib.Core.List.{List, [], ◌∷◌}
use Prim.Native.Nat.{ℕ, ◌+◌, ◌-◌, ◌≤◌, ◌<◌}
use native.Mathlib.Omega.{arith}
use native.Mathlib.Nat.{add-zero, zero-add}
use lib.Dec.{leb, ltb, eqb}
use lib.ListN.{length, get_or}
use borrow.Author.Tests.{leb-true, le-leb, leb-false, lt-ltb, le-ltb, ne_eqb, eqb-true}
use Rattle.numbers.specs.Checked.{passed}
use Rattle.numbers.proofs.Passed.{bind-passed}
use Rattle.words.proofs.All.{both-and}
use Rattle.words.specs.Words.{part, put}
use Rattle.words.proofs.Parts.{get_d_part}
use Rattle.sequential.specs.declared.Kind.{Kind}
use Rattle.sequential.specs.declared.Kind.TheVariants.{Fixed, Variable}
use Rattle.sequential.specs.declared.Layout.{Layout}
use Rattle.sequential.specs.declared.Place.{Place}
use Rattle.sequential.specs.declared.Row.{Row}
use Rattle.sequential.specs.Rows.{area, work_of, sized, blocks, size, right, room, word_of, next, behind, put_place, laid, stays_of, stays_at, get_place}
use Rattle.sequential.specs.Calls.{put_spot, row_from, right_of, fixed_right, get_spot, get_row}
use Rattle.sequential.specs.Laws.{first, File, puts, put_all, Reads, get_all, over, over_all, Workspaces, ReadBack, EndOfData}
use Rattle.sequential.proofs.Good.{good-facts, whole-good}
use Rattle.sequential.proofs.Spots.{sized-work}
use Rattle.sequential.proofs.Laid.{right-most, room_fits}
use Rattle.sequential.proofs.Putting.{Agree, agree-part, agree-word, agree_less, Put, put-facts, behind-word, next-beyond}
use Rattle.sequential.proofs.Putting.{laid-length, laid-row, laid-before, fits-room, zero_of, Ready, ready-first, ready-behind, place-later}

module _ (l : Layout) where
  module _ (q : Place) (f w : List ℕ) (r : Row) (p : Put l q f w r) where
    -- GET of a file with the same words before the place behind the record
    module _ (g : List ℕ) (same : Agree (word_of l (behind r)) g (laid l r w f)) (long : length g ≡ length f) (h : Ready l q f) where
      row-there : part (word_of l r.place) r.words g ≡ part 0 r.words w
      row-there =
          agree-part (word_of l (behind r)) (word_of l r.place) r.words g (laid l r w f) same (let z = behind-word l r in omega arith)
          ∙ laid-row l q f w r p

      size-there : size l.kind (word_of l r.place) g ≡ r.words
      size-there = go l.kind refl
        where
          at-start : {k : Kind} → l.kind ≡ k → size l.kind (word_of l r.place) g ≡ size k (word_of l r.place) g
          at-start ek = ap (λ (k : Kind). size k (word_of l r.place) g) ek

          go : (k : Kind) → l.kind ≡ k → size l.kind (word_of l r.place) g ≡ r.words
          go (Fixed n) ek = at-start ek ∙ ap (λ (k : Kind). size k 0 w) (sym ek) ∙ sym p.words-is
          go Variable ek =
              let a : get_or (part (word_of l r.place) r.words g) 0 0 ≡ get_or g (word_of l r.place + 0) 0 =
              get_d_part (word_of l r.place) r.words 0 g p.lies.least in
              let b : get_or (part 0 r.words w) 0 0 ≡ get_or w (0 + 0) 0 = get_d_part 0 r.words 0 w p.lies.least in
              let c : get_or g (word_of l r.place) 0 ≡ get_or w 0 0 =
              ap (λ (i : ℕ). get_or g i 0) (sym (add-zero (word_of l r.place))) ∙ sym a ∙ ap (λ (t : List ℕ). get_or t 0 0) row-there ∙ b in
              at-start ek ∙ c ∙ ap (λ (k : Kind). size k 0 w) (sym ek) ∙ sym p.words-is

      -- with room there, the record's first word stands there, and is not 0
      variable-here : l.kind ≡ Variable → room l q.at r.words ≡ true
          → (eqb q.at 0 || (ltb q.at (area l) && not (eqb (get_or g (word_of l q) 0) 0))) ≡ true
      unfolding put_place
      variable-here ek e =
          let m = room_fits l q.at r.words e in
          let low = p.lies.least in
          let here : r.place ≡ q = p.place_is ∙ ap (λ (b : Bool). cond b q (next q)) e in
          let s : get_or g (word_of l q) 0 ≡ r.words =
          ap (λ (z : Place). get_or g (word_of l z) 0) (sym here) ∙ ap (λ (k : Kind). size k (word_of l r.place) g) (sym ek) ∙ size-there in
          simp (lt-ltb q.at (area l) (omega arith), ne_eqb (get_or g (word_of l q) 0) 0 (λ z. absurd (omega arith)), or-true)

      -- with none, a zero word or the end of the data area stands there
      variable-next : l.kind ≡ Variable → room l q.at r.words ≡ false
          → (eqb q.at 0 || (ltb q.at (area l) && not (eqb (get_or g (word_of l q) 0) 0))) ≡ false
      unfolding put_place room
      variable-next ek e =
          let past : area l < q.at + r.words = leb-false (q.at + r.words) (area l) e in
          let most = right-most l r.words p.right_is in
          let away : r.place ≡ next q = p.place_is ∙ ap (λ (b : Bool). cond b q (next q)) e in
          let z = subst (λ (k : Kind). zero_of l k q.at (get_or f (word_of l q) 0) ≡ true) ek h.zero in
          go (leb (area l) q.at) refl past most away z
        where
          go : (b : Bool) → leb (area l) q.at ≡ b → area l < q.at + r.words → r.words ≤ area l → r.place ≡ next q
              → (eqb q.at 0 || (leb (area l) q.at || eqb (get_or f (word_of l q) 0) 0)) ≡ true
              → (eqb q.at 0 || (ltb q.at (area l) && not (eqb (get_or g (word_of l q) 0) 0))) ≡ false
          go true b past most away z = simp (ne_eqb q.at 0 (λ x. absurd (omega arith)), le-ltb q.at (area l) (leb-true _ _ b))
          go false b past most away z =
              let at : q.at < area l = leb-false (area l) q.at b in
              let beyond = next-beyond l q (good-facts l (whole-good l (length f) p.lies.sized)) at in
              let before : word_of l q < word_of l r.place = subst (λ (x : Place). word_of l q < word_of l x) (sym away) beyond in
              let nz : eqb q.at 0 ≡ false = ne_eqb q.at 0 (λ x. absurd (omega arith)) in
              let zero : get_or f (word_of l q) 0 ≡ 0 =
              eqb-true (get_or f (word_of l q) 0) 0 (subst (λ (t : Bool). (t || eqb (get_or f (word_of l q) 0) 0) ≡ true) b
              (subst (λ (t : Bool). (t || (leb (area l) q.at || eqb (get_or f (word_of l q) 0) 0)) ≡ true) nz z)) in
              let bw = behind-word l r in
              let same_word : get_or g (word_of l q) 0 ≡ 0 =
              agree-word (word_of l (behind r)) (word_of l q) g (laid l r w f) same (omega arith)
              ∙ agree-word (word_of l r.place) (word_of l q) (laid l r w f) f (laid-before l q f w r p (word_of l r.place) (omega arith)) before ∙ zero in
              simp (nz, same_word, lt-ltb q.at (area l) at)

      -- GET's test at the place agrees with PUT's
      stays-there : stays_at l q g ≡ room l q.at r.words
      unfolding stays_at
      stays-there = go l.kind refl
        where
          to-kind : {k : Kind} → l.kind ≡ k → stays_of l.kind l q.at (get_or g (word_of l q) 0) ≡ stays_of k l q.at (get_or g (word_of l q) 0)
          to-kind ek = ap (λ (k : Kind). stays_of k l q.at (get_or g (word_of l q) 0)) ek

          go : (k : Kind) → l.kind ≡ k → stays_of l.kind l q.at (get_or g (word_of l q) 0) ≡ room l q.at r.words
          go (Fixed m) ek = to-kind ek ∙ ap (room l q.at) (ap (λ (k : Kind). size k 0 w) (sym ek) ∙ sym p.words-is)
          go Variable ek = to-kind ek ∙ test (room l q.at r.words) refl
            where
              test : (b : Bool) → room l q.at r.words ≡ b
                  → (eqb q.at 0 || (ltb q.at (area l) && not (eqb (get_or g (word_of l q) 0) 0))) ≡ room l q.at r.words
              test true e = variable-here ek e ∙ sym e
              test false e = variable-next ek e ∙ sym e

      place-there : get_place l q g ≡ r.place
      unfolding get_place put_place
      place-there = ap (λ (b : Bool). cond b q (next q)) stays-there ∙ sym p.place_is

      right_there : fixed_right l ≡ true
      right_there = go l.kind refl
        where
          go : (k : Kind) → l.kind ≡ k → right_of l.kind l ≡ true
          go (Fixed m) ek =
              ap (λ (k : Kind). right_of k l) ek ∙ ap (right l) (ap (λ (k : Kind). size k 0 w) (sym ek) ∙ sym p.words-is) ∙ p.right_is
          go Variable ek = ap (λ (k : Kind). right_of k l) ek

      row-from-there : row_from l r.place g ≡ passed r
      unfolding row_from
      row-from-there =
          let b : ltb r.place.block (blocks l (length g)) ≡ true = ap (λ (n : ℕ). ltb r.place.block (blocks l n)) long ∙ lt-ltb _ _ p.lies.block in
          let s : (leb 1 (size l.kind (word_of l r.place) g) && room l r.place.at (size l.kind (word_of l r.place) g)) ≡ true =
          ap (λ (n : ℕ). leb 1 n && room l r.place.at n) size-there ∙ both-and _ _ (le-leb 1 r.words p.lies.least) (room-there p.lies.most) in
          simp (b, s) (ap (λ (n : ℕ). passed (record { place = r.place; words = n })) size-there)
        where
          room-there : r.place.at + r.words ≤ area l → room l r.place.at r.words ≡ true
          room-there m = fits-room l r.place.at r.words m

      -- so GET finds the record
      pub get-there : (left work : ℕ) → work ≡ work_of l.kind (area l) → get_spot l q (left + 1) g work ≡ passed r
      unfolding get_spot
      get-there left work ew =
          let s : sized l (length g) work ≡ true =
          ap (λ (n : ℕ). sized l n work) long ∙ ap (sized l (length f)) (ew ∙ sym (sized-work l (length f) (length w) p.sized-is)) ∙ p.sized-is in
          let b : ltb q.block (blocks l (length g)) ≡ true = ap (λ (n : ℕ). ltb q.block (blocks l n)) long ∙ p.block-is in
          simp (s, right_there, ne_eqb (left + 1) 0 (λ z. absurd (omega arith)), b) (ap (λ (z : Place). row_from l z g) place-there ∙ row-from-there)

  -- PUTs that all answer 0: the file keeps its length and the words before its place
  pub record Grows (a x : File) : Type 0 where
    pub same : Agree (word_of l a.place) x.words a.words
    pub long : length x.words ≡ length a.words
    pub later : word_of l a.place ≤ word_of l x.place
    pub ready : Ready l x.place x.words

  pub put-grows : (a x : File) (w : List ℕ) → Ready l a.place a.words → puts l a w ≡ passed x
      → (r : Row) × Put l a.place a.words w r × (x ≡ record { words = laid l r w a.words; place = behind r }) × Grows a x
  unfolding puts
  put-grows a x w h e =
      let (r, er, ex) =
      bind-passed (put_spot l a.place (length a.words) w) (λ r. passed (record { words = laid l r w a.words; place = behind r })) x e in
      let p = put-facts l a.place a.words w r er in
      let ey : x ≡ record { words = laid l r w a.words; place = behind r } = cc in
      let lat = place-later l a.place a.words w r p h in
      let bw = behind-word l r in (
        r,
        p,
        ey,
        subst (Grows a) (sym ey) (record {
          same = laid-before l a.place a.words w r p (word_of l a.place) lat;
          long = laid-length l a.place a.words w r p;
          later = omega arith;
          ready = ready-behind l a.place a.words w r p;
        }),
      )

  pub all-grow : (a x : File) (ws : List (List ℕ)) → Ready l a.place a.words → put_all l a ws ≡ passed x → Grows a x
  unfolding put_all
  all-grow a x [] h e = subst (Grows a) (let z : a ≡ x = cc in z) (record { same = refl; long = refl; later = omega arith; ready = h })
  all-grow a x (w ∷ ws) h e =
      let (b, eb, ex) = bind-passed (puts l a w) (λ y. put_all l y ws) x e in
      let (r, p, ey, ga) = put-grows a b w h eb in
      let gb = all-grow b x ws ga.ready ex in
      let m = ga.later in
      let n = gb.later in
      record {
        same = agree_less (word_of l a.place) (word_of l b.place) x.words b.words gb.same m ∙ ga.same;
        long = gb.long ∙ ga.long;
        later = omega arith;
        ready = gb.ready;
      }

  get-step : (q : Place) (left : ℕ) (g v : List ℕ) (vs : List (List ℕ)) (r : Row) (x : Reads) → get_spot l q (left + 1) g (length v) ≡ passed r
      → get_all l (behind r) left g vs ≡ passed x
      → get_all l q (left + 1) g (v ∷ vs)
      ≡ passed (record { rows = put v 0 (part (word_of l r.place) r.words g) ∷ x.rows; place = x.place; left = x.left })
  unfolding get_all
  get-step q left g v vs r x e h =
      let d : left + 1 - 1 ≡ left = omega arith in
      rw e (rw d (rw h refl))

  over-row : (w v g : List ℕ) (r : Row) → r.words ≡ size l.kind 0 w → part (word_of l r.place) r.words g ≡ part 0 r.words w
      → put v 0 (part (word_of l r.place) r.words g) ≡ over l w v
  unfolding over
  over-row w v g r n e = ap (put v 0) e ∙ ap (λ (m : ℕ). put v 0 (part 0 m w)) n

  reads_all : (a x : File) (ws vs : List (List ℕ)) (more : ℕ) (g : List ℕ) → Ready l a.place a.words → put_all l a ws ≡ passed x
      → Agree (word_of l x.place) g x.words → length g ≡ length x.words → Workspaces l vs → length vs ≡ length ws
      → get_all l a.place (length ws + more) g vs ≡ passed (record { rows = over_all l ws vs; place = x.place; left = more })
  unfolding put_all get_all over_all
  reads_all a x [] [] more g h e s n k z =
      let ex : a ≡ x = cc in
      λ j. passed (record { rows = []; place = (ex j).place; left = zero-add more j })
  reads_all a x [] (v ∷ vs) more g h e s n k z = absurd (omega arith)
  reads_all a x (w ∷ ws) [] more g h e s n k z = absurd (omega arith)
  reads_all a x (w ∷ ws) (v ∷ vs) more g h e s n k z =
      let (b, eb, ex) = bind-passed (puts l a w) (λ y. put_all l y ws) x e in
      let (r, p, ey, ga) = put-grows a b w h eb in
      let gb = all-grow b x ws ga.ready ex in
      let same : Agree (word_of l b.place) g b.words = agree_less (word_of l b.place) (word_of l x.place) g x.words s gb.later ∙ gb.same in
      let there : Agree (word_of l (behind r)) g (laid l r w a.words) = subst (λ (y : File). Agree (word_of l y.place) g y.words) ey same in
      let long : length g ≡ length a.words = n ∙ gb.long ∙ ga.long in
      let got = get-there a.place a.words w r p g there long h (length ws + more) (length v) k.0 in
      let rest = reads_all b x ws vs more g ga.ready ex s n k.1 (omega arith) in
      let rest_at =
      subst (λ (y : File). get_all l y.place (length ws + more) g vs ≡ passed (record { rows = over_all l ws vs; place = x.place; left = more })) ey rest in
      let row = over-row w v g r p.words-is (row-there a.place a.words w r p g there long h) in
      let count : length ws + more + 1 ≡ length (w ∷ ws) + more = omega arith in
      subst (λ (m : ℕ). get_all l a.place m g (v ∷ vs) ≡ passed (record { rows = over_all l (w ∷ ws) (v ∷ vs); place = x.place; left = more })) count
      (get-step a.place (length ws + more) g v vs r (record { rows = over_all l ws vs; place = x.place; left = more }) got rest_at
      ∙ (λ j. passed (record { rows = row j ∷ over_all l ws vs; place = x.place; left = more })))

pub read_back : ReadBack
read_back l f ws later x y vs more e₁ e₂ k z =
    let a = all-grow l (record { words = f; place = first }) x ws (ready-first l f) e₁ in
    let b = all-grow l x y later a.ready e₂ in
    reads_all l (record { words = f; place = first }) x ws vs more y.words (ready-first l f) e₁ b.same b.long k z

pub end-of-data : EndOfData
unfolding get_row get_spot
end-of-data l q f v s r = simp (s, r)
