-- Marking a list of blocks one by one: it passes exactly where all are blocks of the file, none comes twice and none was marked before.
-- One count says it: what is marked after is what was marked before and how often a block stands in the list.
use Prim.Native.Nat.{ℕ, ◌+◌, ◌-◌, ◌≤◌, ◌<◌}
use mathlib.Core.Path.{◌≡◌, refl, sym, ap, ◌∙◌}
use mathlib.Core.List.{List, [], ◌∷◌, ◌++◌}
use mathlib.Core.Bool.{Bool, true, false, cond}
use native.Mathlib.Omega.{arith}
use native.Mathlib.Nat.{zero-add}
use lib.Dec.{leb, eqb}
use lib.ListN.{length, get_or, set, length-set}
use lib.Seq.{get_or-set_same, get_or-set_other}
use borrow.Author.Tests.{leb-true, le-leb, eqb-true, eqb-false, eq-eqb, ne_eqb}
use Rattle.words.specs.Words.{zeros}
use Rattle.numbers.specs.Checked.{Checked, passed, refused, ◌>>=◌}
use Rattle.layout.specs.Inspect.{marked}
use Rattle.layout.specs.Tree.{times}
use Rattle.layout.specs.Holds.{All, OneTo}
use Rattle.numbers.proofs.Passed.{clash, bind-passed}
use Rattle.layout.proofs.Lists.{get_or-zeros}

unfoldable pub mark_all : ℕ → List ℕ → List ℕ → Checked (List ℕ)
mark_all m [] ms = passed ms
mark_all m (b ∷ bs) ms = marked m b ms >>= mark_all m bs

pub mark-append : (m : ℕ) (xs ys ms : List ℕ) → mark_all m (xs ++ ys) ms ≡ (mark_all m xs ms >>= mark_all m ys)
unfolding mark_all
mark-append m [] ys ms = refl
mark-append m (x ∷ xs) ys ms = go (marked m x ms) (λ s. mark-append m xs ys s)
  where
    go : (c : Checked (List ℕ)) → ((s : List ℕ) → mark_all m (xs ++ ys) s ≡ (mark_all m xs s >>= mark_all m ys))
        → (c >>= mark_all m (xs ++ ys)) ≡ ((c >>= mark_all m xs) >>= mark_all m ys)
    go (refused n) h = refl
    go (passed s) h = h s

-- 1 where block b has a mark, else 0
unfoldable pub used : List ℕ → ℕ → ℕ
used ms b = cond (eqb (get_or ms (b - 1) 0) 0) 0 1

used-same : (xs ys : List ℕ) (c : ℕ) → get_or xs (c - 1) 0 ≡ get_or ys (c - 1) 0 → used xs c ≡ used ys c
unfolding used
used-same xs ys c g = rw g

pub used-no : (ms : List ℕ) (b : ℕ) → get_or ms (b - 1) 0 ≡ 0 → used ms b ≡ 0
unfolding used
used-no ms b e = simp (eq-eqb _ _ e)

pub used-yes : (ms : List ℕ) (b : ℕ) → (get_or ms (b - 1) 0 ≡ 0 → ⊥) → used ms b ≡ 1
unfolding used
used-yes ms b e = simp (ne_eqb _ _ e)

pub unused : (ms : List ℕ) (b : ℕ) → used ms b ≡ 0 → get_or ms (b - 1) 0 ≡ 0
unfolding used
unused ms b e = go (eqb (get_or ms (b - 1) 0) 0) refl
  where
    go : (t : Bool) → eqb (get_or ms (b - 1) 0) 0 ≡ t → get_or ms (b - 1) 0 ≡ 0
    go true q = eqb-true _ _ q
    go false q = absurd (let z : ◌≡◌ {A = ℕ} 0 1 = sym e ∙ simp q in omega arith)

pub used-zeros : (n b : ℕ) → used (zeros n) b ≡ 0
used-zeros n b = used-no (zeros n) b (get_or-zeros n (b - 1))

-- one mark
pub record Mark (m b : ℕ) (ms ms' : List ℕ) : Type 0 where
  pub inside : OneTo (length ms) b
  pub free : get_or ms (b - 1) 0 ≡ 0
  pub now : ms' ≡ set ms (b - 1) m

pub mark-facts : (m b : ℕ) (ms ms' : List ℕ) → marked m b ms ≡ passed ms' → Mark m b ms ms'
unfolding marked
mark-facts m b ms ms' e = go (leb 1 b) (leb b (length ms)) (eqb (get_or ms (b - 1) 0) 0) refl refl refl
  where
    go : (x y z : Bool) → leb 1 b ≡ x → leb b (length ms) ≡ y → eqb (get_or ms (b - 1) 0) 0 ≡ z → Mark m b ms ms'
    go true true true h k l =
        let q : passed (set ms (b - 1) m) ≡ passed ms' = simp (h, k, l) at e in
        record { inside = (leb-true _ _ h, leb-true _ _ k); free = eqb-true _ _ l; now = cc }
    go true true false h k l = clash _ _ (simp (h, k, l) at e)
    go true false z h k l = clash _ _ (simp (h, k) at e)
    go false y z h k l = clash _ _ (simp h at e)

mark-pass : (m b : ℕ) (ms : List ℕ) → OneTo (length ms) b → get_or ms (b - 1) 0 ≡ 0 → marked m b ms ≡ passed (set ms (b - 1) m)
unfolding marked
mark-pass m b ms (h, k) e = simp (le-leb _ _ h, le-leb _ _ k, eq-eqb _ _ e)

pub mark-length : (m b : ℕ) (ms ms' : List ℕ) → Mark m b ms ms' → length ms' ≡ length ms
mark-length m b ms ms' w = rw w.now (length-set ms (b - 1) m)

module _ (m : ℕ) (some : m ≡ 0 → ⊥) where
  -- the mark itself
  step-mark : (b c : ℕ) (ms ms' : List ℕ) → Mark m b ms ms' → 1 ≤ c → get_or ms' (c - 1) 0 ≡ cond (eqb c b) m (get_or ms (c - 1) 0)
  step-mark b c ms ms' w h = go (eqb c b) refl
    where
      go : (t : Bool) → eqb c b ≡ t → get_or ms' (c - 1) 0 ≡ cond t m (get_or ms (c - 1) 0)
      go true q =
          let e : c ≡ b = eqb-true _ _ q in
          let l : b - 1 < length ms = omega (arith, w.inside) in
          rw (w.now, e) (get_or-set_same ms (b - 1) m 0 l)
      go false q =
          let d : c ≡ b → ⊥ = eqb-false _ _ q in
          let d' : c - 1 ≡ b - 1 → ⊥ = λ z. d (omega (arith, w.inside)) in
          rw w.now (get_or-set_other ms (b - 1) (c - 1) m 0 d')

  step-used : (b c : ℕ) (ms ms' : List ℕ) → Mark m b ms ms' → 1 ≤ c → used ms' c ≡ cond (eqb c b) 1 0 + used ms c
  step-used b c ms ms' w h = go (eqb c b) refl (step-mark b c ms ms' w h)
    where
      go : (t : Bool) → eqb c b ≡ t → get_or ms' (c - 1) 0 ≡ cond t m (get_or ms (c - 1) 0) → used ms' c ≡ cond t 1 0 + used ms c
      go true q g =
          let n : get_or ms' (c - 1) 0 ≡ 0 → ⊥ = λ z. some (sym g ∙ z) in
          omega (arith, used-yes ms' c n, used-no ms c (rw (eqb-true c b q) w.free))
      go false q g = rw zero-add (used-same ms' ms c g)

  -- what is marked after
  pub all-length : (bs ms ms' : List ℕ) → mark_all m bs ms ≡ passed ms' → length ms' ≡ length ms
  unfolding mark_all
  all-length [] ms ms' e = let q : ms ≡ ms' = cc in ap length (sym q)
  all-length (b ∷ bs) ms ms' e =
      let (s, e₁, e₂) = bind-passed (marked m b ms) (mark_all m bs) ms' e in
      all-length bs s ms' e₂ ∙ mark-length m b ms s (mark-facts m b ms s e₁)

  pub all-used : (bs ms ms' : List ℕ) → mark_all m bs ms ≡ passed ms' → (c : ℕ) → 1 ≤ c → used ms' c ≡ times c bs + used ms c
  unfolding mark_all times
  all-used [] ms ms' e c h = let q : ms ≡ ms' = cc in rw (zero-add, q)
  all-used (b ∷ bs) ms ms' e c h =
      let (s, e₁, e₂) = bind-passed (marked m b ms) (mark_all m bs) ms' e in
      omega (arith, all-used bs s ms' e₂ c h, step-used b c ms s (mark-facts m b ms s e₁) h)

  pub all-inside : (bs ms ms' : List ℕ) → mark_all m bs ms ≡ passed ms' → All (OneTo (length ms)) bs
  unfolding mark_all All
  all-inside [] ms ms' e = tt
  all-inside (b ∷ bs) ms ms' e =
      let (s, e₁, e₂) = bind-passed (marked m b ms) (mark_all m bs) ms' e in
      let w = mark-facts m b ms s e₁ in
      (w.inside, rw (mark-length m b ms s w) at (all-inside bs s ms' e₂))

  -- and it passes where that can be
  pub all_pass : (bs ms : List ℕ) → All (OneTo (length ms)) bs → ((c : ℕ) → OneTo (length ms) c → times c bs + used ms c ≤ 1)
      → (ms' : List ℕ) × (mark_all m bs ms ≡ passed ms')
  unfolding mark_all times All
  all_pass [] ms i h = (ms, refl)
  all_pass (b ∷ bs) ms (i, is) h =
      let f : get_or ms (b - 1) 0 ≡ 0 = unused ms b (here (eqb b b) (eq-eqb b b refl) (h b i)) in
      let s = set ms (b - 1) m in
      let w : Mark m b ms s = record { inside = i; free = f; now = refl } in
      let l = mark-length m b ms s w in
      let r = all_pass bs s (rw l is) (λ c k. omega (arith, h c (rw l at k), step-used b c ms s w k.0)) in
      (r.0, rw (mark-pass m b ms i f) r.1)
    where
      here : (t : Bool) → t ≡ true → cond t 1 0 + times b bs + used ms b ≤ 1 → used ms b ≡ 0
      here true q l = omega arith
      here false q l = absurd (let z : ◌≡◌ {A = ℕ} 0 1 = cc in omega arith)

  -- the marks themselves
  pub all-mark : (bs ms ms' : List ℕ) → mark_all m bs ms ≡ passed ms' → (c : ℕ) → 1 ≤ c
      → get_or ms' (c - 1) 0 ≡ cond (leb 1 (times c bs)) m (get_or ms (c - 1) 0)
  unfolding mark_all times
  all-mark [] ms ms' e c h = let q : ms ≡ ms' = cc in rw q
  all-mark (b ∷ bs) ms ms' e c h =
      let (s, e₁, e₂) = bind-passed (marked m b ms) (mark_all m bs) ms' e in
      go (eqb c b) (all-mark bs s ms' e₂ c h) (step-mark b c ms s (mark-facts m b ms s e₁) h)
    where
      both-same : (t : Bool) → cond t m m ≡ m
      both-same true = refl
      both-same false = refl

      go : (t : Bool) {x : ℕ} → get_or ms' (c - 1) 0 ≡ cond (leb 1 (times c bs)) m x → x ≡ cond t m (get_or ms (c - 1) 0)
          → get_or ms' (c - 1) 0 ≡ cond (leb 1 (cond t 1 0 + times c bs)) m (get_or ms (c - 1) 0)
      go true i j = i ∙ rw (j, le-leb 1 (1 + times c bs) (omega arith)) (both-same (leb 1 (times c bs)))
      go false i j = i ∙ rw (j, zero-add)

pub one : ◌≡◌ {A = ℕ} 1 0 → ⊥
one e = omega arith

pub two : ◌≡◌ {A = ℕ} 2 0 → ⊥
two e = omega arith
