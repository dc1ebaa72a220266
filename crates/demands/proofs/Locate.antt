-- The search by bounds, two levels, and what it finds in a held tree.
use Prim.Native.Nat.{ℕ, suc, ◌≤◌, ◌<◌}
use mathlib.Core.Bool.{Bool, true}
use mathlib.Core.Path.{◌≡◌, refl, sym, ap, ◌∙◌}
use mathlib.Core.List.{List, [], ◌∷◌, ◌++◌}
use native.Mathlib.Omega.{arith}
use lib.Dec.{leb}
use lib.ListN.{length}
use borrow.Author.Tests.{leb-true, leb-false, lt-leb, le-leb}
use Rattle.words.specs.Keys.{val}
use Rattle.demands.proofs.Lists.{All, all_left, all_right}
use Rattle.demands.proofs.Rows.{first_in, None, Found, nowhere, at, found}
use Rattle.demands.proofs.Order.{Asc, asc-le, ins, del, upd, hit, ins-local, upd-local, del-local, hit-local, from, from-local}
use Rattle.layout.specs.Tree.{Leaf, Section}
use Rattle.demands.proofs.Trees.{leaves_in, leaves_in-append, records_in, records-append, key, bd, reach, Ranged, reach-append, ranged-left, ranged-right}
use Rattle.demands.proofs.Trees.{ranged-asc}
use Rattle.demands.proofs.Holds.{last_bound}
use Rattle.demands.proofs.Steps.{sec}

module _ (k : ℕ) where
  unfoldable pub sec_bd : Section → ℕ
  sec_bd s = val (last_bound [] s.leaves)

  pub reach-last : (lo : ℕ) (d : List ℕ) (ls : List Leaf) → 1 ≤ length ls → reach k lo ls ≡ suc (val (last_bound d ls))
  unfolding bd
  reach-last lo d [] h = absurd (omega arith)
  reach-last lo d (l ∷ []) h = refl
  reach-last lo d (l ∷ (m ∷ ls)) h = reach-last (suc (bd k l)) l.bound (m ∷ ls) (omega arith)

  -- leaves, and sections, whose bounds are all below a key end at or before it
  none-reach : (x lo : ℕ) (ls : List Leaf) → None (λ l. leb x (bd k l)) ls → lo ≤ x → reach k lo ls ≤ x
  none-reach x lo [] n h = h
  none-reach x lo (l ∷ ls) n h = none-reach x (suc (bd k l)) ls n.1 (leb-false x (bd k l) n.0)

  none-sections : (x lo : ℕ) (ss : List Section) → None (λ s. leb x (sec_bd s)) ss → All (λ s. 1 ≤ length s.leaves) ss → lo ≤ x → reach k lo (leaves_in ss) ≤ x
  unfolding sec_bd
  none-sections x lo [] n a h = h
  none-sections x lo (s ∷ ss) n a h =
      rw (reach-append k lo s.leaves (leaves_in ss))
      (none-sections x (reach k lo s.leaves) ss n.1 a.1 (rw (reach-last lo [] s.leaves a.0) (leb-false x (sec_bd s) n.0)))

  -- the section and the leaf that the search by bounds comes to
  pub record Located (ss : List Section) (x : ℕ) : Type 0 where
    pub before : List Section
    pub index : ℕ
    pub low : List Leaf
    pub leaf : Leaf
    pub high : List Leaf
    pub behind : List Section
    pub is : ss ≡ before ++ (sec index (low ++ (leaf ∷ high)) ∷ behind)
    pub above : reach k (reach k 0 (leaves_in before)) low ≤ x
    pub within : x ≤ bd k leaf
    pub section-place : first_in (λ s. leb x (sec_bd s)) ss ≡ length before
    pub leaf-place : first_in (λ l. leb x (bd k l)) (low ++ (leaf ∷ high)) ≡ length low

  pub locate : (ss : List Section) (x : ℕ) → All (λ s. 1 ≤ length s.leaves) ss → x < reach k 0 (leaves_in ss) → Located ss x
  unfolding sec_bd
  locate ss x a h = sections (found (λ s. leb x (sec_bd s)) ss)
    where
      Some : Section → Type 0
      Some s = 1 ≤ length s.leaves

      leafs : (bs : List Section) (s : Section) (cs : List Section) → ss ≡ bs ++ s ∷ cs → first_in (λ s. leb x (sec_bd s)) ss ≡ length bs
          → None (λ s. leb x (sec_bd s)) bs → leb x (sec_bd s) ≡ true
          → All Some (bs ++ s ∷ cs) → Found (λ l. leb x (bd k l)) s.leaves (first_in (λ l. leb x (bd k l)) s.leaves) → Located ss x
      leafs bs s cs e pl n t sa (nowhere q m) =
          absurd (omega (arith, none-reach x 0 s.leaves m (omega arith), reach-last 0 [] s.leaves (all_right Some bs _ sa).0, leb-true x (sec_bd s) t))
      leafs bs s cs e pl n t sa (at xs y ys q r m u) = record {
        before = bs;
        index = s.block;
        low = xs;
        leaf = y;
        high = ys;
        behind = cs;
        is = e ∙ ap (λ (l : List Leaf). bs ++ (sec s.block l ∷ cs)) q;
        above = none-reach x _ xs m (none-sections x 0 bs n (all_left Some bs _ sa) (omega arith));
        within = leb-true x (bd k y) u;
        section-place = pl;
        leaf-place = rw q at r;
      }

      sections : Found (λ s. leb x (sec_bd s)) ss (first_in (λ s. leb x (sec_bd s)) ss) → Located ss x
      sections (nowhere q n) = absurd (omega (arith, none-sections x 0 ss n a (omega arith)))
      sections (at bs s cs e pl n t) = leafs bs s cs e pl n t (rw e at a) (found (λ l. leb x (bd k l)) s.leaves)

  -- ---- any leaf that covers the key is the one that the search comes to

  reach-le : (lo : ℕ) (ls : List Leaf) → Ranged k lo ls → lo ≤ reach k lo ls
  reach-le lo ls h = asc-le (key k) lo (records_in ls) (reach k lo ls) (ranged-asc k lo ls h)

  reach-none : (x lo : ℕ) (ls : List Leaf) → Ranged k lo ls → reach k lo ls ≤ x → None (λ l. leb x (bd k l)) ls
  reach-none x lo [] r h = tt
  reach-none x lo (l ∷ ls) r h = (lt-leb x (bd k l) (omega (arith, reach-le (suc (bd k l)) ls r.1)), reach-none x (suc (bd k l)) ls r.1 h)

  sections-none : (x lo : ℕ) (ss : List Section) → All (λ s. 1 ≤ length s.leaves) ss → Ranged k lo (leaves_in ss) → reach k lo (leaves_in ss) ≤ x
      → None (λ s. leb x (sec_bd s)) ss
  unfolding sec_bd
  sections-none x lo [] a r h = tt
  sections-none x lo (s ∷ ss) a r h =
      let m : ℕ = reach k lo s.leaves in
      let h' : reach k m (leaves_in ss) ≤ x = rw (← reach-append k lo s.leaves (leaves_in ss)) h in
      let r' : Ranged k m (leaves_in ss) = ranged-right k lo s.leaves (leaves_in ss) r in
      (lt-leb x (sec_bd s) (omega (arith, reach-le m (leaves_in ss) r', reach-last lo [] s.leaves a.0)), sections-none x m ss a.1 r' h')

  first-at : {A : Type 0} (q : A → Bool) (xs : List A) (y : A) (ys : List A) → None q xs → q y ≡ true → first_in q (xs ++ y ∷ ys) ≡ length xs
  unfolding first_in
  first-at q [] y ys n e = rw e
  first-at q (x ∷ xs) y ys n e = rw (n.0, first-at q xs y ys n.1 e)

  pub covered : (bs : List Section) (ib : ℕ) (low : List Leaf) (l : Leaf) (high : List Leaf) (cs : List Section) (x : ℕ)
      → All (λ s. 1 ≤ length s.leaves) (bs ++ (sec ib (low ++ (l ∷ high)) ∷ cs)) → Ranged k 0 (leaves_in (bs ++ (sec ib (low ++ (l ∷ high)) ∷ cs)))
      → reach k (reach k 0 (leaves_in bs)) low ≤ x → x ≤ bd k l → (first_in (λ s. leb x (sec_bd s)) (bs ++ (sec ib (low ++ (l ∷ high)) ∷ cs)) ≡ length bs) ×
      (first_in (λ m. leb x (bd k m)) (low ++ (l ∷ high)) ≡ length low)
  unfolding sec_bd
  covered bs ib low l high cs x a r above within =
      let Some : Section → Type 0 = λ s. 1 ≤ length s.leaves in
      let lo : ℕ = reach k 0 (leaves_in bs) in
      let r₀ : Ranged k 0 (leaves_in bs ++ ((low ++ (l ∷ high)) ++ leaves_in cs)) = rw (leaves_in-append bs (sec ib (low ++ (l ∷ high)) ∷ cs)) at r in
      let r₁ : Ranged k lo (low ++ (l ∷ high)) = ranged-left k lo (low ++ (l ∷ high)) (leaves_in cs) (ranged-right k 0 (leaves_in bs) _ r₀) in
      let rl : Ranged k lo low = ranged-left k lo low _ r₁ in
      let rh : Ranged k (suc (bd k l)) high = (ranged-right k lo low (l ∷ high) r₁).1 in
      let end : reach k lo (low ++ (l ∷ high)) ≡ reach k (suc (bd k l)) high = reach-append k lo low (l ∷ high) in (
        first-at (λ s. leb x (sec_bd s)) bs (sec ib (low ++ (l ∷ high))) cs
            (sections-none x 0 bs (all_left Some bs _ a) (ranged-left k 0 (leaves_in bs) _ r₀) (omega (arith, reach-le lo low rl)))
            (le-leb x (sec_bd (sec ib (low ++ (l ∷ high))))
            (omega (arith, end, reach-le (suc (bd k l)) high rh, reach-last lo [] (low ++ (l ∷ high)) (all_right Some bs _ a).0))),
        first-at (λ m. leb x (bd k m)) low l high (reach-none x lo low rl above) (le-leb x (bd k l) within),
      )

  -- ---- what is done at a key that some leaves cover is done there

  module _ (bs ls cs : List Leaf) (h : Ranged k 0 (bs ++ (ls ++ cs))) where
    mid : Ranged k (reach k 0 bs) (ls ++ cs)
    mid = ranged-right k 0 bs _ h

    ha : Asc (key k) 0 (records_in bs) (reach k 0 bs)
    ha = ranged-asc k 0 bs (ranged-left k 0 bs _ h)

    hm : Asc (key k) (reach k 0 bs) (records_in ls) (reach k (reach k 0 bs) ls)
    hm = ranged-asc k _ ls (ranged-left k _ ls _ mid)

    hc : Asc (key k) (reach k (reach k 0 bs) ls) (records_in cs) (reach k (reach k (reach k 0 bs) ls) cs)
    hc = ranged-asc k _ cs (ranged-right k _ ls _ mid)

    spread : (ls' : List Leaf) → records_in (bs ++ (ls' ++ cs)) ≡ records_in bs ++ (records_in ls' ++ records_in cs)
    spread ls' = simp records-append

    pub hit-part : (x : ℕ) → reach k 0 bs ≤ x → x < reach k (reach k 0 bs) ls → hit (key k) x (records_in (bs ++ (ls ++ cs))) ≡ hit (key k) x (records_in ls)
    hit-part x l u = rw (spread ls) (hit-local (key k) (records_in bs) (records_in ls) (records_in cs) (reach k 0 bs) (reach k (reach k 0 bs) ls)
        (reach k (reach k (reach k 0 bs) ls) cs) ha hm hc x l u)

    pub from-part : (x : ℕ) → reach k 0 bs ≤ x → x ≤ reach k (reach k 0 bs) ls
        → from (key k) x (records_in (bs ++ (ls ++ cs))) ≡ from (key k) x (records_in ls) ++ records_in cs
    from-part x l u = rw (spread ls) (from-local (key k) (records_in bs) (records_in ls) (records_in cs) (reach k 0 bs) (reach k (reach k 0 bs) ls)
        (reach k (reach k (reach k 0 bs) ls) cs) ha hm hc x l u)

    module _ (ls' : List Leaf) where
      pub ins-part : (r : List ℕ) → reach k 0 bs ≤ key k r → key k r < reach k (reach k 0 bs) ls → records_in ls' ≡ ins (key k) r (records_in ls)
          → records_in (bs ++ (ls' ++ cs)) ≡ ins (key k) r (records_in (bs ++ (ls ++ cs)))
      ins-part r l u e = rw (spread ls', spread ls, e)
          (sym (ins-local (key k) (records_in bs) (records_in ls) (records_in cs) (reach k 0 bs) (reach k (reach k 0 bs) ls)
          (reach k (reach k (reach k 0 bs) ls) cs) ha hm hc r l u))

      pub upd-part : (r : List ℕ) → reach k 0 bs ≤ key k r → key k r < reach k (reach k 0 bs) ls → records_in ls' ≡ upd (key k) r (records_in ls)
          → records_in (bs ++ (ls' ++ cs)) ≡ upd (key k) r (records_in (bs ++ (ls ++ cs)))
      upd-part r l u e = rw (spread ls', spread ls, e)
          (sym (upd-local (key k) (records_in bs) (records_in ls) (records_in cs) (reach k 0 bs) (reach k (reach k 0 bs) ls)
          (reach k (reach k (reach k 0 bs) ls) cs) ha hm hc r l u))

      pub del-part : (x : ℕ) → reach k 0 bs ≤ x → x < reach k (reach k 0 bs) ls → records_in ls' ≡ del (key k) x (records_in ls)
          → records_in (bs ++ (ls' ++ cs)) ≡ del (key k) x (records_in (bs ++ (ls ++ cs)))
      del-part x l u e = rw (spread ls', spread ls, e)
          (sym (del-local (key k) (records_in bs) (records_in ls) (records_in cs) (reach k 0 bs) (reach k (reach k 0 bs) ls)
          (reach k (reach k (reach k 0 bs) ls) cs) ha hm hc x l u))
