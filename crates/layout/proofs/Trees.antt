-- Laws of trees: detail blocks in order, one list of them behind another; the words of their entries; only the last bound is ONES.
use Prim.Native.Nat.{ℕ, ◌+◌, ◌*◌, ◌≤◌}
use mathlib.Core.Path.{◌≡◌, refl, sym, ap, ◌∙◌}
use mathlib.Core.Logic.{◌⊎◌, inl, inr}
use mathlib.Core.List.{List, [], ◌∷◌, ◌++◌, append-nil}
use mathlib.Core.Bool.{Bool, true, false}
use native.Mathlib.Omega.{arith}
use native.Mathlib.Nat.{not-suc-le-zero, zero-mul}
use lib.ListN.{length, take, length-append, length-take}
use Rattle.words.specs.Words.{all_words}
use Rattle.words.specs.Keys.{ones, is_ones, key_lt}
use Rattle.words.proofs.Keys.{clash}
use Rattle.words.proofs.All.{and_both, is_ones-true, all_words-take, ones-top}
use Rattle.drum.specs.declared.Description.{Description}
use Rattle.drum.specs.Params.{I}
use Rattle.layout.specs.Create.{end_record}
use Rattle.layout.specs.Tree.{Leaf, Section, last_in, bound_of, leaves_in, records_in}
use Rattle.layout.specs.Holds.{All, OneTo, LeavesOk, index_entries, master_entries, ascending, keys_of}
use Rattle.layout.proofs.Good.{row_more}
use Rattle.layout.proofs.Lists.{last-right}

module _ (p : Description) where
  pub leaves_none : (before : List (List ℕ)) → LeavesOk p before []
  unfolding LeavesOk
  leaves_none before = tt

  -- one list of detail blocks behind another
  pub leaves-append : (before : List (List ℕ)) (xs ys : List Leaf) (b : List ℕ) → LeavesOk p before xs → 1 ≤ length xs → bound_of xs ≡ b
      → LeavesOk p (b ∷ []) ys → LeavesOk p before (xs ++ ys)
  unfolding LeavesOk bound_of
  leaves-append before [] ys b h s q k = absurd (not-suc-le-zero s)
  leaves-append before (x ∷ []) ys b (h, u) s q k = (h, rw q k)
  leaves-append before (x ∷ y ∷ xs) ys b (h, t) s q k = (h, leaves-append (x.bound ∷ []) (y ∷ xs) ys b t (omega arith) q k)

  pub leaves-left : (before : List (List ℕ)) (xs ys : List Leaf) → LeavesOk p before (xs ++ ys) → LeavesOk p before xs
  unfolding LeavesOk
  leaves-left before [] ys h = tt
  leaves-left before (x ∷ xs) ys (a, h) = (a, leaves-left (x.bound ∷ []) xs ys h)

  pub leaves-right : (before : List (List ℕ)) (xs ys : List Leaf) → LeavesOk p before (xs ++ ys) → 1 ≤ length xs → LeavesOk p (bound_of xs ∷ []) ys
  unfolding LeavesOk bound_of
  leaves-right before [] ys h s = absurd (not-suc-le-zero s)
  leaves-right before (x ∷ []) ys (a, h) s = h
  leaves-right before (x ∷ y ∷ xs) ys (a, h) s = leaves-right (x.bound ∷ []) (y ∷ xs) ys h (omega arith)

  -- the words of entries
  pub bound-width : (before : List (List ℕ)) (ls : List Leaf) → LeavesOk p before ls → 1 ≤ length ls → length (bound_of ls) ≡ p.k
  unfolding LeavesOk bound_of
  bound-width before [] h s = absurd (not-suc-le-zero s)
  bound-width before (x ∷ []) (a, h) s = a.width
  bound-width before (x ∷ y ∷ xs) (a, h) s = bound-width (x.bound ∷ []) (y ∷ xs) h (omega arith)

  pub index-length : (before : List (List ℕ)) (ls : List Leaf) → LeavesOk p before ls → length (index_entries ls) ≡ length ls * (p.k + 1)
  unfolding LeavesOk index_entries
  index-length before [] h = rw zero-mul
  index-length before (l ∷ ls) (a, h) =
      let ih = index-length (l.bound ∷ []) ls h in
      rw (length-append l.bound (l.block ∷ index_entries ls), row_more (length ls) (p.k + 1)) (omega (arith, a.width))

  pub master-length : (before : List (List ℕ)) (ss : List Section) → LeavesOk p before (leaves_in ss)
      → All (λ (s : Section). OneTo (I p) (length s.leaves)) ss → length (master_entries ss) ≡ length ss * (p.k + 1)
  unfolding All leaves_in master_entries
  master-length before [] o z = rw zero-mul
  master-length before (s ∷ ss) o (c, z) =
      let o₁ = leaves-left before s.leaves (leaves_in ss) o in
      let o₂ = leaves-right before s.leaves (leaves_in ss) o c.0 in
      let ih = master-length (bound_of s.leaves ∷ []) ss o₂ z in
      rw (length-append (bound_of s.leaves) (s.block ∷ master_entries ss), row_more (length ss) (p.k + 1))
      (omega (arith, bound-width before s.leaves o₁ c.0))

  -- only the last bound is ONES: of each detail block, it is not, or the last record is the end record
  abbrev pub LeafEnds : Leaf → Type 0
  LeafEnds l = (is_ones l.bound ≡ false) ⊎ (last_in l.records ≡ end_record p)

  top-not : (b : List ℕ) (rs : List (List ℕ)) → length b ≡ p.k → 1 ≤ length rs → All (λ r. p.k ≤ length r) rs
      → ascending (b ∷ keys_of p rs) ≡ true → All (λ r. all_words r ≡ true) rs → is_ones b ≡ false
  unfolding ascending All
  top-not b [] l s k e w = absurd (not-suc-le-zero s)
  top-not b (r ∷ rs) l s (k, ks) e (w, ws) = go (is_ones b) refl
    where
      go : (t : Bool) → is_ones b ≡ t → t ≡ false
      go false q = refl
      go true q =
          let key = take p.k r in
          let lt = (and_both (key_lt b key) (ascending (key ∷ keys_of p rs)) e).0 in
          let n : length key ≡ p.k = rw (length-take p.k r) (omega arith) in
          let is : b ≡ ones p.k = is_ones-true p.k b l q in
          absurd (clash (sym lt ∙ ap (λ (x : List ℕ). key_lt x key) is ∙ ones-top p.k key n (all_words-take p.k r w)))

  all-widths : (kwpr : p.k ≤ p.wpr) (rs : List (List ℕ)) → All (λ r. length r ≡ p.wpr) rs → All (λ r. p.k ≤ length r) rs
  unfolding All
  all-widths h [] w = tt
  all-widths h (r ∷ rs) (e, w) = (omega arith, all-widths h rs w)

  full : (before : List (List ℕ)) (l : Leaf) (ls : List Leaf) → LeavesOk p before (l ∷ ls) → 1 ≤ length (records_in (l ∷ ls))
  unfolding LeavesOk records_in
  full before l ls (o, h) = rw (length-append l.records (records_in ls)) (omega (arith, o.counted))

  pub ends : (kwpr : p.k ≤ p.wpr) (before : List (List ℕ)) (ls : List Leaf) → LeavesOk p before ls
      → All (λ (l : Leaf). All (λ r. all_words r ≡ true) l.records) ls → last_in (records_in ls) ≡ end_record p → All LeafEnds ls
  unfolding LeavesOk All records_in
  ends k before [] o w e = tt
  ends k before (l ∷ []) (o, h) w e = (inr (rw (append-nil l.records) at e), tt)
  ends k before (l ∷ m ∷ ls) (o, (o', h)) (v, (v', w)) e = (
    inl (top-not l.bound m.records o.width o'.counted.0 (all-widths k m.records o'.widths) o'.order v'),
    ends k (l.bound ∷ []) (m ∷ ls) (o', h) (v', w)
        (sym (last-right l.records (records_in (m ∷ ls)) (full (l.bound ∷ []) m ls (o', h))) ∙ e),
  )
