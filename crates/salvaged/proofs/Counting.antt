-- How many of a list of records a test takes: of those that the walk meets, as many as of those that the tree holds.
use mathlib.Core.Path.{◌≡◌, refl, sym, ap, ◌∙◌}
use mathlib.Core.Bool.{Bool, true, false, cond}
use mathlib.Core.List.{List, [], ◌∷◌, ◌++◌}
use Prim.Native.Nat.{ℕ, zero, suc, ◌+◌, ◌≤◌, ◌<◌}
use native.Mathlib.Omega.{arith}
use borrow.Author.Tests.{eqb-true, eq-eqb, ne_eqb}
use lib.Dec.{eqb}
use Rattle.words.specs.Keys.{is_ones}
use Rattle.words.proofs.Keys.{clash, Tri, tri, lt, eq, gt}
use Rattle.drum.specs.declared.Description.{Description}
use Rattle.drum.specs.Params.{good_params}
use Rattle.drum.specs.Blocks.{Block, block_at}
use Rattle.layout.specs.Tree.{Leaf, Tree, leaf_blocks, leaves_of, contents, times}
use Rattle.layout.specs.Tree as lay
use Rattle.layout.specs.Holds.{All, Holds}
use Rattle.rules.specs.State.{key_in}
use Rattle.salvage.specs.Met.{Met, over, found, records_in, missed, places, met_in, met_from, met}
use Rattle.salvaged.specs.Spots.{spots, rows_of}
use Rattle.salvaged.proofs.GoodBlocks.{Whole, Either, detail, other, details-whole, block-either, leaf-blocks}

-- ---- a number for each block, added up: over a run of blocks, and over a list of blocks

module _ (g : ℕ → ℕ) where
  unfoldable sum_from : ℕ → ℕ → ℕ
  sum_from b zero = 0
  sum_from b (suc n) = g b + sum_from (b + 1) n

  unfoldable sum_of : List ℕ → ℕ
  sum_of [] = 0
  sum_of (b ∷ bs) = g b + sum_of bs

  -- g b for each time that b stands in the list
  unfoldable picked : List ℕ → ℕ → ℕ
  picked [] b = 0
  picked (c ∷ cs) b = cond (eqb b c) (g b) 0 + picked cs b

  picked_none : (b : ℕ) (cs : List ℕ) → times b cs ≡ 0 → picked cs b ≡ 0
  unfolding picked times
  picked_none b [] e = refl
  picked_none b (c ∷ cs) e = go (eqb b c) e (picked_none b cs)
    where
      go : (t : Bool) → cond t 1 0 + times b cs ≡ 0 → (times b cs ≡ 0 → picked cs b ≡ 0) → cond t (g b) 0 + picked cs b ≡ 0
      go true e r = absurd (omega arith)
      go false e r = let z = r (omega arith) in omega arith

  picked-one : (b : ℕ) (cs : List ℕ) → times b cs ≡ 1 → picked cs b ≡ g b
  unfolding picked times
  picked-one b [] e = absurd (omega arith)
  picked-one b (c ∷ cs) e = go (eqb b c) e (picked-one b cs)
    where
      go : (t : Bool) → cond t 1 0 + times b cs ≡ 1 → (times b cs ≡ 1 → picked cs b ≡ g b) → cond t (g b) 0 + picked cs b ≡ g b
      go true e r = let z = picked_none b cs (omega arith) in omega arith
      go false e r = let z = r (omega arith) in omega arith

module _ (g : ℕ → ℕ) (c : ℕ) where
  abbrev at : ℕ → ℕ
  at b = cond (eqb b c) (g b) 0

  at-not : (b : ℕ) → (b ≡ c → ⊥) → at b ≡ 0
  at-not b n = ap (λ (t : Bool). cond t (g b) 0) (ne_eqb b c n)

  sum_past : (n b : ℕ) → c < b → sum_from at b n ≡ 0
  unfolding sum_from
  sum_past zero b l = refl
  sum_past (suc n) b l = let z = at-not b (λ e. omega arith) in let r = sum_past n (b + 1) (omega arith) in omega arith

  sum-at : (n b : ℕ) → b ≤ c → c < b + n → sum_from at b n ≡ g c
  unfolding sum_from
  sum-at zero b l m = absurd (omega arith)
  sum-at (suc n) b l m = go (eqb b c) refl (λ k. sum-at n (b + 1) k (omega arith))
    where
      go : (t : Bool) → eqb b c ≡ t → (b + 1 ≤ c → sum_from at (b + 1) n ≡ g c) → cond t (g b) 0 + sum_from at (b + 1) n ≡ g c
      go true e r =
          let q : b ≡ c = eqb-true b c e in
          let z = sum_past n (b + 1) (omega arith) in
          let s : g b ≡ g c = ap g q in
          omega arith
      go false e r = let above : b < c = past (tri b c) in let z = r (omega arith) in omega arith
        where
          past : Tri b c → b < c
          past (lt l) = l
          past (eq q) = absurd (clash (sym (eq-eqb b c q) ∙ e))
          past (gt g) = absurd (omega arith)

sum-two : (g k : ℕ → ℕ) (n b : ℕ) → sum_from (λ (x : ℕ). g x + k x) b n ≡ sum_from g b n + sum_from k b n
unfolding sum_from
sum-two g k zero b = refl
sum-two g k (suc n) b = let e = sum-two g k n (b + 1) in omega arith

sum_same : (g k : ℕ → ℕ) (n b : ℕ) → ((c : ℕ) → b ≤ c → c < b + n → g c ≡ k c) → sum_from g b n ≡ sum_from k b n
unfolding sum_from
sum_same g k zero b h = refl
sum_same g k (suc n) b h =
    let e = sum_same g k n (b + 1) (λ c l m. h c (omega arith) (omega arith)) in let f = h b (omega arith) (omega arith) in omega arith

sum-zero : (n b : ℕ) → sum_from (λ (x : ℕ). 0) b n ≡ 0
unfolding sum_from
sum-zero zero b = refl
sum-zero (suc n) b = let e = sum-zero n (b + 1) in omega arith

-- each block of the list once, in whatever order
sum-picked : (g : ℕ → ℕ) (n b : ℕ) (cs : List ℕ) → All (λ (c : ℕ). (b ≤ c) × (c < b + n)) cs → sum_from (picked g cs) b n ≡ sum_of g cs
unfolding All sum_of
sum-picked g n b [] a = sum_same (picked g []) (λ (x : ℕ). 0) n b (λ c l m. unfold picked in refl) ∙ sum-zero n b
sum-picked g n b (c ∷ cs) (a, more) =
    let s : sum_from (picked g (c ∷ cs)) b n ≡ sum_from (λ (x : ℕ). at g c x + picked g cs x) b n = sum_same _ _ n b (λ x l m. unfold picked in refl) in
    s ∙ sum-two (at g c) (picked g cs) n b ∙ λ j. sum-at g c n b a.0 a.1 j + sum-picked g n b cs more j

-- ---- the records that a test takes

-- the records of what is met
unfoldable pub rows_met : List Met → List (List ℕ)
rows_met [] = []
rows_met (over b m ∷ ms) = rows_met ms
rows_met (found b i r ∷ ms) = r ∷ rows_met ms

module _ (q : List ℕ → Bool) where
  unfoldable pub taken : List (List ℕ) → ℕ
  taken [] = 0
  taken (r ∷ rs) = cond (q r) 1 0 + taken rs

  pub taken-append : (xs ys : List (List ℕ)) → taken (xs ++ ys) ≡ taken xs + taken ys
  unfolding taken
  taken-append [] ys = omega arith
  taken-append (x ∷ xs) ys = let e = taken-append xs ys in omega arith

rows_more : (ms ns : List Met) → rows_met (ms ++ ns) ≡ rows_met ms ++ rows_met ns
unfolding rows_met
rows_more [] ns = refl
rows_more (over b m ∷ ms) ns = rows_more ms ns
rows_more (found b i r ∷ ms) ns = ap (λ (l : List (List ℕ)). r ∷ l) (rows_more ms ns)

rows-places : (b i : ℕ) (rs : List (List ℕ)) → rows_met (places b i rs) ≡ rs
unfolding rows_met places
rows-places b i [] = refl
rows-places b i (r ∷ rs) = ap (λ (l : List (List ℕ)). r ∷ l) (rows-places b (i + 1) rs)

module _ (p : Description) (copy : List ℕ) (t : Tree) (good : good_params p ≡ true) (two : p.form ≡ 2) (h : Holds p copy t) (q : List ℕ → Bool) where
  -- of block b
  abbrev in_block : ℕ → ℕ
  in_block b = taken q (rows_met (met_in p b (block_at p copy b)))

  met-sum : (n b : ℕ) → taken q (rows_met (met_from p copy b n)) ≡ sum_from in_block b n
  unfolding met_from sum_from
  met-sum zero b = unfold rows_met taken in refl
  met-sum (suc n) b =
      ap (taken q) (rows_more (met_in p b (block_at p copy b)) (met_from p copy (b + 1) n))
      ∙ taken-append q (rows_met (met_in p b (block_at p copy b))) (rows_met (met_from p copy (b + 1) n))
      ∙ ap (λ (k : ℕ). in_block b + k) (met-sum n (b + 1))

  whole-block : (b : ℕ) (rs : List (List ℕ)) → missed p (block_at p copy b) ≡ 0 → records_in p (block_at p copy b) ≡ rs → in_block b ≡ taken q rs
  unfolding met_in
  whole-block b rs m e =
      ap (λ (k : Bool). taken q (rows_met (cond k (places b 1 (records_in p (block_at p copy b))) (over b (missed p (block_at p copy b)) ∷ [])))) (eq-eqb _ 0 m)
      ∙ ap (taken q) (rows-places b 1 (records_in p (block_at p copy b)) ∙ e)

  over-block : (b k : ℕ) → missed p (block_at p copy b) ≡ suc k → in_block b ≡ 0
  unfolding met_in rows_met taken
  over-block b k m =
      ap (λ (c : Bool). taken q (rows_met (cond c (places b 1 (records_in p (block_at p copy b))) (over b (missed p (block_at p copy b)) ∷ []))))
      (ne_eqb (missed p (block_at p copy b)) 0 (λ e. omega arith))

  leaves-sum : (ls : List Leaf) → All (λ (l : Leaf). Whole p (block_at p copy l.block) l.records) ls
      → sum_of in_block (leaf_blocks ls) ≡ taken q (lay.records_in ls)
  unfolding All leaf_blocks sum_of
  leaves-sum [] a = unfold taken in refl
  leaves-sum (l ∷ ls) (a, more) =
      (λ j. whole-block l.block l.records a.passes a.holds j + leaves-sum ls more j) ∙ sym (taken-append q l.records (lay.records_in ls))

  blocks-within : (ls : List Leaf) → All (λ (l : Leaf). Block p l.block) ls → All (λ (c : ℕ). (1 ≤ c) × (c < 1 + p.n)) (leaf_blocks ls)
  unfolding All leaf_blocks
  blocks-within [] a = tt
  blocks-within (l ∷ ls) (a, more) = ((a.0, omega (arith, a.1)), blocks-within ls more)

  -- those that the walk meets and those that the tree holds
  pub as_many : taken q (rows_met (met p copy)) ≡ taken q (contents t)
  as_many =
      let bs = leaf_blocks (leaves_of t) in
      met-sum p.n 1 ∙ sum_same in_block (picked in_block bs) p.n 1 (λ c l m. each c (block-either p copy t good two h c (l, omega arith)))
      ∙ sum-picked in_block p.n 1 bs (blocks-within (leaves_of t) (leaf-blocks p copy t good two h))
      ∙ leaves-sum (leaves_of t) (details-whole p copy t good two h)
    where
      each : (c : ℕ) → Either p copy t good two h c → in_block c ≡ picked in_block (leaf_blocks (leaves_of t)) c
      each c (detail one m) = sym (picked-one in_block c (leaf_blocks (leaves_of t)) one)
      each c (other none m) = over-block c 0 m ∙ sym (picked_none in_block c (leaf_blocks (leaves_of t)) none)

-- the ordinary ones among them
module _ (p : Description) (q : List ℕ → Bool) where
  abbrev pub ordinary : List ℕ → Bool
  ordinary r = cond (is_ones (key_in p r)) false (q r)

  pub spots-taken : (ms : List Met) → taken q (rows_of (spots p ms)) ≡ taken ordinary (rows_met ms)
  unfolding spots rows_met taken
  spots-taken [] = refl
  spots-taken (over b m ∷ ms) = spots-taken ms
  spots-taken (found b i r ∷ ms) = go (is_ones (key_in p r)) (spots-taken ms)
    where
      go : (c : Bool) → taken q (rows_of (spots p ms)) ≡ taken ordinary (rows_met ms)
          → taken q (rows_of (cond c (spots p ms) (record { block = b; place = i; row = r } ∷ spots p ms)))
          ≡ cond (cond c false (q r)) 1 0 + taken ordinary (rows_met ms)
      go true e = omega arith
      go false e = ap (λ (k : ℕ). cond (q r) 1 0 + k) e
