-- The words of a finished file and the tree that stands in it.
use Prim.Native.Nat.{ℕ, zero, suc, ◌+◌, ◌-◌, ◌<◌}
use mathlib.Core.Path.{◌≡◌, refl, sym, ap, ◌∙◌, subst}
use mathlib.Core.Bool.{Bool, true, false, ◌||◌}
use mathlib.Core.List.{List, [], ◌∷◌, append-nil}
use native.Mathlib.Omega.{arith}
use borrow.Author.Tests.{eqb-true, eq-eqb, ne_eqb}
use lib.Dec.{eqb}
use lib.ListN.{length}
use Rattle.words.proofs.All.{and_both, both-and}
use Rattle.words.proofs.Keys.{clash}
use Rattle.table.specs.Tables.{count}
use Rattle.drum.specs.declared.Description.{Description}
use Rattle.drum.specs.Params.{FD, good_params, start, index_shape, detail_shape}
use Rattle.drum.specs.Blocks.{chain_head, lowest_unused, sections, block_at}
use Rattle.drum.proofs.Good.{good-facts}
use Rattle.layout.specs.Inspect.{named}
use Rattle.layout.specs.Tree.{Leaf, Tree, leaf_blocks}
use Rattle.layout.specs.Holds.{Holds}
use Rattle.layout.proofs.Read.{leaf_at, leaves_at, section_at, sections_at, chain_at, tree_at, records_at, entries_at, rows-length, leaves-length, sections-length}
use Rattle.layout.proofs.Read.{next_free, chain-none, chain-some}
use Rattle.layout.proofs.Unique.{tree-at}
use Rattle.demands.specs.Filled.{ButLast, count_from, OneInOrder, Full, Any}
use Rattle.reading.specs.Finished.{holds_fd, entry_ok, in_order, finished}
use Rattle.reading.proofs.Order.{count_at, last-holds}
use Rattle.readings.specs.Trees.{Finished}

or-first : (x y : Bool) → x ≡ false → (x || y) ≡ true → y ≡ true
or-first true y e h = absurd (clash e)
or-first false y e h = h

or-second : (x y : Bool) → y ≡ true → (x || y) ≡ true
or-second true y h = refl
or-second false y h = h

heads : (x y : ℕ) (xs ys : List ℕ) → x ∷ xs ≡ y ∷ ys → x ≡ y
heads x y xs ys e = cc

tails : (x y : ℕ) (xs ys : List ℕ) → x ∷ xs ≡ y ∷ ys → xs ≡ ys
tails x y xs ys e = cc

next-number : (b : ℕ) → b + 1 ≡ suc b
next-number b = omega arith

-- ---- one entry and its leaf, and all of them

module _ (p : Description) (f : List ℕ) (wide : 0 < p.wpb) where
  count-leaf : (e b : ℕ) → named p f e ≡ b → count (detail_shape p) (block_at p f b) ≡ length (leaf_at p f e).records
  unfolding leaf_at
  count-leaf e b q =
      count_at p f (detail_shape p) b wide
      ∙ ap (λ (x : ℕ). records_at p f (start p x)) (sym q)
      ∙ sym (rows-length f p.wpr (records_at p f (start p (named p f e))) (start p (named p f e) + 1))

  entry_named : (e b behind : ℕ) → entry_ok p f e b behind ≡ true → named p f e ≡ b
  unfolding entry_ok
  entry_named e b behind h = eqb-true _ _ (and_both (eqb (named p f e) b) (holds_fd p f b behind) h).0

  entry-full : (e b m : ℕ) → entry_ok p f e b (suc m) ≡ true → Full p (leaf_at p f e)
  unfolding entry_ok holds_fd
  entry-full e b m h =
      let full = or-first (eqb (suc m) 0) (eqb (count (detail_shape p) (block_at p f b)) (FD p)) (ne_eqb (suc m) 0 (λ q. omega arith))
      (and_both (eqb (named p f e) b) (holds_fd p f b (suc m)) h).1 in
      sym (count-leaf e b (entry_named e b (suc m) h)) ∙ eqb-true _ _ full

  entry-last : (e b : ℕ) → named p f e ≡ b → entry_ok p f e b 0 ≡ true
  unfolding entry_ok
  entry-last e b q = both-and (eqb (named p f e) b) (holds_fd p f b 0) (eq-eqb _ _ q) (sym (last-holds p f b 0 refl))

  entry_other : (e b m : ℕ) → named p f e ≡ b → Full p (leaf_at p f e) → entry_ok p f e b (suc m) ≡ true
  unfolding entry_ok holds_fd
  entry_other e b m q h =
      both-and (eqb (named p f e) b) (holds_fd p f b (suc m)) (eq-eqb _ _ q)
      (or-second (eqb (suc m) 0) (eqb (count (detail_shape p) (block_at p f b)) (FD p)) (eq-eqb _ _ (count-leaf e b q ∙ h)))

  leaves-told : (n e b : ℕ) → in_order p f e b n ≡ true
      → (leaf_blocks (leaves_at p f e n) ≡ count_from b n) × ButLast (Full p) Any (leaves_at p f e n)
  unfolding in_order leaves_at leaf_at leaf_blocks count_from ButLast
  leaves-told zero e b h = (refl, tt)
  leaves-told (suc zero) e b h =
      let (x, _) = and_both (entry_ok p f e b 0) true h in
      (ap (λ (z : ℕ). z ∷ []) (entry_named e b 0 x), tt)
  leaves-told (suc (suc n)) e b h =
      let (x, r) = and_both (entry_ok p f e b (suc n)) (in_order p f (e + (p.k + 1)) (b + 1) (suc n)) h in
      let (ls, ds) = leaves-told (suc n) (e + (p.k + 1)) (b + 1) r in
      ((λ i. entry_named e b (suc n) x i ∷ (ls ∙ ap (λ (z : ℕ). count_from z (suc n)) (next-number b)) i), (entry-full e b n x, ds))

  leaves-tell : (n e b : ℕ) → leaf_blocks (leaves_at p f e n) ≡ count_from b n → ButLast (Full p) Any (leaves_at p f e n) → in_order p f e b n ≡ true
  unfolding in_order leaves_at leaf_at leaf_blocks count_from ButLast
  leaves-tell zero e b ls ds = refl
  leaves-tell (suc zero) e b ls ds = both-and (entry_ok p f e b 0) true (entry-last e b (heads _ _ _ _ ls)) refl
  leaves-tell (suc (suc n)) e b ls ds =
      both-and (entry_ok p f e b (suc n)) (in_order p f (e + (p.k + 1)) (b + 1) (suc n)) (entry_other e b n (heads _ _ _ _ ls) ds.0)
      (leaves-tell (suc n) (e + (p.k + 1)) (b + 1) (tails _ _ _ _ ls ∙ ap (λ (z : ℕ). count_from z (suc n)) (sym (next-number b))) ds.1)

-- ---- the whole tree

module _ (p : Description) (f : List ℕ) (good : good_params p ≡ true) (one : p.control ≡ 1) (t : Tree) (h : Holds p f t) where
  wide : 0 < p.wpb
  wide = let g = good-facts p good in omega (arith, g.wpb-least)

  is : tree_at p f ≡ t
  is = tree-at p f (record { good = good-facts p good; size = h.size }) t h

  one-section : length t.sections ≡ 1
  one-section = omega (arith, one, h.control)

  secs : sections f ≡ 1
  unfolding tree_at
  secs = sym (sections-length p f (sections f) 3) ∙ ap (λ (u : Tree). length u.sections) is ∙ one-section

  -- the tree with its one section
  abbrev under : ℕ → List Leaf
  under a = leaves_at p f (start p a + 1) (entries_at p f (start p a))

  abbrev standing : Tree
  standing = record { sections = section_at p f 3 ∷ []; chain = chain_at p f p.n (chain_head f); lowest = lowest_unused f }

  same : standing ≡ t
  unfolding tree_at sections_at
  same = (λ i. record { sections = sections_at p f 3 (sym secs i); chain = chain_at p f p.n (chain_head f); lowest = lowest_unused f }) ∙ is

  counted : count (index_shape p) (block_at p f 1) ≡ entries_at p f (start p 1)
  counted = count_at p f (index_shape p) 1 wide

  pub finished-tree : finished p f ≡ true → Finished p t
  unfolding finished section_at OneInOrder
  finished-tree e =
      let (x, r) = and_both (eqb (chain_head f) 0) _ e in
      let (y, z) = and_both (eqb (named p f 3) 1) _ r in
      let q : named p f 3 ≡ 1 = eqb-true _ _ y in
      let (ls, ds) = leaves-told p f wide (entries_at p f (start p 1)) (start p 1 + 1) 2 (rw counted at z) in
      let n = leaves-length p f (entries_at p f (start p 1)) (start p 1 + 1) in
      subst (Finished p) same
      (record {
        one = refl;
        order = (q, subst (λ (a : ℕ). leaf_blocks (under a) ≡ count_from 2 (length (under a))) (sym q) (ls ∙ ap (count_from 2) (sym n)));
        details = subst (ButLast (Full p) Any) (sym (append-nil (under (named p f 3)))) (subst (λ (a : ℕ). ButLast (Full p) Any (under a)) (sym q) ds);
        chain = chain-none p f p.n (chain_head f) (eqb-true _ _ x);
      })

  no-chain : chain_at p f p.n (chain_head f) ≡ [] → chain_head f ≡ 0
  no-chain e = go (eqb (chain_head f) 0) refl
    where
      some : p.n ≡ suc (p.n - 1)
      some = let g = good-facts p good in omega (arith, g.n-least)

      go : (b : Bool) → eqb (chain_head f) 0 ≡ b → chain_head f ≡ 0
      go true q = eqb-true _ _ q
      go false q =
          let z : chain_head f ∷ chain_at p f (p.n - 1) (next_free p f (chain_head f)) ≡ []
          = sym (ap (λ (m : ℕ). chain_at p f m (chain_head f)) some ∙ chain-some p f (p.n - 1) (chain_head f) q) ∙ e in
          absurd (omega (arith, ap length z))

  pub tree-finished : Finished p t → finished p f ≡ true
  unfolding finished section_at OneInOrder
  tree-finished F =
      let G : Finished p standing = subst (Finished p) (sym same) F in
      let q : named p f 3 ≡ 1 = G.order.0 in
      let n = leaves-length p f (entries_at p f (start p 1)) (start p 1 + 1) in
      let ls : leaf_blocks (under 1) ≡ count_from 2 (length (under 1))
      = subst (λ (a : ℕ). leaf_blocks (under a) ≡ count_from 2 (length (under a))) q G.order.1 in
      let ds : ButLast (Full p) Any (under 1)
      = subst (λ (a : ℕ). ButLast (Full p) Any (under a)) q (subst (ButLast (Full p) Any) (append-nil (under (named p f 3))) G.details) in
      both-and (eqb (chain_head f) 0) _ (eq-eqb _ _ (no-chain G.chain))
      (both-and (eqb (named p f 3) 1) _ (eq-eqb _ _ q)
      (rw counted (leaves-tell p f wide (entries_at p f (start p 1)) (start p 1 + 1) 2 (ls ∙ ap (count_from 2) n) ds)))
