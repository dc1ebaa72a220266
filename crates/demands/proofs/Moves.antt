-- What a change of a tree makes of its blocks: those in use, the chain and word 2.
use Prim.Native.Nat.{ℕ, ◌+◌, ◌-◌}
use mathlib.Core.Path.{◌≡◌, refl, sym, ap, ◌∙◌}
use mathlib.Core.List.{List, [], ◌∷◌, ◌++◌, append_assoc, append-nil}
use native.Mathlib.Omega.{arith}
use lib.ListN.{length, drop}
use Rattle.layout.specs.Tree.{Leaf, Section, Tree, leaf_blocks, times}
use Rattle.layout.specs.Tree as lay
use Rattle.demands.specs.Reuse.{indexes_in, new_blocks, Takes, Frees, KeepsBlocks}
use Rattle.demands.proofs.Trees.{leaves_in, leaves_in-append}
use Rattle.demands.proofs.Holds.{Free}
use Rattle.demands.proofs.Steps.{sec}
use Rattle.demands.proofs.Places.{Place, tree_of, tree_with, olds}
use Rattle.demands.proofs.Frees.{next, taken}

-- the tree of these sections and free blocks
abbrev pub tree_in : List Section → Free → Tree
tree_in ss f = record { sections = ss; chain = f.chain; lowest = f.lowest }

-- ---- how often a block stands in lists put together

pub blocks-append : (xs ys : List Leaf) → leaf_blocks (xs ++ ys) ≡ leaf_blocks xs ++ leaf_blocks ys
unfolding leaf_blocks
blocks-append [] ys = refl
blocks-append (x ∷ xs) ys = ap (λ (z : List ℕ). x.block ∷ z) (blocks-append xs ys)

-- the block before takes the bound of one that goes
pub same_blocks : (low : List Leaf) (y : Leaf) (b : List ℕ) (ls hs : List Leaf) → ls ≡ low ++ (y ∷ []) → hs ≡ []
    → leaf_blocks (low ++ (record { bound = b; block = y.block; records = y.records } ∷ [])) ≡ leaf_blocks (ls ++ hs)
unfolding leaf_blocks
same_blocks low y b ls hs el eh =
    blocks-append low _ ∙ sym (blocks-append low (y ∷ [])) ∙ ap leaf_blocks (sym el ∙ sym (append-nil ls) ∙ ap (λ (z : List Leaf). ls ++ z) (sym eh))

times-append : (b : ℕ) (xs ys : List ℕ) → times b (xs ++ ys) ≡ times b xs + times b ys
unfolding times
times-append b [] ys = omega arith
times-append b (x ∷ xs) ys = omega (arith, times-append b xs ys)

indexes-append : (xs ys : List Section) → indexes_in (xs ++ ys) ≡ indexes_in xs ++ indexes_in ys
unfolding indexes_in
indexes-append [] ys = refl
indexes-append (x ∷ xs) ys = ap (λ (z : List ℕ). x.block ∷ z) (indexes-append xs ys)

-- the detail blocks of sections that hold these leaves, and the other leaves of the tree
module _ (b : ℕ) where
  abbrev others : Place → ℕ
  others a = times b (leaf_blocks (leaves_in a.before ++ a.low)) + times b (leaf_blocks (a.high ++ leaves_in a.behind))

  details-in : (ss : List Section) (a : Place) (ls : List Leaf) → leaves_in ss ≡ (leaves_in a.before ++ a.low) ++ (ls ++ (a.high ++ leaves_in a.behind))
      → times b (leaf_blocks (lay.leaves_in ss)) ≡ times b (leaf_blocks ls) + others a
  details-in ss a ls e = ap (λ (z : List Leaf). times b (leaf_blocks z)) e ∙ simp (blocks-append, times-append) (omega arith)

  details-with : (a : Place) (ls : List Leaf) → times b (leaf_blocks (lay.leaves_in (tree_with a ls))) ≡ times b (leaf_blocks ls) + others a
  details-with a ls = details-in (tree_with a ls) a ls (simp (leaves_in-append, append_assoc))

  section-times : (bs : List Section) (i : ℕ) (ls : List Leaf) (cs : List Section)
      → times b (leaf_blocks (lay.leaves_in (bs ++ (sec i ls ∷ cs))))
      ≡ times b (leaf_blocks (leaves_in bs)) + (times b (leaf_blocks ls) + times b (leaf_blocks (leaves_in cs)))
  section-times bs i ls cs =
      ap (λ (z : List Leaf). times b (leaf_blocks z)) (leaves_in-append bs (sec i ls ∷ cs)) ∙ simp (blocks-append, times-append)

  no-section : (bs cs : List Section) → times b (leaf_blocks (lay.leaves_in (bs ++ cs))) ≡ times b (leaf_blocks (leaves_in bs)) + times b (leaf_blocks (leaves_in cs))
  no-section bs cs = ap (λ (z : List Leaf). times b (leaf_blocks z)) (leaves_in-append bs cs) ∙ simp (blocks-append, times-append)

  index-times : (xs ys : List Section) → times b (indexes_in (xs ++ ys)) ≡ times b (indexes_in xs) + times b (indexes_in ys)
  index-times xs ys = ap (times b) (indexes-append xs ys) ∙ times-append b (indexes_in xs) (indexes_in ys)

  indexes-with : (bs : List Section) (s u : Section) (cs : List Section) → s.block ≡ u.block
      → times b (indexes_in (bs ++ s ∷ cs)) ≡ times b (indexes_in (bs ++ u ∷ cs))
  unfolding indexes_in
  indexes-with bs s u cs e = ap (times b) (indexes-append bs (s ∷ cs) ∙ ap (λ (i : ℕ). indexes_in bs ++ (i ∷ indexes_in cs)) e ∙ sym (indexes-append bs (u ∷ cs)))

-- ---- the free blocks after one is taken, and after two

abbrev pub with_chain : Free → List ℕ → Free
with_chain f c = record { chain = c; lowest = f.lowest; spare = f.spare }

one-taken : (f : Free)
    → (new_blocks 1 f.chain f.lowest ≡ next f ∷ []) × ((taken f).chain ≡ drop 1 f.chain) × ((taken f).lowest ≡ f.lowest + (1 - length f.chain))
unfolding new_blocks
one-taken f = go f.chain
  where
    go : (c : List ℕ)
        → (new_blocks 1 c f.lowest ≡ next (with_chain f c) ∷ []) × ((taken (with_chain f c)).chain ≡ drop 1 c)
        × ((taken (with_chain f c)).lowest ≡ f.lowest + (1 - length c))
    go [] = (refl, refl, refl)
    go (c ∷ cs) = (refl, refl, omega arith)

two-taken : (f : Free)
    → (drop 1 (new_blocks 2 f.chain f.lowest) ≡ next (taken f) ∷ []) × ((taken (taken f)).chain ≡ drop 2 f.chain)
    × ((taken (taken f)).lowest ≡ f.lowest + (2 - length f.chain))
unfolding new_blocks
two-taken f = go f.chain
  where
    go : (c : List ℕ)
        → (drop 1 (new_blocks 2 c f.lowest) ≡ next (taken (with_chain f c)) ∷ [])
        × ((taken (taken (with_chain f c))).chain ≡ drop 2 c) × ((taken (taken (with_chain f c))).lowest ≡ f.lowest + (2 - length c))
    go [] = (refl, refl, omega arith)
    go (c ∷ []) = (refl, refl, omega arith)
    go (c ∷ d ∷ cs) = (refl, refl, omega arith)

-- ---- the changes that calls make

pub kept : (t : Tree) → KeepsBlocks t t
unfolding times
kept t = record { details = λ b. omega arith; indexes = λ b. omega arith; chain = refl; lowest = refl }

pub none-taken : (t : Tree) → Takes 0 0 t t
unfolding times new_blocks
none-taken t = record { details = λ b. omega arith; indexes = λ b. omega arith; chain = refl; lowest = omega arith }

module _ (a : Place) (f : Free) where
  -- its section's leaves change
  same_index : (ls : List Leaf) (b : ℕ) → times b (indexes_in (a.before ++ (sec a.index ls ∷ a.behind))) ≡ times b (indexes_in (tree_of a))
  same_index ls b = indexes-with b a.before (sec a.index ls) (sec a.index (olds a)) a.behind refl

  -- the records of a block change
  module _ (m : Leaf) (e : m.block ≡ a.leaf.block) where
    same-details : (b : ℕ) → times b (leaf_blocks (lay.leaves_in (tree_with a (m ∷ [])))) ≡ times b (leaf_blocks (lay.leaves_in (tree_of a)))
    unfolding leaf_blocks
    same-details b = details-with b a (m ∷ []) ∙ ap (λ (i : ℕ). times b (i ∷ []) + others b a) e ∙ sym (details-with b a (a.leaf ∷ []))

    same-indexes : (b : ℕ) → times b (indexes_in (tree_with a (m ∷ []))) ≡ times b (indexes_in (tree_of a))
    same-indexes b = same_index (a.low ++ (m ∷ a.high)) b

    pub kept_block : KeepsBlocks (tree_in (tree_of a) f) (tree_in (tree_with a (m ∷ [])) f)
    unfolding times
    kept_block = record { details = λ b. omega (arith, same-details b); indexes = λ b. omega (arith, same-indexes b); chain = refl; lowest = refl }

    pub none-new : Takes 0 0 (tree_in (tree_of a) f) (tree_in (tree_with a (m ∷ [])) f)
    unfolding times new_blocks
    none-new = record { details = λ b. omega (arith, same-details b); indexes = λ b. omega (arith, same-indexes b); chain = refl; lowest = omega arith }

  -- a block becomes two, the second the next free one; and so does its index block
  module _ (m n : Leaf) (e : m.block ≡ a.leaf.block) (new : n.block ≡ next f) where
    more-details : (ss : List Section) → leaves_in ss ≡ (leaves_in a.before ++ a.low) ++ ((m ∷ (n ∷ [])) ++ (a.high ++ leaves_in a.behind))
        → (b : ℕ) → times b (leaf_blocks (lay.leaves_in ss)) ≡ times b (new_blocks 1 f.chain f.lowest) + times b (leaf_blocks (lay.leaves_in (tree_of a)))
    unfolding leaf_blocks times
    more-details ss is b =
        let one : (i j : ℕ) → i ≡ j → times b (i ∷ []) ≡ times b (j ∷ []) = λ i j. ap (λ (k : ℕ). times b (k ∷ [])) in
        omega (arith, details-in b ss a (m ∷ (n ∷ [])) is, details-with b a (a.leaf ∷ []), ap (times b) (one-taken f).0, one _ _ e, one _ _ new)

    pub one-new : Takes 1 0 (tree_in (tree_of a) f) (tree_in (tree_with a (m ∷ (n ∷ []))) (taken f))
    unfolding times
    one-new = record {
      details = more-details (tree_with a (m ∷ (n ∷ []))) (simp (leaves_in-append, append_assoc));
      indexes = λ b. omega (arith, same_index (a.low ++ (m ∷ (n ∷ a.high))) b, ap (λ (z : List ℕ). times b (drop 1 z)) (one-taken f).0);
      chain = (one-taken f).1;
      lowest = (one-taken f).2;
    }

    pub two-new : (us zs : List Leaf) → us ++ zs ≡ a.low ++ (m ∷ (n ∷ a.high))
        → Takes 1 1 (tree_in (tree_of a) f) (tree_in (a.before ++ (sec a.index us ∷ (sec (next (taken f)) zs ∷ a.behind))) (taken (taken f)))
    unfolding times indexes_in
    two-new us zs joined =
        let new : List Section = sec a.index us ∷ (sec (next (taken f)) zs ∷ a.behind) in
        let behind : List Leaf = leaves_in a.behind in
        let here : us ++ (zs ++ behind) ≡ a.low ++ ((m ∷ (n ∷ [])) ++ (a.high ++ behind))
        = sym (append_assoc us zs behind) ∙ ap (λ (z : List Leaf). z ++ behind) joined ∙ append_assoc a.low (m ∷ (n ∷ a.high)) behind in
        record {
          details = more-details (a.before ++ new)
              (leaves_in-append a.before new ∙ ap (λ (z : List Leaf). leaves_in a.before ++ z) here ∙ sym (append_assoc (leaves_in a.before) a.low _));
          indexes = λ b. omega (
            arith,
            index-times b a.before new,
            index-times b a.before (sec a.index (olds a) ∷ a.behind),
            ap (times b) (two-taken f).0,
          );
          chain = (two-taken f).1;
          lowest = (two-taken f).2;
        }

  -- a block is freed, its leaves being what is left of the section's; and its index block where it was the only one
  pub one-freed : (ls : List Leaf) → leaf_blocks ls ≡ leaf_blocks (a.low ++ a.high)
      → Frees (a.leaf.block ∷ []) [] (tree_in (tree_of a) f) (tree_in (a.before ++ (sec a.index ls ∷ a.behind)) (with_chain f (a.leaf.block ∷ f.chain)))
  unfolding times leaf_blocks
  one-freed ls e = record {
    details = λ b. omega (
      arith,
      section-times b a.before a.index (olds a) a.behind,
      section-times b a.before a.index ls a.behind,
      one_less b,
    );
    indexes = λ b. omega (arith, same_index ls b);
    chain = refl;
    lowest = refl;
  }
    where
      one_less : (b : ℕ) → times b (leaf_blocks (olds a)) ≡ times b (a.leaf.block ∷ []) + times b (leaf_blocks ls)
      one_less b = rw (e, blocks-append a.low a.high, blocks-append a.low (a.leaf ∷ a.high)) (simp times-append (omega arith))

  pub two-freed : a.low ≡ [] → a.high ≡ []
      → Frees (a.leaf.block ∷ []) (a.index ∷ []) (tree_in (tree_of a) f)
      (tree_in (a.before ++ a.behind) (with_chain f (a.index ∷ (a.leaf.block ∷ f.chain))))
  unfolding times leaf_blocks indexes_in
  two-freed el eh = record {
    details = λ b. omega (arith, section-times b a.before a.index (olds a) a.behind, no-section b a.before a.behind, only b);
    indexes = λ b. omega (arith, index-times b a.before a.behind, index-times b a.before (sec a.index (olds a) ∷ a.behind));
    chain = refl;
    lowest = refl;
  }
    where
      only : (b : ℕ) → times b (leaf_blocks (olds a)) ≡ times b (a.leaf.block ∷ [])
      only b = rw (el, eh)
