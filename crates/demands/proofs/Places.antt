-- A place in a held tree: a leaf with all that stands before and behind it. Its two blocks, its rows, and its share of the contents.
use Prim.Native.Nat.{ℕ, suc, ◌+◌, ◌≤◌, ◌<◌}
use mathlib.Core.Bool.{Bool, true, false, ◌&&◌}
use mathlib.Core.Logic.{◌≢◌}
use mathlib.Core.Path.{◌≡◌, refl, sym, ap, ◌∙◌, subst}
use mathlib.Core.List.{List, [], ◌∷◌, ◌++◌, map, append_assoc, append-nil}
use native.Mathlib.Omega.{arith}
use lib.Dec.{leb}
use lib.ListN.{length}
use borrow.Author.Tests.{leb-true}
use Rattle.drum.specs.declared.Description.{Description}
use Rattle.drum.specs.Params.{detail_shape}
use Rattle.demands.proofs.Lists.{map-append}
use Rattle.demands.proofs.Order.{Asc, from, hit, ins, upd, del, asc-ins}
use Rattle.demands.proofs.Cells.{Cell, bit, is, is-self, weigh, weigh-append, weigh-cons, weigh-nil, cell_times, Agree, agree_same}
use Rattle.layout.specs.Tree.{Leaf, Section}
use Rattle.demands.proofs.Trees.{leaves_in, leaves_in-append, records_in, key, bd, reach, Ranged, reach-append, table, leaf_cell, index_text, cells_of}
use Rattle.demands.proofs.Trees.{cells-append}
use Rattle.demands.proofs.Holds.{Free, HoldsCells, LeafFits, SectionOk, inside, inside-le, free_cells, master_entry, master_for, last_bound}
use Rattle.demands.proofs.Steps.{sec, section-ok, leaves-ranged, leaves-ok}
use Rattle.demands.proofs.Locate.{hit-part, from-part, ins-part, upd-part, del-part}

pub record Place : Type 0 where
  pub before : List Section
  pub index : ℕ
  pub low : List Leaf
  pub leaf : Leaf
  pub high : List Leaf
  pub behind : List Section

-- the tree with other leaves at the place, and as it is
abbrev pub tree_with : Place → List Leaf → List Section
tree_with a ls = a.before ++ (sec a.index (a.low ++ (ls ++ a.high)) ∷ a.behind)

abbrev pub tree_of : Place → List Section
tree_of a = tree_with a (a.leaf ∷ [])

-- the leaves of the section
abbrev pub olds : Place → List Leaf
olds a = a.low ++ (a.leaf ∷ a.high)

-- where the leaf's keys start, and where they end
abbrev pub lo : Description → Place → ℕ
lo p a = reach p.k (reach p.k 0 (leaves_in a.before)) a.low

abbrev pub hi : Description → Place → ℕ
hi p a = suc (bd p.k a.leaf)

-- block b is the leaf of a place
pub record Spot (ss : List Section) (b : ℕ) : Type 0 where
  pub place : Place
  pub is : ss ≡ tree_of place
  pub block : place.leaf.block ≡ b

pub inside-low : (n b : ℕ) → 1 ≤ inside n b → (1 ≤ b) × (b ≤ n)
unfolding inside
inside-low n b h = go (leb 1 b) (leb b n) refl refl h
  where
    go : (t u : Bool) → leb 1 b ≡ t → leb b n ≡ u → 1 ≤ bit (t && u) → (1 ≤ b) × (b ≤ n)
    go true true e g l = (leb-true 1 b e, leb-true b n g)
    go true false e g l = absurd (omega arith)
    go false u e g l = absurd (omega arith)

agree-ext : (text text' : ℕ → List ℕ) (cs : List Cell) → ((b : ℕ) → 1 ≤ cell_times b cs → text' b ≡ text b) → Agree text cs → Agree text' cs
unfolding cell_times weigh
agree-ext text text' [] e h = tt
agree-ext text text' (c ∷ cs) e h = (e c.0 (omega (arith, is-self c.0)) ∙ h.0, agree-ext text text' cs (λ b l. e b (omega arith)) h.1)

-- a held tree depends on the texts of the blocks 1..N, and on nothing else
pub holds-ext : (p : Description) (master : List ℕ) (text text' : ℕ → List ℕ) (ss : List Section) (f : Free) → ((b : ℕ) → 1 ≤ b → b ≤ p.n → text' b ≡ text b)
    → HoldsCells p master text ss f → HoldsCells p master text' ss f
holds-ext p master text text' ss f e h = record {
  master-is = h.master-is;
  agree =
      agree-ext text text' (cells_of p ss ++ free_cells p f) (λ b l. let i = inside-low p.n b (omega (arith, h.once b)) in e b i.0 i.1)
      h.agree;
  once = h.once;
  ranged = h.ranged;
  top = h.top;
  sized = h.sized;
  sections = h.sections;
  numbers = h.numbers;
}

-- ---- the cells of a place

one-section : (p : Description) (w : Cell → ℕ) (ib : ℕ) (ls : List Leaf) (ss : List Section) → weigh w (cells_of p (sec ib ls ∷ ss))
    ≡ w (ib, index_text p ls) + (weigh w (map (leaf_cell p) ls) + weigh w (cells_of p ss))
unfolding cells_of
one-section p w ib ls ss = simp (weigh-append, weigh-cons) (omega arith)

-- both blocks of a place are in the tree
pub cells_in : (p : Description) (a : Place) (b : ℕ) → is a.index b + is a.leaf.block b ≤ cell_times b (cells_of p (tree_of a))
unfolding cell_times
cells_in p a b =
    simp (cells-append, one-section, map-append, weigh-append, weigh-cons) (omega (arith, leaf))
  where
    leaf : is (leaf_cell p a.leaf).0 b ≡ is a.leaf.block b
    leaf = unfold leaf_cell in refl

module _ (p : Description) (a : Place) (f : Free) where
  rest : List Cell
  rest =
      cells_of p a.before ++
      (map (leaf_cell p) a.low ++ (map (leaf_cell p) a.high ++ (cells_of p a.behind ++ free_cells p f)))

  cells-here : (w : Cell → ℕ)
      → weigh w (cells_of p (tree_of a) ++ free_cells p f) ≡ weigh w ((a.index, index_text p (olds a)) ∷ (leaf_cell p a.leaf ∷ rest))
  unfolding rest
  cells-here w = simp (cells-append, one-section, map-append, weigh-append, weigh-cons, weigh-nil) (omega arith)

  module _ (master : List ℕ) (text : ℕ → List ℕ) (h : HoldsCells p master text (tree_of a) f) where
    here-agree : Agree text ((a.index, index_text p (olds a)) ∷ (leaf_cell p a.leaf ∷ rest))
    here-agree = agree_same text _ _ cells-here h.agree

    here-once : (b : ℕ) → is a.index b + (is a.leaf.block b + cell_times b rest) ≡ inside p.n b
    unfolding cell_times weigh leaf_cell
    here-once b = sym (cells-here (λ c. is c.0 b)) ∙ h.once b

    pub index-text : text a.index ≡ index_text p (olds a)
    index-text = here-agree.0

    pub leaf-text : text a.leaf.block ≡ table (detail_shape p) p.wpb a.leaf.records
    unfolding leaf_cell
    leaf-text = here-agree.1.0

    pub index_in : (1 ≤ a.index) × (a.index ≤ p.n)
    index_in = inside-low p.n a.index (omega (arith, here-once a.index, is-self a.index))

    pub leaf-in : (1 ≤ a.leaf.block) × (a.leaf.block ≤ p.n)
    leaf-in = inside-low p.n a.leaf.block (omega (arith, here-once a.leaf.block, is-self a.leaf.block))

    pub index-not-leaf : a.leaf.block ≢ a.index
    index-not-leaf e =
        omega
        (arith, here-once a.index, is-self a.index, subst (λ (b : ℕ). is b a.index ≡ 1) (sym e) (is-self a.index), inside-le p.n a.index)

    -- ---- sizes and order

    pub sec-ok : SectionOk p (sec a.index (olds a))
    sec-ok = section-ok p a.before a.index a.low (a.leaf ∷ []) a.high a.behind f master text h

    pub leaf-ok : LeafFits p a.leaf
    leaf-ok = (leaves-ok p a.before a.index a.low (a.leaf ∷ []) a.high a.behind f master text h).0

    pub asc-leaf : Asc (key p.k) (lo p a) a.leaf.records (hi p a)
    asc-leaf = (leaves-ranged p a.before a.index a.low (a.leaf ∷ []) a.high a.behind f master text h).0

    -- the contents from a key on that the leaf covers
    pub from-here : (x : ℕ) → lo p a ≤ x → x ≤ hi p a
        → from (key p.k) x (records_in (leaves_in (tree_of a))) ≡ from (key p.k) x a.leaf.records ++ records_in (a.high ++ leaves_in a.behind)
    from-here x l u =
        let flat : leaves_in (tree_of a) ≡ (leaves_in a.before ++ a.low) ++ ((a.leaf ∷ []) ++ (a.high ++ leaves_in a.behind))
        = simp (leaves_in-append, append_assoc) in
        ap (λ (s : List Leaf). from (key p.k) x (records_in s)) flat
        ∙ from-part p.k (leaves_in a.before ++ a.low) (a.leaf ∷ []) (a.high ++ leaves_in a.behind) (rw flat at h.ranged) x
        (rw (reach-append p.k 0 (leaves_in a.before) a.low) l) u
        ∙ ap (λ (s : List (List ℕ)). from (key p.k) x s ++ records_in (a.high ++ leaves_in a.behind)) (append-nil a.leaf.records)

    -- ---- what is done at a leaf that covers the key x is done to the contents

    module _ (x : ℕ) (above : lo p a ≤ x) (within : x < hi p a) where
      start : reach p.k 0 (leaves_in a.before ++ a.low) ≤ x
      start = rw (reach-append p.k 0 (leaves_in a.before) a.low) above

      leaves_at_lem : (ls : List Leaf) → leaves_in (tree_with a ls) ≡ (leaves_in a.before ++ a.low) ++ (ls ++ (a.high ++ leaves_in a.behind))
      leaves_at_lem ls = simp (leaves_in-append, append_assoc)

      flat : Ranged p.k 0 ((leaves_in a.before ++ a.low) ++ ((a.leaf ∷ []) ++ (a.high ++ leaves_in a.behind)))
      flat = rw (leaves_at_lem (a.leaf ∷ [])) at h.ranged

      pub hit-here : hit (key p.k) x (records_in (leaves_in (tree_of a))) ≡ hit (key p.k) x a.leaf.records
      hit-here =
          rw (leaves_at_lem (a.leaf ∷ [])) (hit-part p.k (leaves_in a.before ++ a.low) (a.leaf ∷ []) (a.high ++ leaves_in a.behind) flat x start within
          ∙ ap (hit (key p.k) x) (append-nil a.leaf.records))

      module _ (ls : List Leaf) where
        pub ins-here : (r : List ℕ) → key p.k r ≡ x → records_in ls ≡ ins (key p.k) r a.leaf.records
            → records_in (leaves_in (tree_with a ls)) ≡ ins (key p.k) r (records_in (leaves_in (tree_of a)))
        ins-here r e c =
            rw (leaves_at_lem ls, leaves_at_lem (a.leaf ∷ []))
            (ins-part p.k (leaves_in a.before ++ a.low) (a.leaf ∷ []) (a.high ++ leaves_in a.behind) flat ls r (rw e start) (rw e within)
            (c ∙ ap (ins (key p.k) r) (sym (append-nil a.leaf.records))))

        pub upd-here : (r : List ℕ) → key p.k r ≡ x → records_in ls ≡ upd (key p.k) r a.leaf.records
            → records_in (leaves_in (tree_with a ls)) ≡ upd (key p.k) r (records_in (leaves_in (tree_of a)))
        upd-here r e c =
            rw (leaves_at_lem ls, leaves_at_lem (a.leaf ∷ []))
            (upd-part p.k (leaves_in a.before ++ a.low) (a.leaf ∷ []) (a.high ++ leaves_in a.behind) flat ls r (rw e start) (rw e within)
            (c ∙ ap (upd (key p.k) r) (sym (append-nil a.leaf.records))))

        pub del-here : records_in ls ≡ del (key p.k) x a.leaf.records
            → records_in (leaves_in (tree_with a ls)) ≡ del (key p.k) x (records_in (leaves_in (tree_of a)))
        del-here c =
            rw (leaves_at_lem ls, leaves_at_lem (a.leaf ∷ []))
            (del-part p.k (leaves_in a.before ++ a.low) (a.leaf ∷ []) (a.high ++ leaves_in a.behind) flat ls x start within
            (c ∙ ap (del (key p.k) x) (sym (append-nil a.leaf.records))))

      pub asc-new : (r : List ℕ) → key p.k r ≡ x → hit (key p.k) x a.leaf.records ≡ []
          → Asc (key p.k) (lo p a) (ins (key p.k) r a.leaf.records) (hi p a)
      asc-new r e none = asc-ins (key p.k) _ r a.leaf.records _ asc-leaf (rw e above) (rw e within) (rw e none)

-- ---- the last bound of a section, and its master entry

pub last_bound-append : (d : List ℕ) (xs ys : List Leaf) → last_bound d (xs ++ ys) ≡ last_bound (last_bound d xs) ys
last_bound-append d [] ys = refl
last_bound-append d (x ∷ xs) ys = last_bound-append x.bound xs ys

pub last_bound-any : (d e : List ℕ) (ls : List Leaf) → 1 ≤ length ls → last_bound d ls ≡ last_bound e ls
last_bound-any d e [] h = absurd (omega arith)
last_bound-any d e (l ∷ ls) h = refl

-- other leaves that end in the same bound leave the master's words
pub master-same : (p : Description) (a : Place) (f : Free) (ls : List Leaf) → ((d : List ℕ) → last_bound d ls ≡ a.leaf.bound)
    → master_for p (tree_with a ls) f ≡ master_for p (tree_of a) f
unfolding master_for master_entry
master-same p a f ls e = simp (map-append, last_bound-append, e)

-- ---- spots

pub spot_in : (p : Description) (master : List ℕ) (text : ℕ → List ℕ) (ss : List Section) (f : Free) (b : ℕ) → HoldsCells p master text ss f → Spot ss b
    → (1 ≤ b) × (b ≤ p.n)
spot_in p master text ss f b h s = subst (λ (c : ℕ). (1 ≤ c) × (c ≤ p.n)) s.block (leaf-in p s.place f master text (rw s.is at h))

pub spot-cell : (p : Description) (ss : List Section) (b : ℕ) → Spot ss b → 1 ≤ cell_times b (cells_of p ss)
spot-cell p ss b s = rw s.is (omega (arith, cells_in p s.place b, subst (λ (c : ℕ). is c b ≡ 1) (sym s.block) (is-self b)))

pub spot-text : (p : Description) (master : List ℕ) (text : ℕ → List ℕ) (ss : List Section) (f : Free) (b : ℕ) → HoldsCells p master text ss f
    → (s : Spot ss b) → text b ≡ table (detail_shape p) p.wpb s.place.leaf.records
spot-text p master text ss f b h s = ap text (sym s.block) ∙ leaf-text p s.place f _ _ (rw s.is at h)
