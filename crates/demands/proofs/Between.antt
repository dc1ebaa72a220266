-- The place that covers a key below the last leaf's keys: the leaf just before the last one, or one with another leaf between them.
use Prim.Native.Nat.{ℕ, suc, ◌+◌, ◌≤◌, ◌<◌}
use mathlib.Core.Bool.{cond, ◌&&◌}
use mathlib.Core.Logic.{◌⊎◌, inl, inr}
use mathlib.Core.Path.{◌≡◌, refl, sym, ap, ap₂, ◌∙◌, subst}
use mathlib.Core.List.{List, [], ◌∷◌, ◌++◌, append-nil, append_assoc}
use native.Mathlib.Omega.{arith}
use lib.Dec.{eqb}
use lib.ListN.{length, length-append}
use borrow.Author.Tests.{eq-eqb, ne_eqb}
use Rattle.table.specs.Tables.{count}
use Rattle.drum.specs.declared.Description.{Description}
use Rattle.drum.specs.Params.{index_shape}
use Rattle.drum.specs.Blocks.{Texts, text_of}
use Rattle.layout.specs.Tree.{Leaf, Section}
use Rattle.rules.specs.Xtend.{just_before}
use Rattle.demands.proofs.Lists.{All, all_left, all_right, from_end, last-same, front_same}
use Rattle.demands.proofs.Trees.{leaves_in, leaves_in-append, reach, reach-append}
use Rattle.demands.proofs.Holds.{Free, HoldsCells, SectionOk}
use Rattle.demands.proofs.Steps.{sec}
use Rattle.demands.proofs.Places.{Place, tree_of, olds, lo, index-text}
use Rattle.demands.proofs.Blocks.{master_of}
use Rattle.demands.proofs.Entries.{count_index}
use Rattle.demands.proofs.Paths.{path_of}
use Rattle.demands.proofs.Last.{ending}

-- the leaves before a place, and behind it
abbrev pub leaves_before : Place → List Leaf
leaves_before a = leaves_in a.before ++ a.low

abbrev pub leaves_behind : Place → List Leaf
leaves_behind a = a.high ++ leaves_in a.behind

pub leaves_of_lem : (a : Place) → leaves_in (tree_of a) ≡ leaves_before a ++ (a.leaf ∷ leaves_behind a)
leaves_of_lem a = simp (leaves_in-append, append_assoc)

pub start_of : (p : Description) (a : Place) → reach p.k 0 (leaves_before a) ≡ lo p a
start_of p a = reach-append p.k 0 (leaves_in a.before) a.low

-- one leaf more before the end
snoc-leaf : (xs : List Leaf) (x : Leaf) (ys : List Leaf) (y : Leaf) → xs ++ (x ∷ (ys ++ y ∷ [])) ≡ (xs ++ (x ∷ ys)) ++ y ∷ []
snoc-leaf xs x ys y = sym (append_assoc xs (x ∷ ys) (y ∷ []))

-- a place that starts below the last one has a leaf behind it
pub behind-some : (p : Description) (a : Place) (bs : List Section) (ib : ℕ) (low : List Leaf) (l : Leaf) → tree_of a ≡ tree_of (ending bs ib low l)
    → lo p a < lo p (ending bs ib low l) → 1 ≤ length (leaves_behind a)
behind-some p a bs ib low l e less = go (leaves_behind a) refl
  where
    z : Place
    z = ending bs ib low l

    go : (ls : List Leaf) → leaves_behind a ≡ ls → 1 ≤ length ls
    go (m ∷ ms) q = omega arith
    go [] q =
        let same : leaves_before a ++ (a.leaf ∷ []) ≡ leaves_before z ++ (l ∷ [])
        = ap (λ (u : List Leaf). leaves_before a ++ (a.leaf ∷ u)) (sym q) ∙ sym (leaves_of_lem a) ∙ ap leaves_in e ∙ leaves_of_lem z in
        let r : reach p.k 0 (leaves_before a) ≡ reach p.k 0 (leaves_before z)
        = ap (reach p.k 0) (front_same (leaves_before a) a.leaf (leaves_before z) l same) in
        absurd (omega (arith, start_of p a, start_of p z))

module _ (v : Texts) (f : Free) (a : Place) (bs : List Section) (ib : ℕ) (low : List Leaf) (l : Leaf)
    (h : HoldsCells v.desc (master_of v.desc v.file) (text_of v) (tree_of a) f)
    (e : tree_of a ≡ tree_of (ending bs ib low l)) (less : lo v.desc a < lo v.desc (ending bs ib low l)) where
  abbrev p : Description
  p = v.desc

  abbrev z : Place
  z = ending bs ib low l

  -- "the one before the last block": nothing stands between
  pub record Near : Type 0 where
    pub between : List Leaf
    pub behind-is : leaves_behind a ≡ between ++ (l ∷ [])
    pub just : just_before v (path_of a) (path_of (ending bs ib low l)) ≡ eqb (length between) 0

  leaves-counted : count (index_shape v.desc) (text_of v a.index) ≡ length (olds a)
  leaves-counted = ap (count (index_shape p)) (index-text p a f _ _ h) ∙ count_index p (olds a)

  -- in the last section
  in-last : a.behind ≡ [] → Near
  unfolding just_before
  in-last g = go (from_end a.high)
    where
      same : a.before ++ (sec a.index (olds a) ∷ []) ≡ bs ++ (sec ib (low ++ (l ∷ [])) ∷ [])
      same = ap (λ (u : List Section). a.before ++ (sec a.index (olds a) ∷ u)) (sym g) ∙ e

      before_same : a.before ≡ bs
      before_same = front_same a.before _ bs _ same

      leaves-same : olds a ≡ low ++ (l ∷ [])
      leaves-same = ap (λ (s : Section). s.leaves) (last-same a.before _ bs _ same)

      go : (a.high ≡ []) ⊎ ((hs : List Leaf) × (m : Leaf) × (a.high ≡ hs ++ m ∷ [])) → Near
      go (inl n) =
          absurd (omega (
            arith,
            behind-some p a bs ib low l e less,
            ap₂ (λ (u : List Leaf) (w : List Section). length (u ++ leaves_in w)) n g,
          ))
      go (inr (hs, m, n)) =
          let is : (a.low ++ (a.leaf ∷ hs)) ++ (m ∷ []) ≡ low ++ (l ∷ [])
          = sym (snoc-leaf a.low a.leaf hs m) ∙ ap (λ (u : List Leaf). a.low ++ (a.leaf ∷ u)) (sym n) ∙ leaves-same in
          let low-is : length low ≡ length a.low + suc (length hs)
          = ap length (sym (front_same (a.low ++ (a.leaf ∷ hs)) m low l is)) ∙ length-append a.low (a.leaf ∷ hs) in
          record {
            between = hs;
            behind-is = ap₂ (λ (u : List Leaf) (w : List Section). u ++ leaves_in w) n g ∙ append-nil (hs ++ m ∷ [])
                ∙ ap (λ (u : Leaf). hs ++ u ∷ []) (last-same (a.low ++ (a.leaf ∷ hs)) m low l is);
            just = simp (ne_eqb (length low) 0 (λ q. omega (arith, low-is)), eq-eqb (length a.before) (length bs) (ap length before_same))
                (counts hs low-is);
          }
        where
          counts : (xs : List Leaf) → length low ≡ length a.low + suc (length xs) → eqb (length a.low + 1) (length low) ≡ eqb (length xs) 0
          counts [] q = eq-eqb (length a.low + 1) (length low) (omega (arith, q))
          counts (x ∷ xs) q = ne_eqb (length a.low + 1) (length low) (λ r. omega (arith, q)) ∙ sym (ne_eqb (suc (length xs)) 0 (λ r. omega arith))

  -- in a section before
  in-other : (ds : List Section) (s : Section) → a.behind ≡ ds ++ s ∷ [] → Near
  unfolding just_before
  in-other ds s g = record {
    between = a.high ++ (leaves_in ds ++ low);
    behind-is = ap (λ (u : List Section). a.high ++ leaves_in u) g ∙ ap (λ (u : List Leaf). a.high ++ u) (leaves_in-append ds (s ∷ []) ∙ ap
        (λ (u : List Leaf). leaves_in ds ++ u) (append-nil s.leaves ∙ last-leaves))
        ∙ simp append_assoc;
    just = ap (λ (n : ℕ). cond (eqb (length low) 0)
        (eqb (length a.before + 1) (length bs) && eqb (length a.low + 1) n) (eqb (length a.before) (length bs) && eqb (length a.low + 1)
        (length low)))
        leaves-counted
        ∙ counts low ds a.high before-is refl (λ c cs q. some c cs q);
  }
    where
      same : (a.before ++ (sec a.index (olds a) ∷ ds)) ++ (s ∷ []) ≡ bs ++ (sec ib (low ++ (l ∷ [])) ∷ [])
      same = append_assoc a.before (sec a.index (olds a) ∷ ds) (s ∷ []) ∙ ap (λ (u : List Section). a.before ++ (sec a.index (olds a) ∷ u))
          (sym g) ∙ e

      before-is : length bs ≡ length a.before + suc (length ds)
      before-is = ap length (sym (front_same (a.before ++ (sec a.index (olds a) ∷ ds)) s bs _ same))
          ∙ length-append a.before (sec a.index (olds a) ∷ ds)

      last-leaves : s.leaves ≡ low ++ (l ∷ [])
      last-leaves = ap (λ (u : Section). u.leaves) (last-same (a.before ++ (sec a.index (olds a) ∷ ds)) s bs _ same)

      some : (c : Section) (cs : List Section) → ds ≡ c ∷ cs → 1 ≤ length c.leaves
      some c cs q = (all_left (SectionOk p) (c ∷ cs) (s ∷ []) (subst (λ (u : List Section). All (SectionOk p) u) (g ∙ ap (λ (u : List Section). u ++ s ∷ []) q)
          (all_right (SectionOk p) a.before _ h.sized).1)).0.some

      counts : (ls : List Leaf) (ds : List Section) (hs : List Leaf) → length bs ≡ length a.before + suc (length ds) → a.high ≡ hs
          → ((c : Section) (cs : List Section) → ds ≡ c ∷ cs → 1 ≤ length c.leaves)
          → cond (eqb (length ls) 0) (eqb (length a.before + 1) (length bs) && eqb (length a.low + 1) (length (olds a)))
          (eqb (length a.before) (length bs) && eqb (length a.low + 1) (length ls)) ≡ eqb (length (hs ++ (leaves_in ds ++ ls))) 0
      counts (x ∷ ls) ds hs n eh so =
          simp (ne_eqb (suc (length ls)) 0 (λ r. omega arith), ne_eqb (length a.before) (length bs) (λ r. omega (arith, n)))
          (sym (ne_eqb (length (hs ++ (leaves_in ds ++ x ∷ ls))) 0 (λ r. omega (
            arith,
            length-append hs (leaves_in ds ++ x ∷ ls),
            length-append (leaves_in ds)
                (x ∷ ls),
          ))))
      counts [] (c ∷ cs) hs n eh so =
          simp (ne_eqb (length a.before + 1) (length bs) (λ r. omega (arith, n)))
          (sym (ne_eqb (length (hs ++ (leaves_in (c ∷ cs) ++ []))) 0 (λ r. omega (
            arith,
            so c cs refl,
            length-append hs (leaves_in (c ∷ cs) ++ []),
            ap length (append-nil (leaves_in (c ∷ cs))),
            length-append c.leaves (leaves_in cs),
          ))))
      counts [] [] [] n eh so =
          simp (
            eq-eqb (length a.before + 1) (length bs) (omega (arith, n)),
            eq-eqb (length a.low + 1) (length (olds a)) (omega (arith, length-append a.low (a.leaf ∷ a.high), ap length eh)),
          )
      counts [] [] (x ∷ hs) n eh so =
          simp (
            eq-eqb (length a.before + 1) (length bs) (omega (arith, n)),
            ne_eqb (length a.low + 1) (length (olds a)) (λ r. omega (arith, length-append a.low (a.leaf ∷ a.high), ap length eh)),
          )
          (sym (ne_eqb (suc (length (hs ++ []))) 0 (λ r. omega arith)))

  pub near : Near
  near = go (from_end a.behind)
    where
      go : (a.behind ≡ []) ⊎ ((ds : List Section) × (s : Section) × (a.behind ≡ ds ++ s ∷ [])) → Near
      go (inl g) = in-last g
      go (inr (ds, s, g)) = in-other ds s g
