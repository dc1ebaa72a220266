-- 070002 by its reasons, and that an NSERT of another key leaves a tree in which they still hold.
use Prim.Native.Nat.{ℕ, ◌+◌, ◌-◌, ◌≤◌, ◌<◌}
use mathlib.Core.Bool.{Bool, true, false, cond, ◌&&◌}
use mathlib.Core.Logic.{◌⊎◌, inl, inr}
use mathlib.Core.Path.{◌≡◌, refl, sym, ap, ◌∙◌}
use mathlib.Core.List.{List, [], ◌∷◌, ◌++◌}
use native.Mathlib.Omega.{arith}
use native.Mathlib.Decide.{ℕ_discrete}
use lib.Dec.{leb, ltb, eqb}
use lib.ListN.{length, length-append}
use borrow.Author.Tests.{ltb-false, leb-false}
use Rattle.numbers.specs.Numbers.{done, not_found, no_room, none_free}
use Rattle.words.specs.Keys.{key_lt}
use Rattle.drum.specs.declared.Description.{Description}
use Rattle.drum.specs.Params.{D, I}
use Rattle.layout.specs.Tree.{Leaf, Section, Tree, bound_of}
use Rattle.layout.specs.Tree as lay
use Rattle.rules.specs.Nsert.{half_count}
use Rattle.demands.specs.History.{with_key}
use Rattle.demands.specs.Contents.{records_below}
use Rattle.demands.specs.Storing.{free_blocks, stored_in, placing, section_for, block_for, if_none, nsert_number}
use Rattle.demands.proofs.Holds.{Free, last_bound}
use Rattle.demands.proofs.Steps.{sec, with_rows}
use Rattle.demands.proofs.Places.{Place, tree_of, tree_with, olds, last_bound-append}
use Rattle.demands.proofs.Reader.{bound-last}
use Rattle.demands.proofs.Frees.{taken}
use Rattle.demands.proofs.Placing.{place_none}
use Rattle.demands.proofs.Moves.{tree_in}

-- ---- the number 070002, by its reasons

stored_some : (p : Description) (n free : ℕ) → stored_in p n free ≡ no_room → ⊥
unfolding stored_in
stored_some p n free = go (eqb n (D p) && eqb free 0)
  where
    go : (t : Bool) → cond t none_free done ≡ no_room → ⊥
    go true e = omega arith
    go false e = omega arith

abbrev Reasons : Description → ℕ → ℕ → ℕ → ℕ → Tree → Type 0
Reasons p most entries n m t = (most ≤ n) × ((free_blocks p t ≡ 0) ⊎ ((entries ≤ m) × ((free_blocks p t ≡ 1) ⊎ (p.control ≤ length t.sections))))

module _ (p : Description) (most entries there n m : ℕ) (t : Tree) where
  reasons : placing p most entries there n m t ≡ no_room → Reasons p most entries n m t
  unfolding placing
  reasons = go (ltb n most) refl (ltb m entries) refl (leb 1 (free_blocks p t)) refl (leb 2 (free_blocks p t)) refl (ltb (length t.sections) p.control) refl
    where
      go : (a : Bool) → ltb n most ≡ a → (b : Bool) → ltb m entries ≡ b → (c : Bool) → leb 1 (free_blocks p t) ≡ c → (d : Bool) → leb 2 (free_blocks p t) ≡ d
          → (e : Bool) → ltb (length t.sections) p.control ≡ e
          → cond a (stored_in p (n + 1) (free_blocks p t))
          (cond b (cond c (stored_in p there (free_blocks p t - 1)) no_room) (cond (d && e) (stored_in p there (free_blocks p t - 2)) no_room)) ≡ no_room
          → Reasons p most entries n m t
      go true qa b qb c qc d qd e qe z = absurd (stored_some p _ _ z)
      go false qa true qb true qc d qd e qe z = absurd (stored_some p _ _ z)
      go false qa true qb false qc d qd e qe z = (ltb-false n most qa, inl (omega (arith, leb-false 1 (free_blocks p t) qc)))
      go false qa false qb c qc true qd true qe z = absurd (stored_some p _ _ z)
      go false qa false qb c qc true qd false qe z = (ltb-false n most qa, inr (ltb-false m entries qb, inr (ltb-false _ _ qe)))
      go false qa false qb c qc false qd e qe z = (ltb-false n most qa, few (ℕ_discrete (free_blocks p t) 0))
        where
          few : Dec (free_blocks p t ≡ 0) → (free_blocks p t ≡ 0) ⊎ ((entries ≤ m) × ((free_blocks p t ≡ 1) ⊎ (p.control ≤ length t.sections)))
          few (yes o) = inl o
          few (no o) = inr (ltb-false m entries qb, inl (omega (arith, leb-false 2 (free_blocks p t) qd)))

-- a key is stuck in a tree: the block that covers it is full, and too few blocks are free, or its index block is full and a second block or a
-- section is lacking
abbrev pub StuckIn : Description → List ℕ → Tree → Type 0
StuckIn p x t =
    let leaves = section_for x t.sections in
    Reasons p (D p) (I p) (length (block_for x leaves)) (length leaves) t

module _ (p : Description) (x : List ℕ) (t : Tree) where
  pub stuck-by : nsert_number p x t ≡ no_room → (with_key p x (lay.contents t) ≡ []) × StuckIn p x t
  unfolding nsert_number if_none
  stuck-by = go (with_key p x (lay.contents t))
    where
      go : (z : List (List ℕ))
          → if_none z (placing p (D p) (I p) (half_count (D p) (length (records_below p x (block_for x (section_for x t.sections)))))
          (length (block_for x (section_for x t.sections))) (length (section_for x t.sections)) t) not_found ≡ no_room
          → (z ≡ []) × StuckIn p x t
      go [] e = (refl, reasons p (D p) (I p) _ _ _ t e)
      go (y ∷ ys) e = absurd (omega arith)

  pub by-stuck : with_key p x (lay.contents t) ≡ [] → StuckIn p x t → nsert_number p x t ≡ no_room
  unfolding nsert_number if_none
  by-stuck e s = rw e (place_none p (D p) (I p) _ _ _ t s.0 s.1)

-- ---- a section, and a block, that is another with the same bound

module _ (x : List ℕ) where
  section-swap : (bs : List Section) (s u : Section) (cs : List Section) → bound_of s.leaves ≡ bound_of u.leaves
      → (section_for x (bs ++ (s ∷ cs)) ≡ section_for x (bs ++ (u ∷ cs))) ⊎
      ((section_for x (bs ++ (s ∷ cs)) ≡ s.leaves) × (section_for x (bs ++ (u ∷ cs)) ≡ u.leaves))
  unfolding section_for
  section-swap [] s u cs e = rw (← e) (go (key_lt (bound_of s.leaves) x))
    where
      go : (t : Bool)
          → (cond t (section_for x cs) s.leaves ≡ cond t (section_for x cs) u.leaves)
          ⊎ ((cond t (section_for x cs) s.leaves ≡ s.leaves) × (cond t (section_for x cs) u.leaves ≡ u.leaves))
      go true = inl refl
      go false = inr (refl, refl)
  section-swap (b ∷ bs) s u cs e = go (key_lt (bound_of b.leaves) x) (section-swap bs s u cs e)
    where
      go : (t : Bool)
          → (section_for x (bs ++ (s ∷ cs)) ≡ section_for x (bs ++ (u ∷ cs)))
          ⊎ ((section_for x (bs ++ (s ∷ cs)) ≡ s.leaves) × (section_for x (bs ++ (u ∷ cs)) ≡ u.leaves))
          → (cond t (section_for x (bs ++ (s ∷ cs))) b.leaves ≡ cond t (section_for x (bs ++ (u ∷ cs))) b.leaves)
          ⊎ ((cond t (section_for x (bs ++ (s ∷ cs))) b.leaves ≡ s.leaves) × (cond t (section_for x (bs ++ (u ∷ cs))) b.leaves ≡ u.leaves))
      go true z = z
      go false z = inl refl

  block-swap : (bs : List Leaf) (l m : Leaf) (cs : List Leaf) → l.bound ≡ m.bound
      → (block_for x (bs ++ (l ∷ cs)) ≡ block_for x (bs ++ (m ∷ cs))) ⊎ ((block_for x (bs ++ (l ∷ cs)) ≡ l.records) × (block_for x (bs ++ (m ∷ cs)) ≡ m.records))
  unfolding block_for
  block-swap [] l m cs e = rw (← e) (go (key_lt l.bound x))
    where
      go : (t : Bool)
          → (cond t (block_for x cs) l.records ≡ cond t (block_for x cs) m.records)
          ⊎ ((cond t (block_for x cs) l.records ≡ l.records) × (cond t (block_for x cs) m.records ≡ m.records))
      go true = inl refl
      go false = inr (refl, refl)
  block-swap (b ∷ bs) l m cs e = go (key_lt b.bound x) (block-swap bs l m cs e)
    where
      go : (t : Bool)
          → (block_for x (bs ++ (l ∷ cs)) ≡ block_for x (bs ++ (m ∷ cs)))
          ⊎ ((block_for x (bs ++ (l ∷ cs)) ≡ l.records) × (block_for x (bs ++ (m ∷ cs)) ≡ m.records))
          → (cond t (block_for x (bs ++ (l ∷ cs))) b.records ≡ cond t (block_for x (bs ++ (m ∷ cs))) b.records)
          ⊎ ((cond t (block_for x (bs ++ (l ∷ cs))) b.records ≡ l.records) × (cond t (block_for x (bs ++ (m ∷ cs))) b.records ≡ m.records))
      go true z = z
      go false z = inl refl

-- ---- the trees after NSERT of another key

module _ (p : Description) (x : List ℕ) (a : Place) where
  same-bound : (ls : List Leaf) → ((d : List ℕ) → last_bound d ls ≡ a.leaf.bound) → bound_of (olds a) ≡ bound_of (a.low ++ (ls ++ a.high))
  same-bound ls e =
      bound-last (olds a) ∙ last_bound-append [] a.low (a.leaf ∷ a.high) ∙ ap (λ (d : List ℕ). last_bound d a.high) (sym (e (last_bound [] a.low)))
      ∙ sym (last_bound-append (last_bound [] a.low) ls a.high) ∙ sym (last_bound-append [] a.low (ls ++ a.high))
      ∙ sym (bound-last (a.low ++ (ls ++ a.high)))

  same-sections : (ls : List Leaf) → length (tree_of a) ≡ length (tree_with a ls)
  same-sections ls = length-append a.before _ ∙ sym (length-append a.before _)

  -- the block of the other key had room
  pub stuck-room : (rs : List (List ℕ)) (f : Free) → length a.leaf.records < D p → StuckIn p x (tree_in (tree_of a) f)
      → StuckIn p x (tree_in (tree_with a (with_rows p a.leaf rs ∷ [])) f)
  stuck-room rs f less s =
      go (section-swap x a.before (sec a.index (olds a)) (sec a.index (a.low ++ (l ∷ a.high))) a.behind (same-bound (l ∷ []) (λ d. refl)))
    where
      l : Leaf
      l = with_rows p a.leaf rs

      more : (n m : ℕ) → Reasons p (D p) (I p) n m (tree_in (tree_of a) f) → Reasons p (D p) (I p) n m (tree_in (tree_with a (l ∷ [])) f)
      more n m (c, inl z) = (c, inl z)
      more n m (c, inr (i, inl z)) = (c, inr (i, inl z))
      more n m (c, inr (i, inr z)) = (c, inr (i, inr (rw (← same-sections (l ∷ [])) z)))

      there : (block_for x (olds a) ≡ block_for x (a.low ++ (l ∷ a.high)))
          ⊎ ((block_for x (olds a) ≡ a.leaf.records) × (block_for x (a.low ++ (l ∷ a.high)) ≡ rs))
          → Reasons p (D p) (I p) (length (block_for x (olds a))) (length (olds a)) (tree_in (tree_of a) f)
          → Reasons p (D p) (I p) (length (block_for x (a.low ++ (l ∷ a.high)))) (length (a.low ++ (l ∷ a.high))) (tree_in (tree_with a (l ∷ [])) f)
      there (inl e) z = rw (← e, length-append a.low (l ∷ a.high)) (rw (length-append a.low (a.leaf ∷ a.high)) at (more _ _ z))
      there (inr (e, g)) z = absurd (omega (arith, z.0, ap length e))

      go : (section_for x (tree_of a) ≡ section_for x (tree_with a (l ∷ [])))
          ⊎ ((section_for x (tree_of a) ≡ olds a) × (section_for x (tree_with a (l ∷ [])) ≡ a.low ++ (l ∷ a.high)))
          → StuckIn p x (tree_in (tree_with a (l ∷ [])) f)
      go (inl e) = rw (← e) (more _ _ s)
      go (inr (e, g)) = rw g (there (block-swap x a.low a.leaf l a.high refl) (rw e at s))

  -- it was full, and its index block had room: then the key is in another section
  pub stuck-split : (l₁ l₂ : Leaf) (f : Free) → l₂.bound ≡ a.leaf.bound → length (olds a) < I p → 1 ≤ free_blocks p (tree_in (tree_of a) f)
      → free_blocks p (tree_in (tree_with a (l₁ ∷ (l₂ ∷ []))) (taken f)) ≡ free_blocks p (tree_in (tree_of a) f) - 1
      → StuckIn p x (tree_in (tree_of a) f) → StuckIn p x (tree_in (tree_with a (l₁ ∷ (l₂ ∷ []))) (taken f))
  stuck-split l₁ l₂ f e less some fewer s =
      go (section-swap x a.before (sec a.index (olds a)) (sec a.index (a.low ++ (l₁ ∷ (l₂ ∷ a.high)))) a.behind
      (same-bound (l₁ ∷ (l₂ ∷ [])) (λ d. e)))
    where
      more : (n m : ℕ) → Reasons p (D p) (I p) n m (tree_in (tree_of a) f) → Reasons p (D p) (I p) n m (tree_in (tree_with a (l₁ ∷ (l₂ ∷ []))) (taken f))
      more n m (c, inl z) = absurd (omega arith)
      more n m (c, inr (i, inl z)) = (c, inl (omega arith))
      more n m (c, inr (i, inr z)) = (c, inr (i, inr (rw (← same-sections (l₁ ∷ (l₂ ∷ []))) z)))

      full : (m : ℕ) (n : ℕ) → Reasons p (D p) (I p) n m (tree_in (tree_of a) f) → I p ≤ m
      full m n (c, inl z) = absurd (omega arith)
      full m n (c, inr (i, z)) = i

      go : (section_for x (tree_of a) ≡ section_for x (tree_with a (l₁ ∷ (l₂ ∷ []))))
          ⊎ ((section_for x (tree_of a) ≡ olds a) × (section_for x (tree_with a (l₁ ∷ (l₂ ∷ []))) ≡ a.low ++ (l₁ ∷ (l₂ ∷ a.high))))
          → StuckIn p x (tree_in (tree_with a (l₁ ∷ (l₂ ∷ []))) (taken f))
      go (inl q) = rw (← q) (more _ _ s)
      go (inr (q, g)) = absurd (omega (arith, full _ _ s, ap length q))

-- its index block was full too: no key was stuck
pub not-both : (p : Description) (x : List ℕ) (t : Tree) → 2 ≤ free_blocks p t → length t.sections < p.control → StuckIn p x t → ⊥
not-both p x t two c (b, inl z) = omega arith
not-both p x t two c (b, inr (i, inl z)) = omega arith
not-both p x t two c (b, inr (i, inr z)) = omega arith
