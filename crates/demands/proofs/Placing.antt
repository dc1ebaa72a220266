-- The number of a call that stores, by its cases; and the block that covers a key, as the rules find it.
use Prim.Native.Nat.{ℕ, suc, ◌+◌, ◌-◌, ◌≤◌, ◌<◌}
use mathlib.Core.Bool.{Bool, true, false, cond, not, ◌&&◌}
use mathlib.Core.Logic.{◌⊎◌, inl, inr}
use mathlib.Core.Path.{◌≡◌, refl, sym, ap, ◌∙◌}
use mathlib.Core.List.{List, [], ◌∷◌, ◌++◌}
use native.Mathlib.Omega.{arith}
use native.Mathlib.Decide.{dec_lt}
use lib.Dec.{leb, ltb, eqb}
use lib.ListN.{length}
use borrow.Author.Tests.{lt-ltb, le-ltb, le-leb, lt-leb}
use Rattle.numbers.specs.Numbers.{done, no_room, none_free}
use Rattle.words.specs.Words.{all_words}
use Rattle.words.specs.Keys.{key_lt, val}
use Rattle.words.proofs.Values.{key_lt-val}
use Rattle.drum.specs.declared.Description.{Description}
use Rattle.drum.specs.Params.{D}
use Rattle.layout.specs.Tree.{Leaf, Section, Tree, bound_of}
use Rattle.demands.specs.Storing.{free_blocks, stored_in, placing, section_for, block_for}
use Rattle.demands.proofs.Lists.{All}
use Rattle.demands.proofs.Rows.{first_in}
use Rattle.demands.proofs.Trees.{bd}
use Rattle.demands.proofs.Holds.{Free, LeafFits, SectionOk, last_bound}
use Rattle.demands.proofs.Locate.{sec_bd}
use Rattle.demands.proofs.Sound.{Key}
use Rattle.demands.proofs.Frees.{free_count, stored_with}
use Rattle.demands.proofs.Reader.{bound-last}

-- ---- the number by its cases

module _ (p : Description) (most entries there n m : ℕ) (t : Tree) where
  pub place-room : n < most → placing p most entries there n m t ≡ stored_in p (n + 1) (free_blocks p t)
  unfolding placing
  place-room h = rw (lt-ltb n most h)

  pub place-one : most ≤ n → m < entries → 1 ≤ free_blocks p t → placing p most entries there n m t ≡ stored_in p there (free_blocks p t - 1)
  unfolding placing
  place-one h l s = rw (le-ltb n most h, lt-ltb m entries l, le-leb 1 (free_blocks p t) s)

  pub place-two : most ≤ n → entries ≤ m → 2 ≤ free_blocks p t → length t.sections < p.control
      → placing p most entries there n m t ≡ stored_in p there (free_blocks p t - 2)
  unfolding placing
  place-two h l s c = rw (le-ltb n most h, le-ltb m entries l, le-leb 2 (free_blocks p t) s, lt-ltb (length t.sections) p.control c)

  pub place_none : most ≤ n → (free_blocks p t ≡ 0) ⊎ ((entries ≤ m) × ((free_blocks p t ≡ 1) ⊎ (p.control ≤ length t.sections)))
      → placing p most entries there n m t ≡ no_room
  unfolding placing
  place_none h (inl z) = rw (le-ltb n most h) (go (ltb m entries))
    where
      go : (b : Bool) → cond b (cond (leb 1 (free_blocks p t)) (stored_in p there (free_blocks p t - 1)) no_room)
          (cond (leb 2 (free_blocks p t) && ltb (length t.sections) p.control) (stored_in p there (free_blocks p t - 2)) no_room) ≡ no_room
      go true = rw (lt-leb 1 (free_blocks p t) (omega arith))
      go false = rw (lt-leb 2 (free_blocks p t) (omega arith))
  place_none h (inr (l, inl o)) = rw (le-ltb n most h, le-ltb m entries l, lt-leb 2 (free_blocks p t) (omega arith))
  place_none h (inr (l, inr c)) = rw (le-ltb n most h, le-ltb m entries l, le-ltb (length t.sections) p.control c) (go (leb 2 (free_blocks p t)))
    where
      go : (b : Bool) → cond (b && false) (stored_in p there (free_blocks p t - 2)) no_room ≡ no_room
      go true = refl
      go false = refl

pub stored-as : (p : Description) (n free : ℕ) (f : Free) → free ≡ free_count f → stored_in p n free ≡ stored_with p n f
unfolding stored_in
stored-as p n free f e = ap (λ (x : ℕ). cond (eqb n (D p) && eqb x 0) none_free done) e

-- ---- the block that covers the key

under : (a b : ℕ) → ltb a b ≡ not (leb b a)
under a b = go (dec_lt a b)
  where
    go : Dec (a < b) → ltb a b ≡ not (leb b a)
    go (yes h) = rw (lt-ltb a b h, lt-leb b a h)
    go (no n) = rw (le-ltb a b (omega arith), le-leb b a (omega arith))

pub over : (a b : ℕ) → leb (suc a) b ≡ not (leb b a)
over a b = go (dec_lt a b)
  where
    go : Dec (a < b) → leb (suc a) b ≡ not (leb b a)
    go (yes h) = rw (le-leb (suc a) b h, lt-leb b a h)
    go (no n) = rw (lt-leb (suc a) b (omega arith), le-leb b a (omega arith))

-- what a search picks that goes on while a test fails: the value at the first place where it does not
picked : {A B : Type 0} (test : A → Bool) (pick : List A → B) (value : A → B) (P : A → Type 0)
    → ((x : A) (xs : List A) → P x → pick (x ∷ xs) ≡ cond (not (test x)) (pick xs) (value x))
    → (low : List A) (l : A) (high : List A) → All P (low ++ (l ∷ high)) → first_in test (low ++ (l ∷ high)) ≡ length low → pick (low ++ (l ∷ high)) ≡ value l
unfolding first_in
picked {A} {B} test pick value P h [] l high ok e = h l high ok.0 ∙ go (test l) e
  where
    go : (t : Bool) → cond t 0 (suc (first_in test high)) ≡ 0 → cond (not t) (pick high) (value l) ≡ value l
    go true q = refl
    go false q = absurd (omega arith)
picked {A} {B} test pick value P h (m ∷ low) l high ok e = h m _ ok.0 ∙ go (test m) e (picked test pick value P h low l high ok.1)
  where
    rest : List A
    rest = low ++ (l ∷ high)

    go : (t : Bool) → cond t 0 (suc (first_in test rest)) ≡ suc (length low) → (first_in test rest ≡ length low → pick rest ≡ value l)
        → cond (not t) (pick rest) (value m) ≡ value l
    go true q z = absurd (omega arith)
    go false q z = z (omega arith)

module _ (p : Description) (w : List ℕ) (kw : Key p w) where
  pub bound-under : (l : Leaf) → LeafFits p l → key_lt l.bound w ≡ not (leb (val w) (bd p.k l))
  unfolding bd
  bound-under l ok = key_lt-val l.bound w ok.wide kw.wide (ok.bound ∙ sym kw.long) ∙ under (val l.bound) (val w)

  pub block-at : (low : List Leaf) (l : Leaf) (high : List Leaf) → All (LeafFits p) (low ++ (l ∷ high))
      → first_in (λ m. leb (val w) (bd p.k m)) (low ++ (l ∷ high)) ≡ length low → block_for w (low ++ (l ∷ high)) ≡ l.records
  unfolding block_for
  block-at = picked (λ m. leb (val w) (bd p.k m)) (block_for w) (λ m. m.records) (LeafFits p) (λ m ms ok. rw (bound-under m ok))

  -- the last bound of a section
  last_ok : (l : Leaf) (ls : List Leaf) → All (LeafFits p) (l ∷ ls) → (length (last_bound [] (l ∷ ls)) ≡ p.k) × (all_words (last_bound [] (l ∷ ls)) ≡ true)
  last_ok l ls ok = go l.bound ls ok.0.bound ok.0.wide ok.1
    where
      go : (d : List ℕ) (ls : List Leaf) → length d ≡ p.k → all_words d ≡ true → All (LeafFits p) ls
          → (length (last_bound d ls) ≡ p.k) × (all_words (last_bound d ls) ≡ true)
      go d [] b w ok = (b, w)
      go d (m ∷ ls) b w ok = go m.bound ls ok.0.bound ok.0.wide ok.1

  section-under : (s : Section) → SectionOk p s → key_lt (bound_of s.leaves) w ≡ not (leb (val w) (sec_bd p.k s))
  unfolding sec_bd
  section-under s ok = ap (λ (b : List ℕ). key_lt b w) (bound-last s.leaves) ∙ go s.leaves ok.some ok.leaves
    where
      go : (ls : List Leaf) → 1 ≤ length ls → All (LeafFits p) ls → key_lt (last_bound [] ls) w ≡ not (leb (val w) (val (last_bound [] ls)))
      go [] h ok = absurd (omega arith)
      go (l ∷ ls) h ok = let k = last_ok l ls ok in key_lt-val (last_bound [] (l ∷ ls)) w k.1 kw.wide (k.0 ∙ sym kw.long) ∙ under
          (val (last_bound [] (l ∷ ls))) (val w)

  pub section-at : (bs : List Section) (s : Section) (cs : List Section) → All (SectionOk p) (bs ++ (s ∷ cs))
      → first_in (λ u. leb (val w) (sec_bd p.k u)) (bs ++ (s ∷ cs)) ≡ length bs → section_for w (bs ++ (s ∷ cs)) ≡ s.leaves
  unfolding section_for
  section-at = picked (λ u. leb (val w) (sec_bd p.k u)) (section_for w) (λ u. u.leaves) (SectionOk p) (λ u us ok. rw (section-under u ok))
