-- What NSERT answers, of the tree alone.
use Prim.Native.Nat.{ℕ, ◌≤◌}
use mathlib.Core.Logic.{◌⊎◌, inl, inr}
use mathlib.Core.Path.{◌≡◌, sym, ap, ap₂, ◌∙◌}
use mathlib.Core.List.{List, []}
use native.Mathlib.Omega.{arith}
use lib.Dec.{leb}
use lib.ListN.{length}
use Rattle.numbers.specs.Numbers.{not_found}
use Rattle.words.specs.Keys.{val}
use Rattle.drum.specs.declared.Description.{Description}
use Rattle.drum.specs.Params.{D, I}
use Rattle.drum.proofs.Good.{good-facts}
use Rattle.drum.specs.Blocks.{text_of}
use Rattle.layout.specs.Tree.{Leaf, Section}
use Rattle.layout.specs.Tree as lay
use Rattle.rules.specs.State.{State, desc, texts, key_in}
use Rattle.rules.specs.Nsert.{half_count}
use Rattle.rules.specs.Requests.{inserting, lending, answer}
use Rattle.demands.specs.History.{with_key}
use Rattle.demands.specs.Contents.{records_below}
use Rattle.demands.specs.Answers.{Keyed}
use Rattle.demands.specs.Storing.{free_blocks, placing, section_for, block_for, if_none, nsert_number}
use Rattle.demands.proofs.Lists.{all_right}
use Rattle.demands.proofs.Rows.{first_in}
use Rattle.demands.proofs.Order.{below, hit}
use Rattle.demands.proofs.Trees.{leaves_in, records_in, key, bd}
use Rattle.demands.proofs.Holds.{Free, HoldsCells, SectionOk}
use Rattle.demands.proofs.Steps.{sec}
use Rattle.demands.proofs.Blocks.{master_of}
use Rattle.demands.proofs.Locate.{sec_bd, covered}
use Rattle.demands.proofs.Places.{Place, tree_of, olds, lo, hi, leaf-ok, asc-leaf}
use Rattle.demands.proofs.Sound.{Key, Sound}
use Rattle.demands.proofs.Answers.{Ready, key_of, work-key}
use Rattle.demands.proofs.Reach.{some-leaves}
use Rattle.demands.proofs.Stores.{asc-rows}
use Rattle.demands.proofs.Frees.{free_count, taken, stored_with, taken-count}
use Rattle.demands.proofs.NsertRight.{Belongs, before, Nserted, duplicate, room, split, both, no_room_lem, nsert-right}
use Rattle.demands.proofs.Records.{rows_of, rows_ok}
use Rattle.demands.proofs.Standing.{with-hit}
use Rattle.demands.proofs.Contents.{below-is}
use Rattle.demands.proofs.Answered.{readied}
use Rattle.demands.proofs.Moves.{tree_in}
use Rattle.demands.proofs.Placing.{place-room, place-one, place-two, place_none, stored-as, block-at, section-at}

module _ (st : State) (ss : List Section) (f : Free) (h : Sound st ss f) where
  abbrev p : Description
  p = desc st

  kr : p.k ≤ p.wpr
  kr = (good-facts p h.kept.good).key

  pub free-is : free_blocks p (tree_in ss f) ≡ free_count f
  free-is = omega (arith, h.kept.holds.numbers)

  module _ (w : List ℕ) (ask : Keyed st (desc st).wpr w) where
    r : Ready p.wpr (lending w st) ss f
    r = readied st ss f h p.wpr w ask

    kw : Key p (key_in p w)
    unfolding lending
    kw = key_of p.wpr (lending w st) ss f r kr (omega arith)

    pub with-is : with_key p (key_in p w) (lay.contents (tree_in ss f)) ≡ hit (key p.k) (val (key_in p w)) (records_in (leaves_in ss))
    with-is =
        with-hit p kr (key_in p w) kw 0 (records_in (leaves_in ss)) _ (asc-rows p _ _ ss f h.kept.holds)
        (rows_of p (leaves_in ss) (rows_ok p ss h.kept.holds.sized))

    module _ (a : Place) (B : Belongs (lending w st) ss a) where
      places : (first_in (λ s. leb (val (key_in p w)) (sec_bd p.k s)) (tree_of a) ≡ length a.before)
          × (first_in (λ m. leb (val (key_in p w)) (bd p.k m)) (olds a) ≡ length a.low)
      unfolding lending
      places =
          covered p.k a.before a.index a.low a.leaf a.high a.behind (val (key_in p w))
          (some-leaves p (tree_of a) (rw B.is at h.kept.holds.sized))
          (rw B.is at h.kept.holds.ranged) B.covers.above (omega (arith, B.covers.within))

      pub section-is : section_for (key_in p w) ss ≡ olds a
      section-is =
          ap (section_for (key_in p w)) B.is
          ∙ section-at p (key_in p w) kw a.before (sec a.index (olds a)) a.behind (rw B.is at h.kept.holds.sized) places.0

      pub block-is : block_for (key_in p w) (olds a) ≡ a.leaf.records
      block-is =
          block-at p (key_in p w) kw a.low a.leaf a.high (all_right (SectionOk p) a.before _ (rw B.is at h.kept.holds.sized)).0.leaves
          places.1

      before-is : length (records_below p (key_in p w) a.leaf.records) ≡ before (lending w st) a
      unfolding lending
      before-is =
          let hz : HoldsCells p (master_of p st.file) (text_of (texts st)) (tree_of a) f = rw B.is at h.kept.holds in
          ap length (below-is p kr (key_in p w) kw (lo p a) a.leaf.records (hi p a) (asc-leaf p a f _ _ hz) (leaf-ok p a f _ _ hz).rows
          ∙ ap (λ (x : ℕ). below (key p.k) x a.leaf.records) (sym (work-key p w)))

    abbrev number : List (List ℕ) → List (List ℕ) → List Leaf → ℕ
    number found rows leaves =
        if_none found (placing (desc st) (D (desc st)) (I (desc st)) (half_count (D (desc st)) (length (records_below (desc st) (key_in (desc st) w) rows)))
        (length rows) (length leaves) (tree_in ss f)) not_found

    pub nsert-number : (answer st (inserting w)).number ≡ nsert_number p (key_in p w) (tree_in ss f)
    unfolding answer lending nsert_number if_none
    nsert-number = go (nsert-right (lending w st) ss f r)
      where
        -- the number at a place
        at : (a : Place) (B : Belongs (lending w st) ss a) → hit (key p.k) (val (key_in p w)) (records_in (leaves_in ss)) ≡ []
            → nsert_number p (key_in p w) (tree_in ss f)
            ≡ placing p (D p) (I p) (half_count (D p) (before (lending w st) a)) (length a.leaf.records) (length (olds a)) (tree_in ss f)
        at a B e =
            ap (λ (z : List Leaf). number (with_key p (key_in p w) (lay.contents (tree_in ss f))) (block_for (key_in p w) z) z) (section-is a B)
            ∙ ap₂ (λ (x y : List (List ℕ)). number x y (olds a)) (with-is ∙ e) (block-is a B)
            ∙ ap (λ (n : ℕ). placing p (D p) (I p) (half_count (D p) n) (length a.leaf.records) (length (olds a)) (tree_in ss f)) (before-is a B)

        go : Nserted (lending w st) ss f → (answer st (inserting w)).number ≡ nsert_number p (key_in p w) (tree_in ss f)
        go (duplicate y e g) =
            g.number-is
            ∙ sym (ap (λ (z : List (List ℕ)). number z (block_for (key_in p w) (section_for (key_in p w) ss)) (section_for (key_in p w) ss)) (with-is ∙ e))
        go (room e a B l g) = g.number-is ∙ sym (at a B e ∙ place-room p (D p) (I p) _ _ _ (tree_in ss f) l ∙ stored-as p _ _ f free-is)
        go (split e a B l m s k q g) =
            g.number-is
            ∙ sym (at a B e ∙ place-one p (D p) (I p) _ _ _ (tree_in ss f) (omega (arith, l)) m (omega (arith, free-is)) ∙ stored-as p _ _ (taken f)
            (omega (arith, free-is, taken-count f s))
            ∙ ap (λ (n : ℕ). stored_with p (half_count (D p) n) (taken f)) (sym q))
        go (both e a B l m s c k q g) =
            let one : 1 ≤ free_count f = omega arith in
            let two : 1 ≤ free_count (taken f) = omega (arith, taken-count f one) in
            g.number-is
            ∙ sym (at a B e ∙ place-two p (D p) (I p) _ _ _ (tree_in ss f) (omega (arith, l)) (omega (arith, m)) (omega (arith, free-is)) c
            ∙ stored-as p _ _ (taken (taken f)) (omega (arith, free-is, taken-count f one, taken-count (taken f) two))
            ∙ ap (λ (n : ℕ). stored_with p (half_count (D p) n) (taken (taken f))) (sym q))
        go (no_room_lem e a B l m g) = g.number-is ∙ sym (at a B e ∙ place_none p (D p) (I p) _ _ _ (tree_in ss f) (omega (arith, l)) (why m))
          where
            why : (free_count f ≡ 0) ⊎ ((length (olds a) ≡ I p) × ((free_count f ≡ 1) ⊎ (p.control ≤ length ss)))
                → (free_blocks p (tree_in ss f) ≡ 0) ⊎ ((I p ≤ length (olds a)) × ((free_blocks p (tree_in ss f) ≡ 1) ⊎ (p.control ≤ length ss)))
            why (inl z) = inl (free-is ∙ z)
            why (inr (i, inl o)) = inr (omega arith, inl (free-is ∙ o))
            why (inr (i, inr c)) = inr (omega arith, inr c)
