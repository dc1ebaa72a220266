-- NSERT into a full block: the words of both halves, of the index block's entries and of the master's entry, as rows.
use Prim.Native.Nat.{ℕ, suc, ◌+◌, ◌-◌, ◌≤◌, ◌<◌}
use mathlib.Core.Bool.{true}
use mathlib.Core.Path.{◌≡◌, refl, sym, ap, ◌∙◌, subst}
use mathlib.Core.List.{List, [], ◌∷◌, ◌++◌, map, append_assoc}
use native.Mathlib.Omega.{arith}
use lib.ListN.{length, length-append, length-map}
use Rattle.table.specs.Splits.{low_count, low_bound, renamed}
use Rattle.drum.specs.declared.Description.{Description}
use Rattle.drum.specs.Params.{D, I, index_shape, detail_shape, good_params}
use Rattle.drum.specs.Blocks.{Texts, text_of}
use Rattle.drum.proofs.Good.{good-facts}
use Rattle.rules.specs.NsertDone.{detail_low, detail_high, detail_entry, index_entered, index_low, index_high, index_entry}
use Rattle.demands.proofs.Lists.{All, all_append, all_left, all_right, map-append}
use Rattle.demands.proofs.Order.{below, from, below-from, ins}
use Rattle.demands.proofs.Rows.{Each}
use Rattle.layout.specs.Tree.{Leaf}
use Rattle.demands.proofs.Trees.{key, table, entry, index_text}
use Rattle.demands.proofs.Holds.{Free, HoldsCells, LeafFits, SectionOk, RowOk, master_entry}
use Rattle.demands.proofs.Steps.{sec, ix, lower, upper}
use Rattle.demands.proofs.Places.{Place, tree_of, olds, index-text, leaf-text, sec-ok, leaf-ok, last_bound-append}
use Rattle.demands.proofs.Texts.{half, low-table, high-table, bound-table}
use Rattle.demands.proofs.Blocks.{master_of}
use Rattle.demands.proofs.Entries.{index-rows, index_key}
use Rattle.demands.proofs.Paths.{path_of}
use Rattle.demands.proofs.Records.{key-long, length-ins, all-ins}
use Rattle.demands.proofs.Masters.{index-entered, index-renamed}
use Rattle.demands.proofs.Sound.{rows_long}

module _ (v : Texts) (a : Place) (f : Free) (hd : HoldsCells v.desc (master_of v.desc v.file) (text_of v) (tree_of a) f)
    (g : good_params v.desc ≡ true) (r : List ℕ) (rok : RowOk v.desc r)
    (full : length a.leaf.records ≡ D v.desc) (xs : List (List ℕ)) (y : List ℕ) (ys : List (List ℕ))
    (cut : ins (key v.desc.k) r a.leaf.records ≡ xs ++ y ∷ ys)
    (lx : suc (length xs) ≡ low_count (D v.desc)) (nb : ℕ) where
  abbrev p : Description
  p = v.desc

  abbrev K : List ℕ → ℕ
  K = key v.desc.k

  -- the place of the record among those of the block
  abbrev pub place : ℕ
  place = length (below K (K r) a.leaf.records)

  abbrev pub l₁ : Leaf
  l₁ = lower v.desc a.leaf xs y

  abbrev pub l₂ : Leaf
  l₂ = upper v.desc a.leaf nb ys

  abbrev pub news : List Leaf
  news = a.low ++ (l₁ ∷ (l₂ ∷ a.high))

  lk : LeafFits p a.leaf
  lk = leaf-ok p a f _ _ hd

  pub oks : All (RowOk p) (xs ++ y ∷ ys)
  oks = rw (← cut) (all-ins K (RowOk p) r a.leaf.records rok lk.rows)

  pub size : length xs + suc (length ys) ≡ suc (D p)
  size = sym (length-append xs (y ∷ ys)) ∙ ap length (sym cut) ∙ length-ins K r a.leaf.records ∙ ap suc full

  halves : (2 ≤ low_count (D p)) × (low_count (D p) ≤ D p)
  halves = half (D p) (good-facts p g).two_records

  pub low_ok : LeafFits p l₁
  low_ok = record {
    some = rw (length-append xs) (omega arith);
    room = rw (length-append xs) (omega (arith, lx, halves));
    rows = all_append (RowOk p) xs _ (all_left (RowOk p) xs _ oks) ((all_right (RowOk p) xs _ oks).0, tt);
    bound = (key-long p (good-facts p g).key y (all_right (RowOk p) xs _ oks).0).0;
    wide = (key-long p (good-facts p g).key y (all_right (RowOk p) xs _ oks).0).1;
  }

  pub high-ok : LeafFits p l₂
  high-ok = record {
    some = omega (arith, size, lx, halves);
    room = omega (arith, size, lx, halves);
    rows = (all_right
        (RowOk p) xs _ oks).1;
    bound = lk.bound;
    wide = lk.wide;
  }

  -- ---- the detail blocks

  front : List (List ℕ)
  front = below K (K r) a.leaf.records

  back : List (List ℕ)
  back = from K (K r) a.leaf.records

  joined : front ++ back ≡ a.leaf.records
  unfolding front back
  joined = below-from K (K r) a.leaf.records

  text : text_of v a.leaf.block ≡ table (detail_shape p) p.wpb (front ++ back)
  text = leaf-text p a f _ _ hd ∙ ap (table (detail_shape p) p.wpb) (sym joined)

  cut-here : front ++ r ∷ back ≡ (xs ++ (y ∷ [])) ++ ys
  unfolding front back ins
  cut-here = cut ∙ sym (append_assoc xs (y ∷ []) ys)

  parts-ok : All (RowOk p) (front ++ back)
  parts-ok = rw joined lk.rows

  lows : Each p.wpr front
  lows = rows_long p front (all_left (RowOk p) front _ parts-ok)

  highs : Each p.wpr back
  highs = rows_long p back (all_right (RowOk p) front _ parts-ok)

  pub low-is : detail_low v (path_of a) place r ≡ table (detail_shape p) p.wpb (xs ++ (y ∷ []))
  unfolding detail_low detail_shape front
  low-is =
      rw text (low-table (detail_shape p) refl p.wpb front back lows highs r rok.0 (D p) (ap length joined ∙ full) (xs ++ (y ∷ [])) ys cut-here
      (rw (length-append xs) (omega (arith, lx))))

  pub high_is : detail_high v (path_of a) place r ≡ table (detail_shape p) p.wpb ys
  unfolding detail_high detail_shape front
  high_is =
      rw text (high-table (detail_shape p) refl p.wpb front back lows highs r rok.0 (D p) (ap length joined ∙ full) (xs ++ (y ∷ [])) ys cut-here
      (rw (length-append xs) (omega (arith, lx))))

  pub entry-is : detail_entry v (path_of a) place r ≡ entry l₁
  unfolding detail_entry entry detail_shape
  entry-is =
      rw (
        low-is,
        bound-table p.wpb (detail_shape p) refl (good-facts p g).key (D p) xs y (rows_long p xs (all_left (RowOk p) xs _ oks))
            (all_right (RowOk p) xs _ oks).0.0 lx,
      )

  -- ---- the index block

  old_ok : SectionOk p (sec a.index (olds a))
  old_ok = sec-ok p a f _ _ hd

  pub index_is : length (olds a) < I p → index_entered v (path_of a) place r nb ≡ ix p news
  unfolding index_entered
  index_is room = rw (entry-is, index-text p a f _ _ hd) (index-entered p g a.low a.leaf a.high old_ok.leaves l₁ l₂ low_ok refl room)

  pub news-ok : All (LeafFits p) news
  news-ok =
      all_append (LeafFits p) a.low _ (all_left (LeafFits p) a.low _ old_ok.leaves)
      (low_ok, (high-ok, (all_right (LeafFits p) a.low _ old_ok.leaves).1))

  pub news-length : length news ≡ suc (length (olds a))
  news-length = rw (length-append a.low (l₁ ∷ (l₂ ∷ a.high)), length-append a.low (a.leaf ∷ a.high)) (omega arith)

  module _ (most : length (olds a) ≡ I p) (qs : List Leaf) (q : Leaf) (zs : List Leaf) (cut₂ : news ≡ qs ++ q ∷ zs)
      (lq : suc (length qs) ≡ low_count (I p)) where
    halves₂ : (2 ≤ low_count (I p)) × (low_count (I p) ≤ I p)
    halves₂ = half (I p) (good-facts p g).two-entries

    cut-oks : All (LeafFits p) (qs ++ q ∷ zs)
    cut-oks = subst (All (LeafFits p)) cut₂ news-ok

    qs-ok : All (LeafFits p) (qs ++ (q ∷ []))
    qs-ok = all_append (LeafFits p) qs (q ∷ []) (all_left (LeafFits p) qs _ cut-oks) ((all_right (LeafFits p) qs _ cut-oks).0, tt)

    pub size₂ : length qs + suc (length zs) ≡ suc (I p)
    size₂ = sym (length-append qs (q ∷ zs)) ∙ ap length (sym cut₂) ∙ news-length ∙ ap suc most

    -- the old leaf, under the new block's number
    abbrev l₀ : Leaf
    l₀ = record { bound = a.leaf.bound; block = nb; records = a.leaf.records }

    renamed-is : renamed (index_shape p) (length a.low) nb (text_of v a.index) ≡ table (index_shape p) p.wpb (map entry a.low ++ map entry (l₀ ∷ a.high))
    unfolding index_text
    renamed-is =
        rw (index-text p a f _ _ hd)
        (index-renamed p g a.low a.leaf a.high old_ok.leaves nb ∙ ap (table (index_shape p) p.wpb) (map-append entry a.low (l₀ ∷ a.high)))

    before : Each (p.k + 1) (map entry a.low)
    before = index-rows p a.low (all_left (LeafFits p) a.low _ old_ok.leaves)

    after : Each (p.k + 1) (map entry (l₀ ∷ a.high))
    unfolding entry
    after = (rw (length-append a.leaf.bound (nb ∷ []), lk.bound), index-rows p a.high (all_right (LeafFits p) a.low _ old_ok.leaves).1)

    cut-rows : map entry a.low ++ entry l₁ ∷ map entry (l₀ ∷ a.high) ≡ map entry (qs ++ (q ∷ [])) ++ map entry zs
    unfolding entry
    cut-rows =
        sym (map-append entry a.low (l₁ ∷ (l₂ ∷ a.high))) ∙ ap (map entry) (cut₂ ∙ sym (append_assoc qs (q ∷ []) zs))
        ∙ map-append entry (qs ++ (q ∷ [])) zs

    count-is : length (map entry a.low ++ map entry (l₀ ∷ a.high)) ≡ I p
    count-is =
        ap length (sym (map-append entry a.low (l₀ ∷ a.high))) ∙ length-map (a.low ++ (l₀ ∷ a.high)) entry
        ∙ rw (length-append a.low (l₀ ∷ a.high)) (sym (length-append a.low (a.leaf ∷ a.high)) ∙ most)

    low-length : length (map entry (qs ++ (q ∷ []))) ≡ low_count (I p)
    low-length = length-map (qs ++ (q ∷ [])) entry ∙ rw (length-append qs) (omega (arith, lq))

    l₁-long : length (entry l₁) ≡ p.k + 1
    unfolding entry
    l₁-long = rw (length-append l₁.bound (l₁.block ∷ []), low_ok.bound)

    pub index-low : index_low v (path_of a) place r nb ≡ ix p (qs ++ (q ∷ []))
    unfolding index_low index_text index_shape
    index-low =
        rw (entry-is, renamed-is, ← length-map a.low entry)
        (low-table (index_shape p) refl p.wpb (map entry a.low) (map entry (l₀ ∷ a.high)) before after (entry l₁) l₁-long (I p) count-is
        (map entry (qs ++ (q ∷ []))) (map entry zs) cut-rows low-length)

    pub index-high : index_high v (path_of a) place r nb ≡ ix p zs
    unfolding index_high index_text index_shape
    index-high =
        rw (entry-is, renamed-is, ← length-map a.low entry)
        (high-table (index_shape p) refl p.wpb (map entry a.low) (map entry (l₀ ∷ a.high)) before after (entry l₁) l₁-long (I p) count-is
        (map entry (qs ++ (q ∷ []))) (map entry zs) cut-rows low-length)

    bound-is : low_bound (index_shape p) (I p) (ix p (qs ++ (q ∷ []))) ≡ q.bound
    unfolding low_bound
    bound-is = let m : low_count (I p) - 1 ≡ length qs = omega (arith, lq) in rw m (index_key p qs q [] qs-ok)

    pub index-entry : index_entry v (path_of a) place r nb ≡ master_entry p (sec a.index (qs ++ (q ∷ [])))
    unfolding index_entry master_entry
    index-entry = rw (index-low, last_bound-append [] qs (q ∷ [])) (ap (λ (b : List ℕ). b ++ (a.index ∷ [])) bound-is)
