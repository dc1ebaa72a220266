-- The words of the master and of an index block, when free blocks, entries and bounds change.
use Prim.Native.Nat.{ℕ, suc, ◌+◌, ◌-◌, ◌*◌, ◌≤◌}
use mathlib.Core.Bool.{true}
use mathlib.Core.Path.{◌≡◌, refl, sym, ap, ap₂, ◌∙◌}
use mathlib.Core.List.{List, [], ◌∷◌, ◌++◌, map, append_assoc, append-nil}
use native.Mathlib.Omega.{arith}
use native.Mathlib.Nat.{mul-le-mul_right}
use lib.ListN.{length, set, length-append, length-map}
use Rattle.rules.specs.XtendDone.{ones_entry, bounded, extended}
use Rattle.words.specs.Keys.{ones}
use Rattle.table.specs.Tables.{count, inserted, removed, replaced}
use Rattle.table.specs.Splits.{renamed, entered}
use Rattle.drum.specs.declared.Description.{Description}
use Rattle.drum.specs.Params.{I, master_shape, index_shape, good_params}
use Rattle.drum.proofs.Good.{caps}
use Rattle.rules.specs.Free.{with_free}
use Rattle.rules.proofs.Sizes.{ones-length}
use Rattle.demands.proofs.Lists.{All, all_append, all_left, all_right, map-append}
use Rattle.demands.proofs.Rows.{Each, tab}
use Rattle.demands.proofs.Flat.{count-tab, entered-tab, inserted-tab, removed-tab, rekeyed-tab}
use Rattle.layout.specs.Tree.{Leaf, Section}
use Rattle.demands.proofs.Trees.{table, entry, index_text}
use Rattle.demands.proofs.Holds.{Free, LeafFits, SectionOk, last_bound, master_entry, master_words, master_for, head_or}
use Rattle.demands.proofs.Texts.{table-insert, table-remove, table-rekey, table-rename, table-enter}
use Rattle.demands.proofs.Entries.{last-bounded, index-rows, count_index, master-rows, master-tab, slack, front}

module _ (p : Description) where
  -- words 1 and 2
  pub with-free : (ss : List Section) (f f' : Free) (rest : List ℕ)
      → with_free (head_or f'.chain 0) f'.lowest (master_for p ss f ++ rest) ≡ master_for p ss f' ++ rest
  unfolding with_free master_for master_words tab
  with-free ss f f' rest = refl

  pub with-head : (ss : List Section) (f f' : Free) (b : ℕ) (rest : List ℕ) → head_or f'.chain 0 ≡ b → f'.lowest ≡ f.lowest
      → set (master_for p ss f ++ rest) 1 b ≡ master_for p ss f' ++ rest
  unfolding master_for master_words tab
  with-head ss f f' b rest e g = rw (e, g)

  slack-less : good_params p ≡ true → (n m : ℕ) → m ≡ suc n → m ≤ p.control → slack p n ≡ (p.k + 1) + slack p m
  slack-less g n m e l = rw e (omega (arith, (caps p g).sections-fit, mul-le-mul_right (p.k + 1) l, ap (λ (x : ℕ). x * (p.k + 1)) e))

  entry-long : (s : Section) → SectionOk p s → length (master_entry p s) ≡ p.k + 1
  unfolding master_entry
  entry-long s ok = rw (length-append (last_bound [] s.leaves) (s.block ∷ []), (last-bounded p [] s.leaves ok.some ok.leaves).0)

  module _ (g : good_params p ≡ true) (bs : List Section) (s : Section) (cs : List Section) (ok : All (SectionOk p) (bs ++ s ∷ cs)) (f : Free)
      (rest : List ℕ) where
    abbrev w : List ℕ
    w = last_bound [] s.leaves

    s-ok : SectionOk p s
    s-ok = (all_right (SectionOk p) bs _ ok).0

    long : length w ≡ p.k
    long = (last-bounded p [] s.leaves s-ok.some s-ok.leaves).0

    lefts : Each (p.k + 1) (map (master_entry p) bs)
    lefts = master-rows p bs (all_left (SectionOk p) bs _ ok)

    rights : Each (p.k + 1) (map (master_entry p) cs)
    rights = master-rows p cs (all_right (SectionOk p) bs _ ok).1

    -- an entry goes
    pub master-removed : length (bs ++ s ∷ cs) ≤ p.control
        → removed (master_shape p) (length bs) (master_for p (bs ++ s ∷ cs) f ++ rest) ≡ master_for p (bs ++ cs) f ++ rest
    unfolding master_shape
    master-removed room =
        let rows : List (List ℕ) = map (master_entry p) bs ++ master_entry p s ∷ map (master_entry p) cs in
        let e : map (master_entry p) (bs ++ s ∷ cs) ≡ rows = map-append (master_entry p) bs (s ∷ cs) in
        let e' : map (master_entry p) (bs ++ cs) ≡ map (master_entry p) bs ++ map (master_entry p) cs = map-append (master_entry p) bs cs in
        let n : length rows ≡ suc (length (map (master_entry p) bs ++ map (master_entry p) cs))
        = rw
        (length-append (map (master_entry p) bs) (master_entry p s ∷ map (master_entry p) cs), length-append (map (master_entry p) bs) (map (master_entry p) cs))
        (omega arith) in
        let m : length rows ≤ p.control = rw (← e, length-map (bs ++ s ∷ cs) (master_entry p)) room in
        rw (
          master-tab p (bs ++ s ∷ cs) f rest,
          master-tab p (bs ++ cs) f rest,
          e,
          e',
          slack-less g
              (length (map (master_entry p) bs ++ map (master_entry p) cs)) (length rows) n m,
          ← length-map bs (master_entry p),
        )
        (removed-tab (master_shape p) (front p f) refl refl (map (master_entry p) bs) lefts (master_entry p s) (entry-long s s-ok) (map (master_entry p) cs)
        (slack p (length rows)) rest rights)

    module _ (s₁ s₂ : Section) (ok₁ : SectionOk p s₁) (same : last_bound [] s₂.leaves ≡ w) (room : suc (length (bs ++ s ∷ cs)) ≤ p.control) where
      e₀ : map (master_entry p) (bs ++ s ∷ cs) ≡ map (master_entry p) bs ++ (w ++ (s.block ∷ [])) ∷ map (master_entry p) cs
      unfolding master_entry
      e₀ = map-append (master_entry p) bs (s ∷ cs)

      e₁ : map (master_entry p) (bs ++ s₁ ∷ (s₂ ∷ cs)) ≡ map (master_entry p) bs ++ master_entry p s₁ ∷ ((w ++ (s₂.block ∷ [])) ∷ map (master_entry p) cs)
      unfolding master_entry
      e₁ = rw (map-append (master_entry p) bs (s₁ ∷ (s₂ ∷ cs)), same)

      grown : length (map (master_entry p) bs ++ master_entry p s₁ ∷ ((w ++ (s₂.block ∷ [])) ∷ map (master_entry p) cs)) ≡ suc
          (length (map (master_entry p) bs ++ (w ++ (s.block ∷ [])) ∷ map (master_entry p) cs))
      grown = rw (
        length-append (map (master_entry p) bs) (master_entry p s₁ ∷ ((w ++ (s₂.block ∷ [])) ∷ map (master_entry p) cs)),
        length-append
            (map (master_entry p) bs) ((w ++ (s.block ∷ [])) ∷ map (master_entry p) cs),
      ) (omega arith)

      fits : length (map (master_entry p) bs ++ master_entry p s₁ ∷ ((w ++ (s₂.block ∷ [])) ∷ map (master_entry p) cs)) ≤ p.control
      fits = rw grown (rw (← e₀, length-map (bs ++ s ∷ cs) (master_entry p)) room)

      -- an entry becomes two: the old one under its new bound, and the new one under the old bound
      pub master-entered : entered (master_shape p) (length bs) (master_entry p s₁) s₂.block (master_for p (bs ++ s ∷ cs) f ++ rest) ≡ master_for p
          (bs ++ s₁ ∷ (s₂ ∷ cs)) f ++ rest
      unfolding master_shape
      master-entered =
          rw (
            master-tab p (bs ++ s ∷ cs) f rest,
            master-tab p (bs ++ s₁ ∷ (s₂ ∷ cs)) f rest,
            e₀,
            e₁,
            slack-less g (length (map (master_entry p) bs ++ (w ++ (s.block ∷ [])) ∷ map (master_entry p) cs))
                (length (map (master_entry p) bs ++ master_entry p s₁ ∷ ((w ++ (s₂.block ∷ [])) ∷ map (master_entry p) cs))) grown fits,
            ← length-map bs (master_entry p),
          )
          (entered-tab (master_shape p) (front p f) refl refl (map (master_entry p) bs) lefts w s.block long (map (master_entry p) cs) _ rest refl rights
          (master_entry p s₁) (entry-long s₁ ok₁) s₂.block)

  -- ---- an index block

  module _ (g : good_params p ≡ true) (low : List Leaf) (l : Leaf) (high : List Leaf) (ok : All (LeafFits p) (low ++ (l ∷ high))) where
    l-ok : LeafFits p l
    l-ok = (all_right (LeafFits p) low _ ok).0

    left-rows : Each (p.k + 1) (map entry low)
    left-rows = index-rows p low (all_left (LeafFits p) low _ ok)

    right-rows : Each (p.k + 1) (map entry high)
    right-rows = index-rows p high (all_right (LeafFits p) low _ ok).1

    fill : (n : ℕ) → n ≤ I p → 1 + n * (p.k + 1) ≤ p.wpb
    fill n h = omega (arith, (caps p g).entries_fit, mul-le-mul_right (p.k + 1) h)

    -- an entry goes
    pub index-removed : length (low ++ (l ∷ high)) ≤ I p
        → removed (index_shape p) (length low) (index_text p (low ++ (l ∷ high))) ≡ index_text p (low ++ high)
    unfolding index_shape index_text entry
    index-removed room =
        let n : length (map entry low ++ entry l ∷ map entry high) ≤ I p = rw (← map-append entry low (l ∷ high), length-map (low ++ (l ∷ high)) entry) room in
        rw (map-append entry low (l ∷ high), map-append entry low high, ← length-map low entry)
        (table-remove p.wpb (index_shape p) refl (map entry low) (map entry high) left-rows right-rows (l.bound ++ (l.block ∷ []))
        (rw (length-append l.bound (l.block ∷ []), l-ok.bound)) (fill _ n))

    -- another bound
    pub index-rekeyed : (b : List ℕ) → length b ≡ p.k
        → replaced (index_shape p) (length low) b (index_text p (low ++ (l ∷ high)))
        ≡ index_text p (low ++ (record { bound = b; block = l.block; records = l.records } ∷ high))
    unfolding index_shape index_text entry
    index-rekeyed b e =
        let l' : Leaf = record { bound = b; block = l.block; records = l.records } in
        rw (map-append entry low (l ∷ high), map-append entry low (l' ∷ high), ← length-map low entry)
        (table-rekey p.wpb (index_shape p) refl (map entry low) (map entry high) left-rows right-rows l.bound b (l.block ∷ []) (l-ok.bound ∙ sym e)
        (rw (length-append l.bound (l.block ∷ []), l-ok.bound)))

    -- an entry becomes two
    pub index-entered : (l₁ l₂ : Leaf) → LeafFits p l₁ → l₂.bound ≡ l.bound → suc (length (low ++ (l ∷ high))) ≤ I p
        → entered (index_shape p) (length low) (entry l₁) l₂.block (index_text p (low ++ (l ∷ high))) ≡ index_text p (low ++ (l₁ ∷ (l₂ ∷ high)))
    unfolding index_shape index_text entry
    index-entered l₁ l₂ ok₁ same room =
        let rows : List (List ℕ) = map entry low ++ entry l₁ ∷ ((l.bound ++ (l₂.block ∷ [])) ∷ map entry high) in
        let e : map entry (low ++ (l₁ ∷ (l₂ ∷ high))) ≡ rows = rw (map-append entry low (l₁ ∷ (l₂ ∷ high)), same) in
        let n : length rows ≤ I p
        = rw (← e, length-map (low ++ (l₁ ∷ (l₂ ∷ high))) entry, length-append low (l₁ ∷ (l₂ ∷ high)))
        (omega (arith, rw (length-append low (l ∷ high)) at room)) in
        rw (map-append entry low (l ∷ high), e, ← length-map low entry)
        (table-enter p.wpb (index_shape p) refl (map entry low) (map entry high) left-rows right-rows refl l.bound l-ok.bound l.block l₂.block
        (entry l₁) (rw (length-append l₁.bound (l₁.block ∷ []), ok₁.bound)) (fill _ n))

    -- the entry names another block
    pub index-renamed : (b : ℕ) → renamed (index_shape p) (length low) b (index_text p (low ++ (l ∷ high))) ≡ index_text p
        (low ++ (record { bound = l.bound; block = b; records = l.records } ∷ high))
    unfolding index_shape index_text entry
    index-renamed b =
        let l' : Leaf = record { bound = l.bound; block = b; records = l.records } in
        rw (map-append entry low (l ∷ high), map-append entry low (l' ∷ high), ← length-map low entry)
        (table-rename p.wpb (index_shape p) refl (map entry low) (map entry high) left-rows right-rows refl l.bound l-ok.bound l.block b)

-- ---- XTEND's changes at the end: the last bound becomes the key, and an entry under ONES follows

module _ (p : Description) (g : good_params p ≡ true) (key : List ℕ) (long : length key ≡ p.k) where
  module _ (low : List Leaf) (l : Leaf) (ok : All (LeafFits p) (low ++ (l ∷ []))) (l₁ : Leaf) (same-bound : l₁.bound ≡ key)
      (same_block : l₁.block ≡ l.block) where
    pub index-bounded : bounded (index_shape p) key (index_text p (low ++ (l ∷ []))) ≡ index_text p (low ++ (l₁ ∷ []))
    unfolding bounded
    index-bounded =
        let n : length (low ++ (l ∷ [])) - 1 ≡ length low = omega (arith, length-append low (l ∷ [])) in
        rw (count_index p (low ++ (l ∷ [])), n, index-rekeyed p g low l [] ok key long) (again low)
      where
        again : (low : List Leaf)
            → index_text p (low ++ (record { bound = key; block = l.block; records = l.records } ∷ [])) ≡ index_text p (low ++ (l₁ ∷ []))
        again low = unfold index_text entry in simp (map-append, same-bound, same_block)

    pub index-extended : (l₂ : Leaf) → LeafFits p l₁ → l₂.bound ≡ ones p.k → suc (length (low ++ (l ∷ []))) ≤ I p
        → extended p (index_shape p) key l₂.block (index_text p (low ++ (l ∷ []))) ≡ index_text p (low ++ (l₁ ∷ (l₂ ∷ [])))
    unfolding extended
    index-extended l₂ ok₁ top room =
        let ls : List Leaf = low ++ (l₁ ∷ []) in
        let n : length (low ++ (l ∷ [])) ≡ length ls = length-append low (l ∷ []) ∙ sym (length-append low (l₁ ∷ [])) in
        let oks : All (LeafFits p) ls = all_append (LeafFits p) low (l₁ ∷ []) (all_left (LeafFits p) low _ ok) (ok₁, tt) in
        rw (count_index p (low ++ (l ∷ [])), index-bounded, n)
        (put_in ls oks (rw (← n) room) l₂.block ∙ again ls ∙ ap (index_text p) (append_assoc low (l₁ ∷ []) (l₂ ∷ [])))
      where
        put_in : (ls : List Leaf) → All (LeafFits p) ls → suc (length ls) ≤ I p → (b : ℕ)
            → inserted (index_shape p) (length ls) (ones_entry p b) (index_text p ls) ≡ table (index_shape p) p.wpb (map entry ls ++ ones_entry p b ∷ [])
        put_in ls oks room b = unfold index_text index_shape in
            rw (← length-map ls entry)
            (ap (λ (z : List (List ℕ)). inserted (index_shape p) (length (map entry ls)) (ones_entry p b) (table (index_shape p) p.wpb z)) (sym (append-nil (map entry ls)))
            ∙ table-insert p.wpb (index_shape p) refl (map entry ls) [] (index-rows p ls oks) tt (ones_entry p b) (ones-length p b)
            (rw (length-append (map entry ls) (ones_entry p b ∷ []), length-map ls entry)
            (omega (arith, (caps p g).entries_fit, mul-le-mul_right (p.k + 1) room))))

        again : (ls : List Leaf) → table (index_shape p) p.wpb (map entry ls ++ ones_entry p l₂.block ∷ []) ≡ index_text p (ls ++ (l₂ ∷ []))
        again ls = unfold index_text ones_entry entry in rw (map-append entry ls (l₂ ∷ []), top)

  module _ (bs : List Section) (s : Section) (ok : All (SectionOk p) (bs ++ s ∷ [])) (f : Free) (rest : List ℕ) (s₁ s₂ : Section) where
    pub master-extended : last_bound [] s₁.leaves ≡ key → s₁.block ≡ s.block → last_bound [] s₂.leaves ≡ ones p.k
        → suc (length (bs ++ s ∷ [])) ≤ p.control
        → extended p (master_shape p) key s₂.block (master_for p (bs ++ s ∷ []) f ++ rest) ≡ master_for p (bs ++ s₁ ∷ (s₂ ∷ [])) f ++ rest
    unfolding extended bounded master_shape
    master-extended kb sb top room =
        let w : List ℕ = last_bound [] s.leaves in
        let sok : SectionOk p s = (all_right (SectionOk p) bs _ ok).0 in
        let lw : length w ≡ p.k = (last-bounded p [] s.leaves sok.some sok.leaves).0 in
        let ms : List (List ℕ) = map (master_entry p) bs in
        let z : ℕ = slack p (length (bs ++ s₁ ∷ (s₂ ∷ []))) in
        let lefts : Each (p.k + 1) ms = master-rows p bs (all_left (SectionOk p) bs _ ok) in
        let n : length (bs ++ s₁ ∷ (s₂ ∷ [])) ≡ suc (length (bs ++ s ∷ [])) = rw (length-append bs (s₁ ∷ (s₂ ∷ [])), length-append bs (s ∷ [])) (omega arith) in
        let t-is : master_for p (bs ++ s ∷ []) f ++ rest ≡ tab (front p f) (ms ++ (w ++ (s.block ∷ [])) ∷ []) ((p.k + 1) + z) rest
        = master-tab p (bs ++ s ∷ []) f rest ∙ ap₂ (λ (rs : List (List ℕ)) (m : ℕ). tab (front p f) rs m rest) (shown bs s)
        (ap (slack p) (length-map (bs ++ s ∷ []) (master_entry p)) ∙ slack-less p g (length (bs ++ s ∷ [])) (length (bs ++ s₁ ∷ (s₂ ∷ []))) n (rw n room)) in
        let c : count (master_shape p) (tab (front p f) (ms ++ (w ++ (s.block ∷ [])) ∷ []) ((p.k + 1) + z) rest) ≡ length (ms ++ (key ++ (s.block ∷ [])) ∷ [])
        = count-tab (master_shape p) refl (front p f) (ms ++ (w ++ (s.block ∷ [])) ∷ []) ((p.k + 1) + z) rest ∙ length-append ms ((w ++ (s.block ∷ [])) ∷ [])
        ∙ sym (length-append ms ((key ++ (s.block ∷ [])) ∷ [])) in
        let d : length (ms ++ (key ++ (s.block ∷ [])) ∷ []) - 1 ≡ length ms = omega (arith, length-append ms ((key ++ (s.block ∷ [])) ∷ [])) in
        rw (t-is, c, d, rekeyed-tab (master_shape p) (front p f) refl refl ms lefts w s.block lw [] ((p.k + 1) + z) rest key long)
        (ap (λ (rs : List (List ℕ)). inserted (master_shape p) (length (ms ++ (key ++ (s.block ∷ [])) ∷ [])) (ones_entry p s₂.block)
        (tab (front p f) rs ((p.k + 1) + z) rest)) (sym (append-nil (ms ++ (key ++ (s.block ∷ [])) ∷ [])))
        ∙ inserted-tab (master_shape p) (front p f) refl refl (ms ++ (key ++ (s.block ∷ [])) ∷ [])
        (all_append (λ r. length r ≡ p.k + 1) ms _ lefts (rw (length-append key (s.block ∷ []), long), tt)) (ones_entry p s₂.block)
        (ones-length p s₂.block) [] z rest tt
        ∙ ap (λ (rs : List (List ℕ)). tab (front p f) rs z rest) (rows_are ms bs refl)
        ∙ ap (λ (m : ℕ). tab (front p f) (map (master_entry p) (bs ++ s₁ ∷ (s₂ ∷ []))) (slack p m) rest)
        (sym (length-map (bs ++ s₁ ∷ (s₂ ∷ [])) (master_entry p)))
        ∙ sym (master-tab p (bs ++ s₁ ∷ (s₂ ∷ [])) f rest))
      where
        shown : (bs : List Section) (s : Section)
            → map (master_entry p) (bs ++ s ∷ []) ≡ map (master_entry p) bs ++ (last_bound [] s.leaves ++ (s.block ∷ [])) ∷ []
        shown bs s = unfold master_entry in map-append (master_entry p) bs (s ∷ [])

        rows_are : (ms : List (List ℕ)) (bs : List Section) → ms ≡ map (master_entry p) bs
            → (ms ++ (key ++ (s.block ∷ [])) ∷ []) ++ ones_entry p s₂.block ∷ [] ≡ map (master_entry p) (bs ++ s₁ ∷ (s₂ ∷ []))
        rows_are ms bs e = unfold master_entry ones_entry in
            rw (
              append_assoc ms ((key ++ (s.block ∷ [])) ∷ []) ((ones p.k ++ (s₂.block ∷ [])) ∷ []),
              map-append (master_entry p) bs (s₁ ∷ (s₂ ∷ [])),
              kb,
              sb,
              top,
              e,
            )
