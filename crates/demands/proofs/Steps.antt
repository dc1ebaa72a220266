-- The changes that the calls make to a held tree.
use Prim.Native.Nat.{ℕ, suc, ◌+◌, ◌≤◌, ◌<◌}
use mathlib.Core.Path.{◌≡◌, refl, ap, ◌∙◌}
use mathlib.Core.List.{List, [], ◌∷◌, ◌++◌, map, append_assoc, append-nil}
use native.Mathlib.Omega.{arith}
use lib.ListN.{length, take, length-append}
use Rattle.drum.specs.declared.Description.{Description}
use Rattle.drum.specs.Blocks.{free_text}
use Rattle.drum.specs.Params.{I}
use Rattle.demands.proofs.Lists.{All, all_append, all_left, all_right, map-append}
use Rattle.demands.proofs.Order.{Asc, after-snoc, asc-left, asc-right, asc-wide, asc-le}
use Rattle.demands.proofs.Cells.{Cell, is, weigh, weigh-cons, weigh-nil, weigh-append, SameCells, cell_times, wrotes}
use Rattle.layout.specs.Tree.{Leaf, Section}
use Rattle.demands.proofs.Trees.{leaves_in, key, bd, reach, Ranged, ranged-left, ranged-right, ranged-swap, reach-swap, leaves_in-append, entry}
use Rattle.demands.proofs.Trees.{leaf_cell, index_text, cells_of}
use Rattle.demands.proofs.Holds.{Free, HoldsCells, LeafFits, SectionOk, free_cells, head_or, master_for, region}

abbrev pub sec : ℕ → List Leaf → Section
sec ib ls = record { block = ib; leaves = ls }

module _ (p : Description) where
  abbrev pub lf : Leaf → Cell
  lf = leaf_cell p

  abbrev pub ix : List Leaf → List ℕ
  ix = index_text p

  -- where the sections after bs start
  abbrev pub start : List Section → ℕ
  start bs = reach p.k 0 (leaves_in bs)

  section-cells : (ib : ℕ) (ls : List Leaf) (free : List Cell) → SameCells (cells_of p (sec ib ls ∷ []) ++ free) ((ib, ix ls) ∷ (map lf ls ++ free))
  unfolding cells_of
  section-cells ib ls free w = simp (weigh-append, weigh-cons, weigh-nil) (omega arith)

  two_cells : (ib : ℕ) (ls : List Leaf) (nib : ℕ) (ms : List Leaf) (free : List Cell)
      → SameCells (cells_of p (sec ib ls ∷ (sec nib ms ∷ [])) ++ free) ((ib, ix ls) ∷ (map lf ls ++ ((nib, ix ms) ∷ (map lf ms ++ free))))
  unfolding cells_of
  two_cells ib ls nib ms free w = simp (weigh-append, weigh-cons, weigh-nil) (omega arith)

  -- ---- some leaves of one section give way to others

  module _ (bs : List Section) (ib : ℕ) (low ls high : List Leaf) (cs : List Section) (f : Free) (master : List ℕ) (text : ℕ → List ℕ)
      (h : HoldsCells p master text (bs ++ (sec ib (low ++ (ls ++ high)) ∷ cs)) f) where
    section-ranged : Ranged p.k (start bs) (low ++ (ls ++ high))
    section-ranged =
        ranged-left p.k _ (low ++ (ls ++ high)) (leaves_in cs) (ranged-right p.k 0 (leaves_in bs) _
        (rw (leaves_in-append bs (sec ib (low ++ (ls ++ high)) ∷ cs)) at h.ranged))

    pub section-ok : SectionOk p (sec ib (low ++ (ls ++ high)))
    section-ok = (all_right (SectionOk p) bs _ h.sized).0

    -- the leaves at the place
    pub leaves-ranged : Ranged p.k (reach p.k (start bs) low) ls
    leaves-ranged = ranged-left p.k _ ls high (ranged-right p.k (start bs) low (ls ++ high) section-ranged)

    pub leaves-ok : All (LeafFits p) ls
    leaves-ok = all_left (LeafFits p) ls _ (all_right (LeafFits p) low _ section-ok.leaves)

    pub leaf-region : (ls' : List Leaf) (f' : Free) (old keep ws : List Cell)
        → SameCells ((ib, ix (low ++ (ls ++ high))) ∷ (map lf ls ++ free_cells p f)) (old ++ keep)
        → SameCells ((ib, ix (low ++ (ls' ++ high))) ∷ (map lf ls' ++ free_cells p f')) (ws ++ keep)
        → ((b : ℕ) → cell_times b ws ≡ cell_times b old)
        → Ranged p.k (reach p.k (start bs) low) ls'
        → reach p.k (reach p.k (start bs) low) ls' ≡ reach p.k (reach p.k (start bs) low) ls
        → 1 ≤ length (low ++ (ls' ++ high)) → length (low ++ (ls' ++ high)) ≤ I p → All (LeafFits p) ls' → f'.lowest + f'.spare ≡ f.lowest + f.spare
        → HoldsCells p (master_for p (bs ++ (sec ib (low ++ (ls' ++ high)) ∷ cs)) f') (wrotes text ws) (bs ++ (sec ib (low ++ (ls' ++ high)) ∷ cs)) f'
    leaf-region ls' f' old keep ws was will moved g e s₁ s₂ ok num =
        let others : List Cell = map lf low ++ map lf high in
        let oks : All (LeafFits p) (low ++ (ls ++ high)) = section-ok.leaves in
        region p bs (sec ib (low ++ (ls ++ high)) ∷ []) cs f master text h (sec ib (low ++ (ls' ++ high)) ∷ []) f' old (keep ++ others) ws
        (λ w. section-cells ib (low ++ (ls ++ high)) (free_cells p f) w ∙ simp (map-append, weigh-append, weigh-cons)
        (omega (arith, simp (weigh-append, weigh-cons) at (was w))))
        (λ w. section-cells ib (low ++ (ls' ++ high)) (free_cells p f') w ∙ simp (map-append, weigh-append, weigh-cons)
        (omega (arith, simp (weigh-append, weigh-cons) at (will w))))
        moved
        (rw (append-nil (low ++ (ls' ++ high))) (ranged-swap p.k (start bs) low ls ls' high section-ranged g e))
        (rw (append-nil (low ++ (ls' ++ high)), append-nil (low ++ (ls ++ high))) (reach-swap p.k (start bs) low ls ls' high e)) (
          record {
            some = s₁;
            room = s₂;
            leaves =
                all_append (LeafFits p) low _ (all_left (LeafFits p) low _ oks)
                (all_append (LeafFits p) ls' _ ok (all_right (LeafFits p) ls _ (all_right (LeafFits p) low _ oks)));
          },
          tt,
        )
        (rw (length-append bs) (rw (length-append bs) at h.sections))
        num

  -- ---- one leaf's rows are replaced: an insertion with room, an update, a removal that leaves some

  abbrev pub with_rows : Leaf → List (List ℕ) → Leaf
  with_rows l rows = record { bound = l.bound; block = l.block; records = rows }

  abbrev pub lower : Leaf → List (List ℕ) → List ℕ → Leaf
  lower l xs x = record { bound = take p.k x; block = l.block; records = xs ++ (x ∷ []) }

  abbrev pub upper : Leaf → ℕ → List (List ℕ) → Leaf
  upper l nb ys = record { bound = l.bound; block = nb; records = ys }

  index_same : (low : List Leaf) (l : Leaf) (rows : List (List ℕ)) (high : List Leaf) → ix (low ++ (with_rows l rows ∷ high)) ≡ ix (low ++ (l ∷ high))
  unfolding index_text entry
  index_same low l rows high = simp map-append

  module _ (bs : List Section) (ib : ℕ) (low : List Leaf) (l : Leaf) (high : List Leaf) (cs : List Section) (f : Free) (master : List ℕ) (text : ℕ → List ℕ)
      (h : HoldsCells p master text (bs ++ (sec ib (low ++ (l ∷ high)) ∷ cs)) f) where
    -- where the leaf starts
    abbrev at : ℕ
    at = reach p.k (start bs) low

    pub replace-rows : (rows : List (List ℕ)) → Asc (key p.k) at rows (suc (bd p.k l)) → LeafFits p (with_rows l rows)
        → HoldsCells p (master_for p (bs ++ (sec ib (low ++ (with_rows l rows ∷ high)) ∷ cs)) f) (wrotes text (lf (with_rows l rows) ∷ []))
        (bs ++ (sec ib (low ++ (with_rows l rows ∷ high)) ∷ cs)) f
    unfolding bd leaf_cell cell_times weigh
    replace-rows rows asc ok =
        leaf-region bs ib low (l ∷ []) high cs f master text h (with_rows l rows ∷ []) f (lf l ∷ []) ((ib, ix (low ++ (l ∷ high))) ∷ free_cells p f)
        (lf (with_rows l rows) ∷ [])
        (λ w. omega arith) (λ w. rw (index_same low l rows high) (omega arith)) (λ b. refl) (asc, tt) refl
        (rw (length-append low) (omega arith))
        (rw (length-append low) (rw (length-append low) at (section-ok bs ib low (l ∷ []) high cs f master text h).room)) (ok, tt) refl

    -- ---- a leaf becomes two: the rows up to x, and those after it in a new block

    split-ranged : (xs : List (List ℕ)) (x : List ℕ) (ys : List (List ℕ)) (nb : ℕ) → Asc (key p.k) at (xs ++ x ∷ ys) (suc (bd p.k l))
        → Ranged p.k at (lower l xs x ∷ (upper l nb ys ∷ []))
    unfolding bd key
    split-ranged xs x ys nb asc =
        let K : List ℕ → ℕ = key p.k in
        let both : Asc K at ((xs ++ x ∷ []) ++ ys) (suc (bd p.k l)) = rw (append_assoc xs (x ∷ []) ys) asc in
        (rw (after-snoc K at xs x) at (asc-left K at (xs ++ x ∷ []) ys _ both), (rw (after-snoc K at xs x) at (asc-right K at (xs ++ x ∷ []) ys _ both), tt))

    -- `ws` are the three writes, in any order: NSERT writes old, new, index, and XTEND old, index, new
    pub split-leaf : (f' : Free) (nb : ℕ) (t : List ℕ) → free_cells p f ≡ (nb, t) ∷ free_cells p f' → f'.lowest + f'.spare ≡ f.lowest + f.spare
        → (xs : List (List ℕ)) (x : List ℕ) (ys : List (List ℕ)) → Asc (key p.k) at (xs ++ x ∷ ys) (suc (bd p.k l))
        → length (low ++ (l ∷ high)) < I p → LeafFits p (lower l xs x) → LeafFits p (upper l nb ys)
        → (ws : List Cell) → SameCells ws (lf (lower l xs x) ∷ (lf (upper l nb ys) ∷ ((ib, ix (low ++ (lower l xs x ∷ (upper l nb ys ∷ high)))) ∷ [])))
        → HoldsCells p (master_for p (bs ++ (sec ib (low ++ (lower l xs x ∷ (upper l nb ys ∷ high))) ∷ cs)) f') (wrotes text ws)
        (bs ++ (sec ib (low ++ (lower l xs x ∷ (upper l nb ys ∷ high))) ∷ cs)) f'
    unfolding bd leaf_cell cell_times weigh
    split-leaf f' nb t new num xs x ys asc room ok₁ ok₂ ws order =
        leaf-region bs ib low (l ∷ []) high cs f master text h (lower l xs x ∷ (upper l nb ys ∷ [])) f'
        (lf l ∷ ((nb, t) ∷ ((ib, ix (low ++ (l ∷ high))) ∷ []))) (free_cells p f') ws
        (λ w. rw new (omega arith)) (λ w. rw (weigh-append w ws (free_cells p f')) (omega (arith, order w))) (λ b. order (λ c. is c.0 b))
        (split-ranged xs x ys nb asc) refl
        (rw (length-append low) (omega arith)) (rw (length-append low) (omega (arith, length-append low (l ∷ high)))) (ok₁, (ok₂, tt)) num

    -- ---- and the section two: the entries A, and the entries B in a new index block

    pub split-both : (f' : Free) (nb nib : ℕ) (t t' : List ℕ) → free_cells p f ≡ (nb, t) ∷ ((nib, t') ∷ free_cells p f')
        → f'.lowest + f'.spare ≡ f.lowest + f.spare
        → (xs : List (List ℕ)) (x : List ℕ) (ys : List (List ℕ)) → Asc (key p.k) at (xs ++ x ∷ ys) (suc (bd p.k l))
        → LeafFits p (lower l xs x) → LeafFits p (upper l nb ys)
        → (as' bs' : List Leaf) → as' ++ bs' ≡ low ++ (lower l xs x ∷ (upper l nb ys ∷ high)) → 1 ≤ length as' → length as' ≤ I p → 1 ≤ length bs'
        → length bs' ≤ I p
        → length (bs ++ (sec ib (low ++ (l ∷ high)) ∷ cs)) < p.control
        → (ws : List Cell) → SameCells ws (lf (lower l xs x) ∷ (lf (upper l nb ys) ∷ ((ib, ix as') ∷ ((nib, ix bs') ∷ []))))
        → HoldsCells p (master_for p (bs ++ (sec ib as' ∷ (sec nib bs' ∷ cs))) f') (wrotes text ws) (bs ++ (sec ib as' ∷ (sec nib bs' ∷ cs))) f'
    unfolding bd cell_times
    split-both f' nb nib t t' new num xs x ys asc ok₁ ok₂ as' bs' e a₁ a₂ b₁ b₂ room ws order =
        let two : List Leaf = lower l xs x ∷ (upper l nb ys ∷ []) in
        let old : All (LeafFits p) (low ++ (l ∷ high)) = (section-ok bs ib low (l ∷ []) high cs f master text h).leaves in
        let oks : All (LeafFits p) (as' ++ bs')
        = rw e (all_append (LeafFits p) low _ (all_left (LeafFits p) low _ old) (ok₁, (ok₂, (all_right (LeafFits p) low _ old).1))) in
        let keep : List Cell = map lf low ++ (map lf high ++ free_cells p f') in
        region p bs (sec ib (low ++ (l ∷ high)) ∷ []) cs f master text h (sec ib as' ∷ (sec nib bs' ∷ [])) f'
        (lf l ∷ ((nb, t) ∷ ((ib, ix (low ++ (l ∷ high))) ∷ ((nib, t') ∷ [])))) keep ws
        (λ w. section-cells ib (low ++ (l ∷ high)) (free_cells p f) w ∙ simp (map-append, weigh-append, weigh-cons, weigh-nil, new) (omega arith))
        (λ w. two_cells ib as' nib bs' (free_cells p f') w ∙ simp (weigh-append, weigh-cons)
        (omega (
          arith,
          simp (weigh-cons, weigh-nil) at (order w),
          simp (map-append, weigh-append, weigh-cons) at
              (ap (λ (z : List Leaf). weigh w (map lf z)) e),
        )))
        (λ b. order (λ c. is c.0 b) ∙ unfold leaf_cell weigh in refl)
        (rw (append-nil bs', e) (ranged-swap p.k _ low (l ∷ []) two high (section-ranged bs ib low (l ∷ []) high cs f master text h)
        (split-ranged xs x ys nb asc) refl))
        (rw (append-nil bs', e, append-nil (low ++ (l ∷ high))) (reach-swap p.k _ low (l ∷ []) two high refl)) (
          record { some = a₁; room = a₂; leaves = all_left (LeafFits p) as' _ oks },
          (record { some = b₁; room = b₂; leaves = all_right (LeafFits p) as' _ oks }, tt),
        )
        (rw (length-append bs) (omega (arith, length-append bs (sec ib (low ++ (l ∷ high)) ∷ cs)))) num

  -- ---- a leaf is emptied: its block becomes the chain's head

  abbrev pub push : ℕ → Free → Free
  push b f = record { chain = b ∷ f.chain; lowest = f.lowest; spare = f.spare }

  abbrev pub link : Free → List ℕ
  link f = free_text p (head_or f.chain 0)

  abbrev pub with_bound : Leaf → List ℕ → Leaf
  with_bound l b = record { bound = b; block = l.block; records = l.records }

  push-cells : (b : ℕ) (f : Free) → free_cells p (push b f) ≡ (b, link f) ∷ free_cells p f
  unfolding free_cells
  push-cells b f = refl

  -- another leaf follows it in its section
  pub drop-leaf : (bs : List Section) (ib : ℕ) (low : List Leaf) (l m : Leaf) (high : List Leaf) (cs : List Section) (f : Free) (master : List ℕ)
      (text : ℕ → List ℕ)
      (h : HoldsCells p master text (bs ++ (sec ib (low ++ (l ∷ (m ∷ high))) ∷ cs)) f)
      → HoldsCells p (master_for p (bs ++ (sec ib (low ++ (m ∷ high)) ∷ cs)) (push l.block f))
      (wrotes text ((l.block, link f) ∷ ((ib, ix (low ++ (m ∷ high))) ∷ [])))
      (bs ++ (sec ib (low ++ (m ∷ high)) ∷ cs)) (push l.block f)
  unfolding leaf_cell cell_times weigh
  drop-leaf bs ib low l m high cs f master text h =
      let r : Ranged p.k _ (l ∷ (m ∷ [])) = leaves-ranged bs ib low (l ∷ (m ∷ [])) high cs f master text h in
      let ok : SectionOk p (sec ib (low ++ (l ∷ (m ∷ high)))) = section-ok bs ib low (l ∷ (m ∷ [])) high cs f master text h in
      leaf-region bs ib low (l ∷ (m ∷ [])) high cs f master text h (m ∷ []) (push l.block f) (lf l ∷ ((ib, ix (low ++ (l ∷ (m ∷ high)))) ∷ []))
      (lf m ∷ free_cells p f)
      ((l.block, link f) ∷ ((ib, ix (low ++ (m ∷ high))) ∷ []))
      (λ w. omega arith) (λ w. rw (push-cells l.block f) (omega arith)) (λ b. refl)
      (asc-wide _ _ _ m.records _ _ r.1.0 (asc-le _ _ l.records _ r.0) (omega arith), tt) refl
      (rw (length-append low) (omega arith)) (rw (length-append low) (omega (arith, ok.room, length-append low (l ∷ (m ∷ high)))))
      (leaves-ok bs ib low (l ∷ (m ∷ [])) high cs f master text h).1 refl

  -- it is the last one of its section, and the one before takes its bound
  pub drop-last : (bs : List Section) (ib : ℕ) (low : List Leaf) (y l : Leaf) (cs : List Section) (f : Free) (master : List ℕ) (text : ℕ → List ℕ)
      (h : HoldsCells p master text (bs ++ (sec ib (low ++ (y ∷ (l ∷ []))) ∷ cs)) f)
      → HoldsCells p (master_for p (bs ++ (sec ib (low ++ (with_bound y l.bound ∷ [])) ∷ cs)) (push l.block f))
      (wrotes text ((l.block, link f) ∷ ((ib, ix (low ++ (with_bound y l.bound ∷ []))) ∷ [])))
      (bs ++ (sec ib (low ++ (with_bound y l.bound ∷ [])) ∷ cs)) (push l.block f)
  unfolding leaf_cell cell_times weigh bd
  drop-last bs ib low y l cs f master text h =
      let r : Ranged p.k _ (y ∷ (l ∷ [])) = leaves-ranged bs ib low (y ∷ (l ∷ [])) [] cs f master text h in
      let ok : SectionOk p (sec ib (low ++ (y ∷ (l ∷ [])))) = section-ok bs ib low (y ∷ (l ∷ [])) [] cs f master text h in
      let oks : All (LeafFits p) (y ∷ (l ∷ [])) = leaves-ok bs ib low (y ∷ (l ∷ [])) [] cs f master text h in
      leaf-region bs ib low (y ∷ (l ∷ [])) [] cs f master text h (with_bound y l.bound ∷ []) (push l.block f)
      (lf l ∷ ((ib, ix (low ++ (y ∷ (l ∷ [])))) ∷ [])) (lf y ∷ free_cells p f)
      ((l.block, link f) ∷ ((ib, ix (low ++ (with_bound y l.bound ∷ []))) ∷ []))
      (λ w. omega arith) (λ w. rw (push-cells l.block f) (omega arith)) (λ b. refl)
      (asc-wide _ _ _ y.records _ _ r.0 (omega arith) (asc-le _ _ l.records _ r.1.0), tt) refl
      (rw (length-append low) (omega arith)) (rw (length-append low) (omega (arith, ok.room, length-append low (y ∷ (l ∷ [])))))
      (record { some = oks.0.some; room = oks.0.room; rows = oks.0.rows; bound = oks.1.0.bound; wide = oks.1.0.wide }, tt) refl

  gone-cells : (jb : ℕ) (ns : List Leaf) (x y : Cell) (free : List Cell)
      → SameCells (cells_of p (sec jb ns ∷ []) ++ (x ∷ (y ∷ free))) ((y ∷ (x ∷ [])) ++ ((jb, ix ns) ∷ (map lf ns ++ free)))
  gone-cells jb ns x y free w = section-cells jb ns (x ∷ (y ∷ free)) w ∙ simp (weigh-append, weigh-cons, weigh-nil) (omega arith)

  -- it is the only one of its section, which goes too: the section after it covers its range
  pub drop-section : (bs : List Section) (ib : ℕ) (l : Leaf) (jb : ℕ) (m : Leaf) (hs : List Leaf) (cs : List Section) (f : Free) (master : List ℕ)
      (text : ℕ → List ℕ)
      (h : HoldsCells p master text (bs ++ (sec ib (l ∷ []) ∷ (sec jb (m ∷ hs) ∷ cs))) f)
      → HoldsCells p (master_for p (bs ++ (sec jb (m ∷ hs) ∷ cs)) (push ib (push l.block f)))
      (wrotes text ((l.block, link f) ∷ ((ib, link (push l.block f)) ∷ [])))
      (bs ++ (sec jb (m ∷ hs) ∷ cs)) (push ib (push l.block f))
  drop-section bs ib l jb m hs cs f master text h =
      let r : Ranged p.k (reach p.k 0 (leaves_in bs)) (l ∷ (m ∷ (hs ++ leaves_in cs)))
      = ranged-right p.k 0 (leaves_in bs) _ (rw (leaves_in-append bs (sec ib (l ∷ []) ∷ (sec jb (m ∷ hs) ∷ cs))) at h.ranged) in
      let oks : All (SectionOk p) (sec ib (l ∷ []) ∷ (sec jb (m ∷ hs) ∷ cs)) = all_right (SectionOk p) bs _ h.sized in
      region p bs (sec ib (l ∷ []) ∷ (sec jb (m ∷ hs) ∷ [])) cs f master text h (sec jb (m ∷ hs) ∷ []) (push ib (push l.block f))
      (lf l ∷ ((ib, ix (l ∷ [])) ∷ [])) ((jb, ix (m ∷ hs)) ∷ (map lf (m ∷ hs) ++ free_cells p f)) ((l.block, link f) ∷ ((ib, link (push l.block f)) ∷ []))
      (λ w. two_cells ib (l ∷ []) jb (m ∷ hs) (free_cells p f) w ∙ simp (weigh-append, weigh-cons, weigh-nil) (omega arith))
      (rw (push-cells ib (push l.block f), push-cells l.block f)
      (gone-cells jb (m ∷ hs) (ib, link (push l.block f)) (l.block, link f) (free_cells p f)))
      (λ b. unfold leaf_cell cell_times weigh in refl) (
        asc-wide _ _ _ m.records _ _ r.1.0 (asc-le _ _ l.records _ r.0) (omega arith),
        rw (append-nil hs)
            (ranged-left p.k _ hs (leaves_in cs) r.1.1),
      )
      refl
      (oks.1.0, tt)
      (rw (length-append bs) (omega (arith, h.sections, length-append bs (sec ib (l ∷ []) ∷ (sec jb (m ∷ hs) ∷ cs)))))
      refl
