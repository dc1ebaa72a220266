-- NSERT into a full block: it splits, and so does a full index block.
use Prim.Native.Nat.{ℕ, suc, ◌+◌, ◌-◌, ◌≤◌, ◌<◌}
use mathlib.Core.Bool.{Bool, true, cond}
use mathlib.Core.Path.{◌≡◌, refl, sym, ap, ◌∙◌, subst}
use mathlib.Core.List.{List, [], ◌∷◌, ◌++◌, append-nil, append_assoc}
use native.Mathlib.Omega.{arith}
use lib.Dec.{ltb}
use lib.ListN.{length, length-append}
use Rattle.numbers.specs.Checked.{passed}
use Rattle.words.specs.Keys.{val}
use Rattle.table.specs.Splits.{low_count, entered}
use Rattle.drum.specs.Params.{D, I, good_params, master_shape}
use Rattle.drum.specs.Blocks.{Transfer, text_of, written}
use Rattle.drum.proofs.Good.{good-facts}
use Rattle.rules.specs.declared.Way.{Way}
use Rattle.rules.specs.declared.Way.TheVariants.{By}
use Rattle.rules.specs.declared.Look.TheVariants.{Missing}
use Rattle.rules.specs.declared.Insert.TheVariants.{Split, Both}
use Rattle.rules.specs.State.{State, Outcome, Effect, desc, texts, key_in}
use Rattle.rules.specs.Lookup.{reached, look, landing}
use Rattle.rules.specs.Nsert.{half_count}
use Rattle.rules.specs.NsertDone.{insert_done, nsert, split_moves, both_split_moves, split_file, both_split_file, index_entry}
use Rattle.rules.proofs.Sizes.{way-few}
use Rattle.demands.proofs.Scene.{scene}
use Rattle.demands.proofs.Lists.{All, all_left, all_right}
use Rattle.demands.proofs.Order.{Asc, hit, ins}
use Rattle.layout.specs.Tree.{Leaf, Section}
use Rattle.demands.proofs.Trees.{leaves_in, records_in, key, leaf_cell}
use Rattle.demands.proofs.Holds.{Free, HoldsCells, LeafFits, head_or, master_for}
use Rattle.demands.proofs.Steps.{sec, lf, ix, lower, upper}
use Rattle.demands.proofs.Places.{Place, tree_of, tree_with, olds, lo, hi}
use Rattle.demands.proofs.Texts.{half}
use Rattle.demands.proofs.Blocks.{master_of, cells_written, Fits}
use Rattle.demands.proofs.Entries.{index-long}
use Rattle.demands.proofs.Paths.{path_of}
use Rattle.demands.proofs.Sound.{Key}
use Rattle.demands.proofs.Answers.{Ready, work-is, work-ok, Gives}
use Rattle.demands.proofs.Reach.{At}
use Rattle.demands.proofs.Lookup.{Covers}
use Rattle.demands.proofs.Frees.{next, free_count, taken, taken_of, stored_with, taken-count, next-in, second-in}
use Rattle.rules.specs.Free.{with_free}
use Rattle.demands.proofs.Cells.{Cell}
use Rattle.demands.proofs.Masters.{master-entered}
use Rattle.demands.proofs.Acts.{low_fits, high_fits, index-fits, two-spot, two-gives, leaves-cut, half-spot, last-cut, four-gives}
use Rattle.demands.proofs.NsertTexts.{low_ok, high-ok, low-is, high_is, index_is, news-length, news-ok, size₂, index-low, index-high, index-entry, size}
use Rattle.demands.proofs.Nsert.{nsert-by, place, asc-ins-here, ins-contents, ins-ended}
use Rattle.demands.proofs.NsertDeed.{split-deed, both-deed}
use Rattle.demands.proofs.Growth.{a_split, both_split, grow-from}
use Rattle.demands.proofs.Changes.{grow-split, grow-both}

module _ (st : State) (ss : List Section) (f : Free) (r : Ready (desc st).wpr st ss f) (kw : Key (desc st) (key_in (desc st) st.work)) (a : Place)
    (A : At (texts st) st.session.flag ss f a (By (path_of a))) (C : Covers (texts st) (key_in (desc st) st.work) a)
    (none : hit (key (desc st).k) (val (key_in (desc st) st.work)) a.leaf.records ≡ [])
    (l : look (texts st) st.session.flag (key_in (desc st) st.work) ≡ passed (Missing (path_of a)))
    (full : length a.leaf.records ≡ D (desc st)) where
  open scene st ss use {p, v, flag, K, rows}

  -- where the record goes, and whether that is in the lower half
  abbrev i : ℕ
  i = place st ss f r kw a A C none l

  abbrev pub in_low : Bool
  in_low = ltb (place st ss f r kw a A C none l) (low_count (D (desc st)))

  good : good_params p ≡ true
  good = r.sound.kept.good

  hd : HoldsCells p (master_of p st.file) (text_of v) ss f
  hd = r.sound.kept.holds

  module _ (xs : List (List ℕ)) (y : List ℕ) (ys : List (List ℕ)) (cut : ins (key (desc st).k) st.work a.leaf.records ≡ xs ++ y ∷ ys)
      (lx : suc (length xs) ≡ low_count (D (desc st))) where
    abbrev nb : ℕ
    nb = next f

    abbrev leaf₁ : Leaf
    leaf₁ = lower (desc st) a.leaf xs y

    abbrev leaf₂ : Leaf
    leaf₂ = upper (desc st) a.leaf (next f) ys

    abbrev ls : List Leaf
    ls = a.low ++ (lower (desc st) a.leaf xs y ∷ (upper (desc st) a.leaf (next f) ys ∷ a.high))

    ok₁ : LeafFits p leaf₁
    ok₁ = low_ok v a f A.held good st.work (work-ok st ss f r) full xs y ys cut lx nb

    ok₂ : LeafFits p leaf₂
    ok₂ = high-ok v a f A.held good st.work (work-ok st ss f r) full xs y ys cut lx nb

    asc : Asc K (lo p a) (xs ++ y ∷ ys) (hi p a)
    asc = rw (← cut) (asc-ins-here st ss f r kw a A C none l)

    now : records_in (leaves_in (tree_with a (leaf₁ ∷ (leaf₂ ∷ [])))) ≡ ins K st.work rows
    now = ins-contents st ss f r kw a A C none l (leaf₁ ∷ (leaf₂ ∷ [])) (rw (append-nil ys) (append_assoc xs (y ∷ []) ys ∙ sym cut))

    cost : (ms : List Transfer) (n : ℕ) → length ms ≡ n → length ((reached v flag (By (path_of a))).moves ++ ms) ≤ 3 + n
    cost ms n e = rw (length-append (reached v flag (By (path_of a))).moves ms) (omega (arith, e, way-few v flag (By (path_of a))))

    low-length : length leaf₁.records ≡ low_count (D p)
    low-length = rw (length-append xs (y ∷ [])) (omega (arith, lx))

    high-length : length leaf₂.records ≡ D p + 1 - low_count (D p)
    high-length = omega (arith, size v a f A.held good st.work (work-ok st ss f r) full xs y ys cut lx nb, lx)

    -- the leaf becomes two
    pub nsert-split : length (olds a) < I p → 1 ≤ free_count f
        → Gives st ss (nsert st) (stored_with p (half_count (D p) i) (taken f)) 7 (ins K st.work rows) a_split (tree_with a (leaf₁ ∷ (leaf₂ ∷ []))) (taken f)
    unfolding insert_done split_file split_moves cells_written leaf_cell
    nsert-split less some =
        let n : ℕ = stored_with p (half_count (D p) i) (taken f) in
        let ms : List Transfer = split_moves v (path_of a) i st.work nb in
        let way : Way = By (path_of a) in
        let moves : List Transfer = (reached v flag way).moves ++ ms in
        let file' : List ℕ = written p moves (with_free (head_or (taken f).chain 0) (taken f).lowest st.file) in
        let e : Effect = landing p n st.work moves (cond in_low a.leaf.block nb) file' in
        let done : insert_done v flag st.work (Split (path_of a) i (taken_of f) n) ≡ passed e
        = ap (λ (x : List ℕ). passed (landing p n st.work ((reached v flag way).moves ++ split_moves v (path_of a) i x nb) (cond in_low a.leaf.block nb)
        (split_file v flag (path_of a) i x (taken_of f)))) (work-is st ss f r) in
        let ws : List Cell = lf p leaf₁ ∷ (lf p leaf₂ ∷ ((a.index, ix p ls) ∷ [])) in
        let ms-is : cells_written ms ≡ ws
        = rw (
          low-is v a f A.held good st.work (work-ok st ss f r) full xs y ys cut lx nb,
          high_is v a f A.held good st.work (work-ok st ss f r) full xs y ys cut lx nb,
          index_is v a f A.held good st.work (work-ok st ss f r) full xs y ys cut lx nb less,
        ) in
        let fit : All (Fits p) ws
        = (
          low_fits st ss f r.sound r.opened kw a way A xs y ys nb asc ok₁ ok₂,
          (
            high_fits st ss f r.sound r.opened kw a way A xs y ys nb asc ok₁ ok₂ (next-in p _ _ ss f hd some),
            (
              index-fits st ss f r.sound r.opened kw a way A xs y ys nb asc ok₁ ok₂ ls
                  (news-ok v a f A.held good st.work (work-ok st ss f r) full xs y ys cut lx nb)
                  (rw (news-length v a f A.held good st.work (work-ok st ss f r) full xs y ys cut lx nb) less),
              tt,
            ),
          ),
        ) in
        subst (λ (z : Outcome). Gives st ss z n 7 (ins K st.work rows) a_split (tree_with a (leaf₁ ∷ (leaf₂ ∷ []))) (taken f))
        (sym (nsert-by st ss f r (Split (path_of a) i (taken_of f) n) e (split-deed st ss f r kw a A C none l full less some) done))
        (two-gives st ss f r.sound r.opened kw a way A xs y ys nb asc ok₁ ok₂ refl some less ms ws ms-is fit (λ w. refl) (ins K st.work rows) now
        (ins-ended st ss f r kw a A C none l)
        (cond in_low a.leaf.block nb) (two-spot st ss f r.sound r.opened kw a way A xs y ys nb asc ok₁ ok₂ in_low) n 7 (cost ms 4 refl) a_split
        (grow-from p ss (tree_of a) _ a_split A.is (grow-split p good a leaf₁ leaf₂ full low-length high-length)))

    -- the section becomes two besides
    module _ (most : length (olds a) ≡ I (desc st)) (qs : List Leaf) (q : Leaf) (zs : List Leaf)
        (cut₂ : a.low ++ (lower (desc st) a.leaf xs y ∷ (upper (desc st) a.leaf (next f) ys ∷ a.high)) ≡ qs ++ q ∷ zs)
        (lq : suc (length qs) ≡ low_count (I (desc st))) where
      abbrev nib : ℕ
      nib = next (taken f)

      abbrev us : List Leaf
      us = qs ++ (q ∷ [])

      joined : us ++ zs ≡ ls
      joined = append_assoc qs (q ∷ []) zs ∙ sym cut₂

      halves : (2 ≤ low_count (I p)) × (low_count (I p) ≤ I p)
      halves = half (I p) (good-facts p good).two-entries

      sizes : length qs + suc (length zs) ≡ suc (I p)
      sizes = size₂ v a f A.held good st.work (work-ok st ss f r) full xs y ys cut lx nb most qs q zs cut₂ lq

      us-length : length us ≡ low_count (I p)
      us-length = rw (length-append qs (q ∷ [])) (omega (arith, lq))

      a₁ : 1 ≤ length us
      a₁ = omega (arith, us-length, halves)

      a₂ : length us ≤ I p
      a₂ = omega (arith, us-length, halves)

      b₁ : 1 ≤ length zs
      b₁ = omega (arith, sizes, lq, halves)

      b₂ : length zs ≤ I p
      b₂ = omega (arith, sizes, lq, halves)

      all-ok : All (LeafFits p) (us ++ zs)
      all-ok = rw joined (news-ok v a f A.held good st.work (work-ok st ss f r) full xs y ys cut lx nb)

      pub nsert-both : 2 ≤ free_count f → length ss < p.control → Gives st ss (nsert st) (stored_with p (half_count (D p) i) (taken (taken f))) 8
          (ins K st.work rows) both_split (a.before ++ (sec a.index us ∷ (sec nib zs ∷ a.behind))) (taken (taken f))
      unfolding insert_done both_split_file both_split_moves cells_written leaf_cell
      nsert-both two c =
          let n : ℕ = stored_with p (half_count (D p) i) (taken (taken f)) in
          let f₂ : Free = taken (taken f) in
          let some : 1 ≤ free_count f = omega arith in
          let some₂ : 1 ≤ free_count (taken f) = omega (arith, taken-count f some) in
          let ms : List Transfer = both_split_moves v (path_of a) i st.work nb nib in
          let way : Way = By (path_of a) in
          let moves : List Transfer = (reached v flag way).moves ++ ms in
          let d : ℕ = cond in_low a.leaf.block nb in
          let file₁ : List ℕ = with_free (head_or f₂.chain 0) f₂.lowest st.file in
          let file' : List ℕ = entered (master_shape p) (length a.before) (index_entry v (path_of a) i st.work nb) nib (written p moves file₁) in
          let e : Effect = landing p n st.work moves d file' in
          let done : insert_done v flag st.work (Both (path_of a) i nb (taken_of (taken f)) n) ≡ passed e
          = ap (λ (x : List ℕ). passed (landing p n st.work ((reached v flag way).moves ++ both_split_moves v (path_of a) i x nb nib) d
          (both_split_file v flag (path_of a) i x nb (taken_of (taken f))))) (work-is st ss f r) in
          let ws : List Cell = lf p leaf₁ ∷ (lf p leaf₂ ∷ ((a.index, ix p us) ∷ ((nib, ix p zs) ∷ []))) in
          let ms-is : cells_written ms ≡ ws
          = rw (
            low-is v a f A.held good st.work (work-ok st ss f r) full xs y ys cut lx nb,
            high_is v a f A.held good st.work (work-ok st ss f r) full xs y ys cut lx nb,
            index-low v a f A.held good st.work (work-ok st ss f r) full xs y ys cut lx nb most qs q zs cut₂ lq,
            index-high v a f A.held good st.work (work-ok st ss f r) full xs y ys cut lx nb most qs q zs cut₂ lq,
          ) in
          let i₂ : (1 ≤ nib) × (nib ≤ p.n) = second-in p _ _ ss f hd some some₂ in
          let fit : All (Fits p) ws
          = (
            low_fits st ss f r.sound r.opened kw a way A xs y ys nb asc ok₁ ok₂,
            (
              high_fits st ss f r.sound r.opened kw a way A xs y ys nb asc ok₁ ok₂ (next-in p _ _ ss f hd some),
              (
                index-fits st ss f r.sound r.opened kw a way A xs y ys nb asc ok₁ ok₂ us (all_left (LeafFits p) us _ all-ok) a₂,
                ((i₂.0, i₂.1, index-long p good zs (all_right (LeafFits p) us _ all-ok) b₂), tt),
              ),
            ),
          ) in
          let op : List ℕ → List ℕ = entered (master_shape p) (length a.before) (index_entry v (path_of a) i st.work nb) nib in
          let law : (rest : List ℕ) → op (master_for p (tree_of a) f₂ ++ rest) ≡ master_for p
          (a.before ++ (sec a.index us ∷ (sec nib zs ∷ a.behind))) f₂ ++ rest
          = λ rest. ap (λ (x : List ℕ). entered (master_shape p) (length a.before) x nib (master_for p (tree_of a) f₂ ++ rest))
          (index-entry v a f A.held good st.work (work-ok st ss f r) full xs y ys cut lx nb most qs q zs cut₂ lq)
          ∙ master-entered p good a.before (sec a.index (olds a)) a.behind A.held.sized f₂ rest (sec a.index us) (sec nib zs)
          (record { some = a₁; room = a₂; leaves = all_left (LeafFits p) us _ all-ok })
          (last-cut st ss f r.sound r.opened kw a way A xs y ys nb asc ok₁ ok₂ nib us zs joined a₁ a₂ b₁ b₂) (rw (← A.is) c) in
          subst (λ (z : Outcome). Gives st ss z n 8 (ins K st.work rows) both_split (a.before ++ (sec a.index us ∷ (sec nib zs ∷ a.behind)))
          (taken (taken f))) (sym (nsert-by st ss f r (Both (path_of a) i nb (taken_of (taken f)) n) e
          (both-deed st ss f r kw a A C none l full most two c) done))
          (four-gives st ss f r.sound r.opened kw a way A xs y ys nb asc ok₁ ok₂ nib us zs joined a₁ a₂ b₁ b₂ refl refl two
          (rw (← A.is) c) ms ws ms-is fit (λ w. refl) op law
          (ins K st.work rows)
          (ap records_in (leaves-cut st ss f r.sound r.opened kw a way A xs y ys nb asc ok₁ ok₂ nib us zs joined a₁ a₂ b₁ b₂) ∙ now)
          (ins-ended st ss f r kw a A C none l)
          d (half-spot st ss f r.sound r.opened kw a way A xs y ys nb asc ok₁ ok₂ nib us zs joined a₁ a₂ b₁ b₂ in_low) n 8 (cost ms 5 refl) both_split
          (grow-from p ss (tree_of a) _ both_split A.is
          (grow-both p good a leaf₁ leaf₂ nib us zs joined full low-length high-length most us-length (omega (arith, sizes, lq)))))
