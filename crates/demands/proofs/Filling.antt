-- The blocks that NSERT and XTEND take, and what XTEND makes of a tree filled by XTEND.
use Prim.Native.Nat.{ℕ, suc, ◌+◌, ◌-◌, ◌≤◌, ◌<◌}
use mathlib.Core.Bool.{true}
use mathlib.Core.Path.{◌≡◌, refl, sym, ap, ◌∙◌, subst}
use mathlib.Core.Logic.{◌⊎◌, inl, inr}
use mathlib.Core.List.{List, [], ◌∷◌, ◌++◌, append_assoc, append-nil}
use native.Mathlib.Omega.{arith}
use lib.ListN.{length, length-append, take, drop, get_or}
use lib.Seq.{split_at}
use Rattle.words.specs.Words.{part}
use Rattle.table.specs.Splits.{low_count}
use Rattle.drum.specs.declared.Description.{Description}
use Rattle.drum.specs.Params.{D, I, FD, FI, good_params}
use Rattle.drum.proofs.Good.{good-facts}
use Rattle.layout.specs.Create.{end_record}
use Rattle.layout.specs.Tree.{Leaf, Section, last_in}
use Rattle.layout.proofs.Lists.{last-right}
use Rattle.rules.specs.State.{State, desc, texts, key_in}
use Rattle.words.specs.Keys.{val}
use Rattle.demands.specs.Filled.{ButLast, Tight, Any, Filled}
use Rattle.demands.specs.Reuse.{Takes}
use Rattle.demands.proofs.Lists.{All, all_left, all_right, from_end}
use Rattle.demands.proofs.Order.{Asc, asc-right}
use Rattle.demands.proofs.Trees.{leaves_in, records_in, records-append, key, bd, reach, reach-append}
use Rattle.demands.proofs.Holds.{Free, LeafFits, SectionOk}
use Rattle.demands.proofs.Records.{rows_ok}
use Rattle.demands.proofs.Answers.{work-key}
use Rattle.demands.proofs.Between.{leaves_before, leaves_of_lem, start_of}
use Rattle.demands.proofs.Steps.{with_rows, lower, upper}
use Rattle.demands.proofs.Places.{Place, tree_of, tree_with, olds, lo}
use Rattle.demands.proofs.Texts.{half}
use Rattle.demands.proofs.Frees.{next, taken}
use Rattle.demands.proofs.Last.{ending, Last}
use Rattle.demands.proofs.NsertRight.{Belongs, rows_with, halves, two_sections}
use Rattle.demands.proofs.XtendRight.{with_record, with_block, with_section}
use Rattle.demands.proofs.Moves.{tree_in, none-new, one-new, two-new}
use Rattle.demands.proofs.Fills.{filled-swap, filled-block, filled-section}

-- the tree before, told in another way
takes-from : (d x : ℕ) (ss ss₀ ss' : List Section) (f f' : Free) → ss ≡ ss₀ → Takes d x (tree_in ss₀ f) (tree_in ss' f')
    → Takes d x (tree_in ss f) (tree_in ss' f')
takes-from d x ss ss₀ ss' f f' e = subst (λ (z : List Section). Takes d x (tree_in z f) (tree_in ss' f')) (sym e)

one_last : (y : List ℕ) → last_in (y ∷ []) ≡ y
unfolding last_in
one_last y = refl

bound-is : (k : ℕ) (l : Leaf) → bd k l ≡ val l.bound
unfolding bd
bound-is k l = refl

-- of a list's last but one
but-last-before : {A : Type 0} (P Q : A → Type 0) (xs : List A) (x y : A) → ButLast P Q ((xs ++ x ∷ []) ++ y ∷ []) → P x
unfolding ButLast
but-last-before P Q [] x y h = h.0
but-last-before P Q (z ∷ []) x y h = h.1.0
but-last-before P Q (z ∷ u ∷ xs) x y h = but-last-before P Q (u ∷ xs) x y h.1

module _ (st : State) (ss : List Section) (f : Free) where
  abbrev p : Description
  p = desc st

  -- ---- NSERT

  module _ (a : Place) (B : Belongs st ss a) where
    pub room-blocks : Takes 0 0 (tree_in ss f) (tree_in (tree_with a (with_rows p a.leaf (rows_with st a) ∷ [])) f)
    room-blocks = takes-from 0 0 ss (tree_of a) _ f f B.is (none-new a f (with_rows p a.leaf (rows_with st a)) refl)

    abbrev low : Leaf
    low = let rs = rows_with st a in let j = low_count (D (desc st)) - 1 in lower (desc st) a.leaf (take j rs) (get_or rs j [])

    abbrev high : Leaf
    high = let rs = rows_with st a in let j = low_count (D (desc st)) - 1 in upper (desc st) a.leaf (next f) (drop (suc j) rs)

    pub split-blocks : Takes 1 0 (tree_in ss f) (tree_in (tree_with a (halves st f a)) (taken f))
    split-blocks = takes-from 1 0 ss (tree_of a) _ f (taken f) B.is (one-new a f low high refl refl)

    pub both-blocks : length (olds a) ≡ I p → 2 ≤ I p → Takes 1 1 (tree_in ss f) (tree_in (two_sections st f a) (taken (taken f)))
    both-blocks most two =
        let ns : List Leaf = a.low ++ (low ∷ (high ∷ a.high)) in
        let i : ℕ = low_count (I p) - 1 in
        let long : i < length ns
        = omega (arith, length-append a.low (low ∷ (high ∷ a.high)), length-append a.low (a.leaf ∷ a.high), half (I p) two, most) in
        takes-from 1 1 ss (tree_of a) _ f (taken (taken f)) B.is
        (two-new a f low high refl refl (take i ns ++ (get_or ns i a.leaf ∷ [])) (drop (suc i) ns)
        (append_assoc (take i ns) (get_or ns i a.leaf ∷ []) (drop (suc i) ns) ∙ sym (split_at ns i a.leaf long)))

  -- ---- XTEND

  module _ (L : Last (texts st) st.session.flag ss f) where
    abbrev end : Place
    end = ending L.before L.index L.low L.leaf

    abbrev old : Leaf
    old = lower (desc st) L.leaf L.front st.work

    abbrev new : Leaf
    new = upper (desc st) L.leaf (next f) (end_record (desc st) ∷ [])

    pub record-blocks : Takes 0 0 (tree_in ss f) (tree_in (with_record st ss f L) f)
    record-blocks = takes-from 0 0 ss (tree_of end) _ f f L.at.is (none-new end f (with_rows p L.leaf (L.front ++ st.work ∷ (end_record p ∷ []))) refl)

    pub start-blocks : Takes 1 0 (tree_in ss f) (tree_in (with_block st ss f L) (taken f))
    start-blocks = takes-from 1 0 ss (tree_of end) _ f (taken f) L.at.is (one-new end f old new refl refl)

    pub start-both-blocks : Takes 1 1 (tree_in ss f) (tree_in (with_section st ss f L) (taken (taken f)))
    start-both-blocks =
        takes-from 1 1 ss (tree_of end) _ f (taken (taken f)) L.at.is
        (two-new end f old new refl refl (L.low ++ (old ∷ [])) (new ∷ []) (append_assoc L.low (old ∷ []) (new ∷ [])))

    size : length L.leaf.records ≡ length L.front + 1
    size = ap length L.rows_are ∙ length-append L.front (end_record p ∷ [])

    module _ (h : Filled p (tree_in ss f)) where
      filled-end : Filled p (tree_in (tree_of end) f)
      filled-end = subst (λ (z : List Section). Filled p (tree_in z f)) L.at.is h

      -- where every bound but the last is the key of its last record, no key below the last bounds is above all of them
      pub not-filled : val (key_in p st.work) < lo p end → Asc (key p.k) 0 (records_in (leaves_before end)) (val (key_in p st.work))
          → All (SectionOk p) ss → ⊥
      not-filled under below ok = go (from_end (leaves_before end))
        where
          flat : leaves_in ss ≡ leaves_before end ++ (L.leaf ∷ [])
          flat = ap leaves_in L.at.is ∙ leaves_of_lem end

          at : (ls : List Leaf) (m : Leaf) → leaves_before end ≡ ls ++ m ∷ []
              → (m.records ≡ []) ⊎ ((fr : List (List ℕ)) × (y : List ℕ) × (m.records ≡ fr ++ y ∷ [])) → ⊥
          at ls m e (inl n) =
              omega (
                arith,
                (all_right (LeafFits p) ls _ (subst (All (LeafFits p)) e (all_left (LeafFits p) (leaves_before end) _ (subst (All (LeafFits p)) flat
                    (rows_ok p ss ok))))).0.some,
                ap length n,
              )
          at ls m e (inr (fr, y, g)) =
              let tight : m.bound ≡ key_in p (last_in m.records)
              = but-last-before (Tight p) Any ls m L.leaf (subst (ButLast (Tight p) Any) (flat
              ∙ ap (λ (z : List Leaf). z ++ (L.leaf ∷ [])) e) h.bounds) in
              let top : last_in m.records ≡ y = ap last_in g ∙ last-right fr (y ∷ []) (omega arith) ∙ one_last y in
              let start : lo p end ≡ suc (bd p.k m) = sym (start_of p end) ∙ ap (reach p.k 0) e ∙ reach-append p.k 0 ls (m ∷ []) in
              let is : bd p.k m ≡ key p.k y = bound-is p.k m ∙ ap val (tight ∙ ap (key_in p) top) ∙ sym (work-key p y) in
              let rows : records_in (leaves_before end) ≡ (records_in ls ++ fr) ++ (y ∷ [])
              = ap records_in e ∙ records-append ls (m ∷ []) ∙ ap (λ (z : List (List ℕ)). records_in ls ++ z) (append-nil m.records ∙ g)
              ∙ sym (append_assoc (records_in ls) fr (y ∷ [])) in
              let s
              = asc-right (key p.k) 0 (records_in ls ++ fr) (y ∷ []) (val (key_in p st.work))
              (subst (λ (z : List (List ℕ)). Asc (key p.k) 0 z (val (key_in p st.work))) rows below) in
              omega (arith, start, is, s.1)

          go : (leaves_before end ≡ []) ⊎ ((ls : List Leaf) × (m : Leaf) × (leaves_before end ≡ ls ++ m ∷ [])) → ⊥
          go (inl e) = omega (arith, start_of p end, ap (reach p.k 0) e)
          go (inr (ls, m, e)) = at ls m e (from_end m.records)

      pub record-filled : length L.leaf.records < FD p → Filled p (tree_in (with_record st ss f L) f)
      record-filled less =
          let rows : List (List ℕ) = L.front ++ st.work ∷ (end_record p ∷ []) in
          let last : last_in rows ≡ last_in L.leaf.records
          = last-right L.front (st.work ∷ (end_record p ∷ [])) (omega arith)
          ∙ unfold last_in in sym (ap last_in L.rows_are ∙ last-right L.front (end_record p ∷ []) (omega arith)) in
          filled-swap p end (with_rows p L.leaf rows) f refl refl (ap (key_in p) last) (λ e. absurd (omega (arith, less, e)))
          (λ e. omega (arith, less, size, length-append L.front (st.work ∷ (end_record p ∷ [])))) filled-end

      tight : old.bound ≡ key_in p (last_in old.records)
      unfolding part last_in
      tight = ap (key_in p) (sym (last-right L.front (st.work ∷ []) (omega arith)))

      old-size : length old.records ≡ length L.leaf.records
      old-size = omega (arith, size, length-append L.front (st.work ∷ []))

      module _ (good : good_params p ≡ true) (full : FD p ≤ length L.leaf.records) where
        few : 1 ≤ FD p
        unfolding FD
        few = omega (arith, (good-facts p good).space-records, (good-facts p good).two_records)

        pub start-filled : length (L.low ++ (L.leaf ∷ [])) < FI p → Filled p (tree_in (with_block st ss f L) (taken f))
        start-filled room = filled-block p L.before L.index L.low L.leaf old new f filled-end full old-size tight refl refl few room

        pub start-both-filled : FI p ≤ length (L.low ++ (L.leaf ∷ [])) → Filled p (tree_in (with_section st ss f L) (taken (taken f)))
        unfolding FI
        start-both-filled most =
            filled-section p L.before L.index L.low L.leaf old new f filled-end full old-size tight refl refl few (next (taken f)) most
            (omega (arith, (good-facts p good).space-entries, (good-facts p good).two-entries))
