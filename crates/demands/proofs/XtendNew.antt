-- XTEND that starts a block, and an index block and section besides.
use Prim.Native.Nat.{ℕ, ◌+◌, ◌-◌, ◌≤◌, ◌<◌}
use mathlib.Core.Bool.{false}
use mathlib.Core.Path.{◌≡◌, refl, sym, ap, ◌∙◌, subst}
use mathlib.Core.List.{List, [], ◌∷◌, ◌++◌, append-nil, append_assoc}
use native.Mathlib.Omega.{arith}
use lib.ListN.{length, length-append}
use Rattle.words.specs.Words.{part}
use Rattle.words.specs.Keys.{ones, val}
use Rattle.table.specs.Tables.{count, row, replaced, laid}
use Rattle.drum.specs.Params.{I, FD, FI, detail_shape, master_shape, index_shape}
use Rattle.drum.specs.Blocks.{Transfer, text_of, written}
use Rattle.drum.proofs.Good.{good-facts}
use Rattle.layout.specs.Create.{end_record}
use Rattle.rules.specs.declared.Extend.TheVariants.{New, Both}
use Rattle.rules.specs.State.{State, Outcome, desc, texts, key_in, record_in}
use Rattle.rules.specs.Lookup.{reached, text_at, landing}
use Rattle.rules.specs.XtendDone.{extend_done, xtend, old_text, end_text, ones_entry, bounded, extended, new_moves, section_moves, new_file, section_file}
use Rattle.rules.proofs.Sizes.{way-few}
use Rattle.demands.proofs.Scene.{scene}
use Rattle.demands.proofs.Lists.{All, all_append, all_left, all_right}
use Rattle.layout.specs.Tree.{Leaf, Section}
use Rattle.demands.proofs.Trees.{leaves_in, records_in, key, table, index_text, leaf_cell, entry}
use Rattle.demands.proofs.Holds.{Free, LeafFits, RowOk, head_or, master_for}
use Rattle.demands.proofs.Steps.{sec, lf, ix, lower, upper}
use Rattle.demands.proofs.Places.{tree_of, tree_with, lo, hi, last_bound-append}
use Rattle.demands.proofs.Blocks.{cells_written, Fits}
use Rattle.demands.proofs.Entries.{index-long}
use Rattle.demands.proofs.Paths.{path_of}
use Rattle.demands.proofs.Records.{key-long, record-replace, row_here}
use Rattle.demands.proofs.Sound.{Key}
use Rattle.demands.proofs.Answers.{Ready, work-is, work-ok, Gives}
use Rattle.demands.proofs.Frees.{free_count, stored_with, next, taken, taken_of, taken-count, next-in, second-in}
use Rattle.demands.proofs.Last.{Last}
use Rattle.rules.specs.Free.{with_free}
use Rattle.demands.proofs.Order.{Asc, ins}
use Rattle.demands.proofs.Cells.{Cell, weigh-cons, weigh-nil}
use Rattle.demands.proofs.Rows.{cat}
use Rattle.demands.proofs.Masters.{index-bounded, index-extended, master-extended}
use Rattle.demands.proofs.Acts.{low_fits, high_fits, index-fits, news-ok, news-length, two-spot, two-gives, leaves-cut, half-spot, four-gives}
use Rattle.demands.proofs.Xtend.{end_scene, the_end, kr, lk, size_is, bound-ones, text-is, counted, xtend-by, grown}
use Rattle.demands.proofs.Xtend.{grown-contents, grown-ended, in-sequence}
use Rattle.demands.proofs.XtendDeed.{new-deed, both-deed}
use Rattle.demands.proofs.Growth.{a_start, both_start, grow-from}
use Rattle.demands.proofs.Changes.{grow-start, grow-start-both}

module _ (st : State) (ss : List Section) (f : Free) (r : Ready (desc st).wpr st ss f) (kw : Key (desc st) (key_in (desc st) st.work))
    (L : Last (texts st) st.session.flag ss f)
    (fr : List (List ℕ)) (y : List ℕ) (e : L.front ≡ fr ++ y ∷ []) (higher : key (desc st).k y < val (key_in (desc st) st.work))
    (full : FD (desc st) ≤ length L.leaf.records) where
  open scene st ss use {p, v, flag, w, K, rows}
  open end_scene st ss f L use {end, n₀}
  open the_end st ss f r kw L use {g, hd, fo, rok, so, index_is}

  -- ---- the two leaves

  abbrev nb : ℕ
  nb = next f

  abbrev l₁ : Leaf
  l₁ = lower (desc st) L.leaf L.front st.work

  abbrev l₂ : Leaf
  l₂ = upper (desc st) L.leaf (next f) (end_record (desc st) ∷ [])

  abbrev news : List Leaf
  news = L.low ++ (lower (desc st) L.leaf L.front st.work ∷ (upper (desc st) L.leaf (next f) (end_record (desc st) ∷ []) ∷ []))

  seq : Asc K (lo p end) L.front (val w)
  seq = in-sequence st ss f r kw L fr y e higher

  asc : Asc K (lo p end) (L.front ++ st.work ∷ (end_record p ∷ [])) (hi p end)
  asc = grown st ss f r kw L seq

  ok₁ : LeafFits p l₁
  ok₁ = record {
    some = rw (length-append L.front (st.work ∷ [])) (omega arith);
    room = rw (length-append L.front (st.work ∷ [])) (omega (arith, size_is st ss f r kw L, (lk st ss f r kw L).room));
    rows = all_append (RowOk p) L.front _ (all_left (RowOk p) L.front _ rok) (work-ok st ss f r, tt);
    bound = (key-long p (kr st ss f r kw L) st.work (work-ok st ss f r)).0;
    wide = (key-long p (kr st ss f r kw L) st.work (work-ok st ss f r)).1;
  }

  ok₂ : LeafFits p l₂
  ok₂ = record {
    some = omega arith;
    room = omega (arith, (good-facts p g).two_records);
    rows = all_right (RowOk p) L.front _ rok;
    bound = (lk st ss f r kw L).bound;
    wide = (lk st ss f r kw L).wide;
  }

  now : records_in (leaves_in (tree_with end (l₁ ∷ (l₂ ∷ [])))) ≡ ins K st.work rows
  now = grown-contents st ss f r kw L seq (l₁ ∷ (l₂ ∷ [])) (append_assoc L.front (st.work ∷ []) (end_record p ∷ []))

  -- ---- their words

  last-at : count (detail_shape v.desc) (text_at v L.way) - 1 ≡ length L.front
  last-at = omega (arith, counted st ss f r kw L, size_is st ss f r kw L)

  old-is : old_text v L.way st.work ≡ table (detail_shape p) p.wpb (L.front ++ (st.work ∷ []))
  unfolding old_text
  old-is =
      ap (λ (m : ℕ). replaced (detail_shape p) m (record_in p st.work) (text_at v L.way)) last-at
      ∙ ap (λ (x : List ℕ). replaced (detail_shape p) (length L.front) x (text_at v L.way)) (work-is st ss f r)
      ∙ ap (replaced (detail_shape p) (length L.front) st.work) (text-is st ss f r kw L)
      ∙ record-replace p (kr st ss f r kw L) L.front (end_record p) [] rok st.work r.work-length

  end_is : end_text v L.way ≡ table (detail_shape p) p.wpb (end_record p ∷ [])
  unfolding end_text table cat
  end_is =
      ap (laid p.wpb ((detail_shape p).tag + 1)) (ap (λ (m : ℕ). row (detail_shape p) (text_at v L.way) m) last-at ∙ ap (λ (t : List ℕ). row (detail_shape p) t (length L.front))
      (text-is st ss f r kw L) ∙ row_here p (kr st ss f r kw L) L.front (end_record p) [] rok ∙ sym (append-nil (end_record p)))

  bound-key : l₁.bound ≡ w
  unfolding part
  bound-key = refl

  cost : (ms : List Transfer) (n : ℕ) → length ms ≡ n → length ((reached v flag L.way).moves ++ ms) ≤ 3 + n
  cost ms n q = rw (length-append (reached v flag L.way).moves ms) (omega (arith, q, way-few v flag L.way))

  old-length : length l₁.records ≡ length L.leaf.records
  old-length = rw (length-append L.front (st.work ∷ [])) (omega (arith, size_is st ss f r kw L))

  -- the leaf becomes two
  pub xtend-new : length (L.low ++ (L.leaf ∷ [])) < FI p → 1 ≤ free_count f
      → Gives st ss (xtend st) (stored_with p n₀ (taken f)) 7 (ins K st.work rows) a_start (tree_with end (l₁ ∷ (l₂ ∷ []))) (taken f)
  unfolding extend_done new_file new_moves cells_written leaf_cell FI
  xtend-new room some =
      let n : ℕ = stored_with p n₀ (taken f) in
      let ms : List Transfer = new_moves v L.way (path_of end) st.work nb in
      let moves : List Transfer = (reached v flag L.way).moves ++ ms in
      let file' : List ℕ = written p moves (with_free (head_or (taken f).chain 0) (taken f).lowest st.file) in
      let room-index : length (L.low ++ (L.leaf ∷ [])) < I p = omega arith in
      let ws : List Cell = lf p l₁ ∷ ((L.index, ix p news) ∷ (lf p l₂ ∷ [])) in
      let ix-is : extended p (index_shape p) w nb (text_of v L.index) ≡ ix p news
      = ap (extended p (index_shape p) w nb) index_is
      ∙ index-extended p g w kw.long L.low L.leaf so.leaves l₁ bound-key refl l₂ ok₁ (bound-ones st ss f r kw L) room-index in
      let ms-is : cells_written ms ≡ ws = rw (old-is, ix-is, end_is) in
      let fit : All (Fits p) ws
      = (
        low_fits st ss f r.sound r.opened kw end L.way L.at L.front st.work (end_record p ∷ []) nb asc ok₁ ok₂,
        (
          index-fits st ss f r.sound r.opened kw end L.way L.at L.front st.work (end_record p ∷ []) nb asc ok₁ ok₂ news
              (news-ok st ss f r.sound r.opened kw end L.way L.at L.front st.work (end_record p ∷ []) nb asc ok₁ ok₂)
              (rw (news-length st ss f r.sound r.opened kw end L.way L.at L.front st.work (end_record p ∷ []) nb asc ok₁ ok₂) room-index),
          (
            high_fits st ss f r.sound r.opened kw end L.way L.at L.front st.work (end_record p ∷ []) nb asc ok₁ ok₂
                (next-in p _ _ ss f hd some),
            tt,
          ),
        ),
      ) in
      subst (λ (z : Outcome). Gives st ss z n 7 (ins K st.work rows) a_start (tree_with end (l₁ ∷ (l₂ ∷ []))) (taken f))
      (sym (xtend-by st ss f r kw L (New L.way (path_of end) (taken_of f) n) (landing p n st.work moves nb file')
      (new-deed st ss f r kw L fr y e higher full room some) refl))
      (two-gives st ss f r.sound r.opened kw end L.way L.at L.front st.work
      (end_record p ∷ []) nb asc ok₁ ok₂ refl some room-index ms ws ms-is fit
      (λ x. simp (weigh-cons, weigh-nil) (omega arith)) (ins K st.work rows) now (grown-ended st ss f r kw L seq)
      nb (two-spot st ss f r.sound r.opened kw end L.way L.at L.front st.work (end_record p ∷ []) nb asc ok₁ ok₂ false) n 7
      (cost ms 4 refl) a_start
      (grow-from p ss (tree_of end) _ a_start L.at.is (grow-start p g end l₁ l₂ refl refl full old-length refl)))

  -- and a section begins
  pub xtend-both : FI p ≤ length (L.low ++ (L.leaf ∷ [])) → 2 ≤ free_count f → length ss < p.control → Gives st ss (xtend st)
      (stored_with p n₀ (taken (taken f))) 8 (ins K st.work rows) both_start
      (L.before ++ (sec L.index (L.low ++ (l₁ ∷ [])) ∷ (sec (next (taken f)) (l₂ ∷ []) ∷ []))) (taken (taken f))
  unfolding extend_done section_file section_moves cells_written leaf_cell
  xtend-both most two c =
      let n : ℕ = stored_with p n₀ (taken (taken f)) in
      let f₂ : Free = taken (taken f) in
      let nib : ℕ = next (taken f) in
      let some : 1 ≤ free_count f = omega arith in
      let some₂ : 1 ≤ free_count (taken f) = omega (arith, taken-count f some) in
      let ms : List Transfer = section_moves v L.way (path_of end) st.work nb nib in
      let moves : List Transfer = (reached v flag L.way).moves ++ ms in
      let us : List Leaf = L.low ++ (l₁ ∷ []) in
      let zs : List Leaf = l₂ ∷ [] in
      let joined : us ++ zs ≡ news = append_assoc L.low (l₁ ∷ []) (l₂ ∷ []) in
      let us-length : length us ≡ length (L.low ++ (L.leaf ∷ [])) = length-append L.low (l₁ ∷ []) ∙ sym (length-append L.low (L.leaf ∷ [])) in
      let a₁ : 1 ≤ length us = rw us-length so.some in
      let a₂ : length us ≤ I p = rw us-length so.room in
      let b₁ : 1 ≤ length zs = omega arith in
      let b₂ : length zs ≤ I p = omega (arith, (good-facts p g).two-entries) in
      let us-ok : All (LeafFits p) us = all_append (LeafFits p) L.low _ (all_left (LeafFits p) L.low _ so.leaves) (ok₁, tt) in
      let ws : List Cell = lf p l₁ ∷ ((L.index, ix p us) ∷ (lf p l₂ ∷ ((nib, ix p zs) ∷ []))) in
      let ix-is : bounded (index_shape p) w (text_of v L.index) ≡ ix p us
      = ap (bounded (index_shape p) w) index_is ∙ index-bounded p g w kw.long L.low L.leaf so.leaves l₁ bound-key refl in
      let ms-is : cells_written ms ≡ ws = rw (old-is, ix-is, end_is, one_entry nb) in
      let i₂ : (1 ≤ nib) × (nib ≤ p.n) = second-in p _ _ ss f hd some some₂ in
      let fit : All (Fits p) ws
      = (
        low_fits st ss f r.sound r.opened kw end L.way L.at L.front st.work (end_record p ∷ []) nb asc ok₁ ok₂,
        (
          index-fits st ss f r.sound r.opened kw end L.way L.at L.front st.work (end_record p ∷ []) nb asc ok₁ ok₂ us us-ok a₂,
          (
            high_fits st ss f r.sound r.opened kw end L.way L.at L.front st.work (end_record p ∷ []) nb asc ok₁ ok₂
                (next-in p _ _ ss f hd some),
            ((i₂.0, i₂.1, index-long p g zs (ok₂, tt) b₂), tt),
          ),
        ),
      ) in
      let op : List ℕ → List ℕ = extended p (master_shape p) w nib in
      let law : (rest : List ℕ) → op (master_for p (tree_of end) f₂ ++ rest) ≡ master_for p (L.before ++ (sec L.index us ∷ (sec nib zs ∷ []))) f₂ ++ rest
      = λ rest. master-extended p g w kw.long L.before (sec L.index (L.low ++ (L.leaf ∷ []))) L.at.held.sized f₂ rest (sec L.index us)
      (sec nib zs)
      (last_bound-append [] L.low (l₁ ∷ []) ∙ bound-key) refl (bound-ones st ss f r kw L) (rw (← L.at.is) c) in
      let file' : List ℕ = op (written p moves (with_free (head_or f₂.chain 0) f₂.lowest st.file)) in
      subst (λ (z : Outcome). Gives st ss z n 8 (ins K st.work rows) both_start
      (L.before ++ (sec L.index (L.low ++ (l₁ ∷ [])) ∷ (sec (next (taken f)) (l₂ ∷ []) ∷ []))) (taken (taken f)))
      (sym (xtend-by st ss f r kw L (Both L.way (path_of end) nb (taken_of (taken f)) n) (landing p n st.work moves nb file')
      (both-deed st ss f r kw L fr y e higher full most two c) refl))
      (four-gives st ss f r.sound r.opened kw end L.way L.at L.front st.work
      (end_record p ∷ []) nb asc ok₁ ok₂ nib us zs joined a₁ a₂ b₁ b₂ refl refl two (rw (← L.at.is) c) ms ws ms-is fit
      (λ x. simp (weigh-cons, weigh-nil) (omega arith)) op law (ins K st.work rows)
      (ap records_in (leaves-cut st ss f r.sound r.opened kw end L.way L.at L.front st.work
      (end_record p ∷ []) nb asc ok₁ ok₂ nib us zs joined a₁ a₂ b₁ b₂) ∙ now) (grown-ended st ss f r kw L seq)
      nb (half-spot st ss f r.sound r.opened kw end L.way L.at L.front st.work
      (end_record p ∷ []) nb asc ok₁ ok₂ nib us zs joined a₁ a₂ b₁ b₂ false) n 8 (cost ms 5 refl) both_start
      (grow-from p ss (tree_of end) _ both_start L.at.is (grow-start-both p g end l₁ l₂ nib us zs joined refl refl full old-length refl most us-length refl)))
    where
      one_entry : (b : ℕ) → laid p.wpb ((index_shape p).tag + 1) (ones_entry p b) ≡ ix p (upper p L.leaf b (end_record p ∷ []) ∷ [])
      one_entry b = unfold index_text table ones_entry entry cat in rw (bound-ones st ss f r kw L, append-nil (ones p.k ++ (b ∷ [])))
