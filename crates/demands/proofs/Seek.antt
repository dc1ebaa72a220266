-- CLOSE, SEEK and UPDAT on a sound open state: the numbers, the contents, and a sound state again.
use Prim.Native.Nat.{ℕ, ◌≤◌}
use mathlib.Core.Bool.{true, false}
use mathlib.Core.Logic.{◌⊎◌, inl, inr}
use mathlib.Core.Path.{◌≡◌, refl, sym, ap, ◌∙◌, subst}
use mathlib.Core.List.{List, [], ◌∷◌, ◌++◌, append-nil}
use native.Mathlib.Omega.{arith}
use lib.ListN.{length, length-append, length-replicate}
use Rattle.numbers.specs.Numbers.{done, not_found}
use Rattle.words.specs.Words.{part}
use Rattle.words.specs.Keys.{val}
use Rattle.words.proofs.Values.{val_inj}
use Rattle.table.specs.Tables.{row, replaced}
use Rattle.drum.specs.declared.Description.{Description}
use Rattle.drum.specs.Params.{detail_shape}
use Rattle.drum.specs.Blocks.{Texts, Transfer, written}
use Rattle.drum.proofs.Good.{good-facts}
use Rattle.rules.specs.declared.Way.TheVariants.{By}
use Rattle.rules.specs.State.{State, Outcome, desc, texts, key_in, record_in, at_rest, outcome}
use Rattle.rules.specs.Lookup.{Reached, reached, stopping, storing, flush_moves}
use Rattle.rules.specs.Close.{close, close_checks, close_done}
use Rattle.rules.specs.Seek.{giving, seek, seek_steps, seek_done, updat, updat_steps, updat_done}
use Rattle.rules.proofs.Sizes.{flush-few, way-few}
use Rattle.demands.proofs.Lists.{All, all_append, all_left, all_right}
use Rattle.demands.proofs.Order.{Asc, hit, upd, asc-upd}
use Rattle.layout.specs.Tree.{Section}
use Rattle.demands.proofs.Trees.{leaves_in, records_in, key, table}
use Rattle.demands.proofs.Holds.{Free, LeafFits, RowOk}
use Rattle.demands.proofs.Steps.{with_rows}
use Rattle.demands.proofs.Places.{lo, hi, leaf-ok, asc-leaf, upd-here, tree_of, tree_with}
use Rattle.demands.proofs.Blocks.{cells_written}
use Rattle.demands.proofs.Paths.{path_of}
use Rattle.demands.proofs.Records.{key-long, row_here, record-replace, upd-at, ended-upd}
use Rattle.demands.proofs.Sound.{Key, KeptTree, Sound, texts_left, no-true-false}
use Rattle.demands.proofs.Answers.{Ready, key_of, work-is, work-ok, work-key, sizes-pass, open-pass, ready-pass, Gives}
use Rattle.demands.proofs.Reach.{flush-pass, bring}
use Rattle.demands.proofs.Lookup.{Looked, absent, there, looks}
use Rattle.demands.proofs.Stores.{stop-at, asc-rows, row-key, give-gives, store-gives}
use Rattle.demands.specs.Filled.{Filled}
use Rattle.demands.specs.Reuse.{KeepsBlocks}
use Rattle.demands.proofs.Moves.{tree_in, kept_block}
use Rattle.demands.proofs.Fills.{filled-updated}
use Rattle.demands.proofs.Growth.{nothing, grow-none, grow-from}
use Rattle.demands.proofs.Changes.{grow-less}

-- ---- CLOSE

pub close-right : (st : State) (ss : List Section) (f : Free) → Sound st ss f → st.session.opened ≡ true
    → Gives st ss (close st) done 1 (records_in (leaves_in ss)) nothing ss f
unfolding close close_done close_checks at_rest cells_written
close-right st ss f h o =
    let moves : List Transfer = flush_moves (texts st) st.session.flag in
    let out : close st ≡ record { number = done; transfers = moves; after = record { session = at_rest false st.session; file = written (desc st) moves st.file; buffer = st.buffer; work = st.work } }
    = simp (sizes-pass st ss f h, open-pass st o, flush-pass (texts st) st.session.flag ss f h.kept) in
    subst (λ (z : Outcome). Gives st ss z done 1 (records_in (leaves_in ss)) nothing ss f) (sym out) (record {
      number-is = refl;
      most-is = flush-few (texts st) st.session.flag;
      desc-is = refl;
      sound = record {
        kept =
            subst
            (λ (m : List Transfer). KeptTree (record { desc = desc st; current = 0; file = written (desc st) m st.file; buffer = st.buffer }) false ss f)
            (append-nil moves)
            (bring (texts st) st.session.flag ss f h.kept [] refl 0 st.buffer (inl (refl, h.kept.buffer-length)));
        position = length-replicate {A = ℕ} 63 0;
        placed = λ e. no-true-false e refl;
        resting = λ e. (refl, refl);
      };
      contents-is = refl;
      grows = grow-none (desc st) ss;
    })

-- ---- SEEK: not found exactly where the key is not there; else the record is handed out

abbrev pub SeekRight : State → List Section → Free → Type 0
SeekRight st ss f =
    ((hit (key (desc st).k) (val (key_in (desc st) st.work)) (records_in (leaves_in ss)) ≡ []) × Gives st ss (seek st) not_found 3
    (records_in (leaves_in ss)) nothing ss f × ((seek st).after.work ≡ st.work))
    ⊎ ((x : List ℕ) × (hit (key (desc st).k) (val (key_in (desc st) st.work)) (records_in (leaves_in ss)) ≡ x ∷ []) × Gives st ss (seek st) done 3
    (records_in (leaves_in ss)) nothing ss f × ((seek st).after.work ≡ x))

module _ (st : State) (ss : List Section) (f : Free) (r : Ready (desc st).k st ss f) where
  seek-at : Looked (texts st) st.session.flag (key_in (desc st) st.work) ss f → SeekRight st ss f
  unfolding seek seek_steps seek_done stopping outcome giving
  seek-at (absent a A C none gone l) =
      let here : Reached = reached (texts st) st.session.flag (By (path_of a)) in
      let out : seek st ≡ outcome st.session (stopping not_found st.work here)
      = ready-pass st ss f (desc st).k r (seek_steps (texts st) st.session.flag st.work) (stopping not_found st.work here) (simp l) in
      inl (none, stop-at st ss f (desc st).k r (seek st) a (By (path_of a)) A not_found out, ap (λ (z : Outcome). z.after.work) out)
  seek-at (there a way A C bs x cs q k one l) =
      let v : Texts = texts st in
      let p : Description = desc st in
      let here : Reached = reached v st.session.flag way in
      let kr : p.k ≤ p.wpr = (good-facts p r.sound.kept.good).key in
      let ok : All (RowOk p) (bs ++ x ∷ cs) = subst (All (RowOk p)) q (leaf-ok p a f _ _ A.held).rows in
      let out : seek st ≡ outcome st.session (giving v here done (length bs) true)
      = ready-pass st ss f p.k r (seek_steps v st.session.flag st.work) (giving v here done (length bs) true) (simp l) in
      let back : KeptTree (texts_left v here) here.flag ss f
      = subst (λ (z : List Section). KeptTree (texts_left v here) here.flag z f) (sym A.is) A.kept in
      let at : row (detail_shape p) here.buffer (length bs) ≡ x
      = ap (λ (b : List ℕ). row (detail_shape p) b (length bs)) (A.buffer-is ∙ ap (table (detail_shape p) p.wpb) q) ∙ row_here p kr bs x cs ok in
      let kw : Key p (key_in p st.work) = key_of p.k st ss f r (omega arith) kr in
      inr (
        x,
        one,
        subst (λ (z : Outcome). Gives st ss z done 3 (records_in (leaves_in ss)) nothing ss f) (sym out)
            (give-gives st ss f r.sound r.opened here 3 (way-few v st.session.flag way) back done (length bs) true x at
            (λ e. row-key p kr x (all_right (RowOk p) bs _ ok).0 (rw k kw.below))),
        ap (λ (z : Outcome). z.after.work) out ∙ at,
      )

  pub seek-right : SeekRight st ss f
  seek-right =
      let kr : (desc st).k ≤ (desc st).wpr = (good-facts (desc st) r.sound.kept.good).key in
      seek-at (looks (texts st) st.session.flag ss f r.sound.kept (key_in (desc st) st.work) (key_of (desc st).k st ss f r (omega arith) kr))

-- ---- UPDAT: the record replaced

abbrev pub UpdatRight : State → List Section → Free → Type 0
UpdatRight st ss f =
    ((hit (key (desc st).k) (val (key_in (desc st) st.work)) (records_in (leaves_in ss)) ≡ []) × Gives st ss (updat st) not_found 3
    (records_in (leaves_in ss)) nothing ss f)
    ⊎ ((x : List ℕ) × (hit (key (desc st).k) (val (key_in (desc st) st.work)) (records_in (leaves_in ss)) ≡ x ∷ [])
    × (ss' : List Section) × (f' : Free) × Gives st ss (updat st) done 3 (upd (key (desc st).k) st.work (records_in (leaves_in ss))) nothing ss' f'
    × KeepsBlocks (tree_in ss f) (tree_in ss' f') × (Filled (desc st) (tree_in ss f) → Filled (desc st) (tree_in ss' f')))

module _ (st : State) (ss : List Section) (f : Free) (r : Ready (desc st).wpr st ss f) (kw : Key (desc st) (key_in (desc st) st.work)) where
  -- a record with the key's number has the key
  same_key_lem : (x : List ℕ) → RowOk (desc st) x → key (desc st).k x ≡ val (key_in (desc st) st.work) → key_in (desc st) st.work ≡ key_in (desc st) x
  unfolding key part
  same_key_lem x ok k =
      let long = key-long (desc st) (good-facts (desc st) r.sound.kept.good).key x ok in
      val_inj _ _ kw.wide long.1 (kw.long ∙ sym long.0) (sym k)

  updat-at : Looked (texts st) st.session.flag (key_in (desc st) st.work) ss f → UpdatRight st ss f
  unfolding updat updat_steps updat_done
  updat-at (absent a A C none gone l) =
      let here : Reached = reached (texts st) st.session.flag (By (path_of a)) in
      let out : updat st ≡ outcome st.session (stopping not_found st.work here)
      = ready-pass st ss f (desc st).wpr r (updat_steps (texts st) st.session.flag st.work) (stopping not_found st.work here) (simp l) in
      inl (none, stop-at st ss f (desc st).wpr r (updat st) a (By (path_of a)) A not_found out)
  updat-at (there a way A C bs x cs q k one l) =
      let v : Texts = texts st in
      let p : Description = desc st in
      let K : List ℕ → ℕ = key p.k in
      let here : Reached = reached v st.session.flag way in
      let t : List ℕ = replaced (detail_shape p) (length bs) (record_in p st.work) here.buffer in
      let kr : p.k ≤ p.wpr = (good-facts p r.sound.kept.good).key in
      let lk : LeafFits p a.leaf = leaf-ok p a f _ _ A.held in
      let ok : All (RowOk p) (bs ++ x ∷ cs) = subst (All (RowOk p)) q lk.rows in
      let asc : Asc K (lo p a) a.leaf.records (hi p a) = asc-leaf p a f _ _ A.held in
      let key-is : K st.work ≡ val (key_in p st.work) = work-key p st.work in
      let out : updat st ≡ outcome st.session (storing done st.work here t)
      = ready-pass st ss f p.wpr r (updat_steps v st.session.flag st.work) (storing done st.work here t) (simp l) in
      let same : upd K st.work a.leaf.records ≡ bs ++ st.work ∷ cs
      = ap (upd K st.work) q
      ∙ upd-at K (lo p a) bs x cs (hi p a) (subst (λ (z : List (List ℕ)). Asc K (lo p a) z (hi p a)) q asc) st.work (key-is ∙ sym k) in
      let len : length (bs ++ st.work ∷ cs) ≡ length a.leaf.records = rw (q, length-append bs (st.work ∷ cs), length-append bs (x ∷ cs)) in
      let text : t ≡ table (detail_shape p) p.wpb (bs ++ st.work ∷ cs)
      = ap (λ (b : List ℕ). replaced (detail_shape p) (length bs) (record_in p st.work) b) (A.buffer-is ∙ ap (table (detail_shape p) p.wpb) q)
      ∙ ap (λ (w : List ℕ). replaced (detail_shape p) (length bs) w (table (detail_shape p) p.wpb (bs ++ x ∷ cs))) (work-is st ss f r)
      ∙ record-replace p kr bs x cs ok st.work r.work-length in
      inr (
        x,
        one,
        tree_with a (with_rows p a.leaf (bs ++ st.work ∷ cs) ∷ []),
        f,
        subst (λ (z : Outcome). Gives st ss z done 3 (upd K st.work (records_in (leaves_in ss))) nothing
            (tree_with a (with_rows p a.leaf (bs ++ st.work ∷ cs) ∷ [])) f) (sym out)
            (store-gives st ss f r.sound r.opened here 3 (way-few v st.session.flag way) a A.kept A.current-is (bs ++ st.work ∷ cs)
            (upd K st.work (records_in (leaves_in ss))) t done st.work text
            (rw (← same) (asc-upd K (lo p a) st.work a.leaf.records (hi p a) asc (rw key-is C.above) (rw key-is C.within)))
            (rw len lk.some) (rw len lk.room)
            (all_append (RowOk p) bs (st.work ∷ cs) (all_left (RowOk p) bs _ ok) (work-ok st ss f r, (all_right (RowOk p) bs _ ok).1))
            (upd-here p a f _ _ A.held (val (key_in p st.work)) C.above C.within (with_rows p a.leaf (bs ++ st.work ∷ cs) ∷ [])
            st.work key-is (append-nil (bs ++ st.work ∷ cs) ∙ sym same)
            ∙ ap (λ (z : List Section). upd K st.work (records_in (leaves_in z))) (sym A.is))
            (ended-upd p kr (records_in (leaves_in ss)) _ (asc-rows p _ _ ss f r.sound.kept.holds) r.sound.kept.ended st.work
            (rw key-is kw.below)) kw nothing
            (grow-from p ss (tree_of a) _ nothing A.is
            (grow-less p r.sound.kept.good a (with_rows p a.leaf (bs ++ st.work ∷ cs)) (omega (arith, len))))),
        subst (λ (z : List Section). KeepsBlocks (tree_in z f) (tree_in (tree_with a (with_rows p a.leaf (bs ++ st.work ∷ cs) ∷ [])) f)) (sym A.is)
            (kept_block a f (with_rows p a.leaf (bs ++ st.work ∷ cs)) refl),
        filled-updated p a f ss A.is bs x st.work cs q (same_key_lem x (all_right (RowOk p) bs _ ok).0 k),
      )

pub updat-right : (st : State) (ss : List Section) (f : Free) → Ready (desc st).wpr st ss f → UpdatRight st ss f
updat-right st ss f r =
    let kw : Key (desc st) (key_in (desc st) st.work) = key_of (desc st).wpr st ss f r (good-facts (desc st) r.sound.kept.good).key (omega arith) in
    updat-at st ss f r kw (looks (texts st) st.session.flag ss f r.sound.kept (key_in (desc st) st.work) kw)
