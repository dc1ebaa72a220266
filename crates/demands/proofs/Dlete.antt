-- DLETE on a sound open state: not found, and a record taken out of a block that keeps some.
use Prim.Native.Nat.{ℕ, suc, ◌+◌, ◌*◌, ◌≤◌}
use mathlib.Core.Path.{◌≡◌, refl, sym, ap, ◌∙◌, subst}
use mathlib.Core.List.{List, [], ◌∷◌, ◌++◌, append-nil}
use native.Mathlib.Omega.{arith}
use native.Mathlib.Nat.{mul-le-mul_right}
use lib.ListN.{length, length-append}
use borrow.Author.Tests.{ne_eqb}
use Rattle.numbers.specs.Numbers.{done, not_found}
use Rattle.numbers.specs.Checked.{Checked, passed, ◌>>=◌}
use Rattle.words.specs.Keys.{val}
use Rattle.table.specs.Tables.{count, removed}
use Rattle.drum.specs.Params.{detail_shape}
use Rattle.drum.proofs.Good.{good-facts, caps}
use Rattle.rules.specs.declared.Way.{Way}
use Rattle.rules.specs.declared.Way.TheVariants.{By}
use Rattle.rules.specs.declared.Look.TheVariants.{Found, Missing}
use Rattle.rules.specs.declared.Delete.{Delete}
use Rattle.rules.specs.declared.Delete.TheVariants.{Stop, Remove}
use Rattle.rules.specs.State.{State, Outcome, Effect, desc, texts, key_in, outcome}
use Rattle.rules.specs.Lookup.{Reached, reached, look, text_at, storing}
use Rattle.rules.specs.Dlete.{delete_after, delete_deed, delete_done, dlete_steps, dlete}
use Rattle.rules.proofs.Sizes.{way-few}
use Rattle.demands.proofs.Scene.{scene}
use Rattle.demands.proofs.Lists.{All, all_append, all_left, all_right}
use Rattle.demands.proofs.Order.{Asc, del, asc-del}
use Rattle.layout.specs.Tree.{Leaf, Section}
use Rattle.demands.proofs.Trees.{leaves_in, records_in, key, table}
use Rattle.demands.proofs.Holds.{Free, LeafFits, RowOk}
use Rattle.demands.proofs.Steps.{with_rows}
use Rattle.demands.proofs.Places.{Place, tree_with, lo, hi, leaf-ok, asc-leaf, del-here, tree_of}
use Rattle.demands.proofs.Texts.{count-table}
use Rattle.demands.proofs.Paths.{path_of}
use Rattle.demands.proofs.Records.{record-remove, del-at, ended-del}
use Rattle.demands.proofs.Sound.{Key, Ended}
use Rattle.demands.proofs.Answers.{Ready, ready-pass, Gives}
use Rattle.demands.proofs.Reach.{At}
use Rattle.demands.proofs.Lookup.{Covers}
use Rattle.demands.proofs.Stores.{asc-rows, stop-at, store-gives}
use Rattle.demands.proofs.Growth.{nothing, grow-from}
use Rattle.demands.proofs.Changes.{grow-less}

module _ (st : State) (ss : List Section) (f : Free) (r : Ready (desc st).k st ss f) where
  open scene st ss use {p, v, flag, w, K, rows}

  -- the call, by what its steps come to
  pub dlete-by : (d : Delete) (e : Effect) → delete_deed v flag w ≡ passed d → delete_done v flag st.work d ≡ passed e → dlete st ≡ outcome st.session e
  unfolding dlete dlete_steps
  dlete-by d e ed ee =
      ready-pass st ss f p.k r (dlete_steps v flag st.work) e (ap (λ (m : Checked Delete). m >>= (λ x. delete_done v flag st.work x)) ed ∙ ee)

  pub dlete-absent : (a : Place) → At v flag ss f a (By (path_of a)) → look v flag w ≡ passed (Missing (path_of a))
      → Gives st ss (dlete st) not_found 3 rows nothing ss f
  unfolding delete_deed delete_after delete_done
  dlete-absent a A l = stop-at st ss f p.k r (dlete st) a (By (path_of a)) A not_found (dlete-by (Stop (path_of a)) _ (simp l) refl)

  -- the records with the one of the key taken out
  module _ (kw : Key (desc st) (key_in (desc st) st.work)) (a : Place) (way : Way) (A : At (texts st) st.session.flag ss f a way)
      (C : Covers (texts st) (key_in (desc st) st.work) a)
      (bs : List (List ℕ)) (x : List ℕ) (cs : List (List ℕ)) (q : a.leaf.records ≡ bs ++ x ∷ cs)
      (k : key (desc st).k x ≡ val (key_in (desc st) st.work)) where
    kr : p.k ≤ p.wpr
    kr = (good-facts p r.sound.kept.good).key

    lk : LeafFits p a.leaf
    lk = leaf-ok p a f _ _ A.held

    asc : Asc K (lo p a) a.leaf.records (hi p a)
    asc = asc-leaf p a f _ _ A.held

    gone : del K (val w) a.leaf.records ≡ bs ++ cs
    gone = ap (del K (val w)) q ∙ rw (← k) (del-at K (lo p a) bs x cs (hi p a) (subst (λ (z : List (List ℕ)). Asc K (lo p a) z (hi p a)) q asc))

    pub gone-contents : (ls : List Leaf) → records_in ls ≡ bs ++ cs → records_in (leaves_in (tree_with a ls)) ≡ del K (val w) rows
    gone-contents ls e =
        del-here p a f _ _ A.held (val w) C.above C.within ls (e ∙ sym gone)
        ∙ ap (λ (z : List Section). del K (val w) (records_in (leaves_in z))) (sym A.is)

    pub gone-ended : Ended p (del K (val w) rows)
    gone-ended = ended-del p kr rows _ (asc-rows p _ _ ss f r.sound.kept.holds) r.sound.kept.ended (val w) kw.below

    -- "found: remove, flag on"
    pub dlete-some : look v flag w ≡ passed (Found way (length bs)) → 2 ≤ length a.leaf.records
        → Gives st ss (dlete st) done 3 (del K (val w) rows) nothing (tree_with a (with_rows p a.leaf (bs ++ cs) ∷ [])) f
    unfolding delete_deed delete_after delete_done
    dlete-some l two =
        let here : Reached = reached v flag way in
        let t : List ℕ = removed (detail_shape p) (length bs) here.buffer in
        let cnt : count (detail_shape v.desc) (text_at v way) ≡ length a.leaf.records = ap (count (detail_shape p)) A.text-is ∙ count-table (detail_shape p) p.wpb a.leaf.records in
        let deed : delete_deed v flag w ≡ passed (Remove way (length bs)) = simp (l, cnt, ne_eqb (length a.leaf.records) 1 (λ e. omega (arith, two, e))) in
        let was : All (RowOk p) (bs ++ x ∷ cs) = subst (All (RowOk p)) q lk.rows in
        let len : length a.leaf.records ≡ length (bs ++ x ∷ cs) = ap length q in
        let n : length (bs ++ x ∷ cs) ≡ suc (length (bs ++ cs)) = rw (length-append bs cs, length-append bs (x ∷ cs)) (omega arith) in
        let fits : 1 + length (bs ++ x ∷ cs) * p.wpr ≤ p.wpb
        = rw (← len) (omega (arith, (caps p r.sound.kept.good).records-fit, mul-le-mul_right p.wpr lk.room)) in
        let words : t ≡ table (detail_shape p) p.wpb (bs ++ cs)
        = ap (removed (detail_shape p) (length bs)) (A.buffer-is ∙ ap (table (detail_shape p) p.wpb) q) ∙ record-remove p kr bs x cs was fits in
        subst (λ (z : Outcome). Gives st ss z done 3 (del K (val w) rows) nothing (tree_with a (with_rows p a.leaf (bs ++ cs) ∷ [])) f)
        (sym (dlete-by (Remove way (length bs)) (storing done st.work here t) deed refl))
        (store-gives st ss f r.sound r.opened here 3 (way-few v flag way) a A.kept A.current-is (bs ++ cs) (del K (val w) rows) t done
        st.work words
        (rw (← gone) (asc-del K (lo p a) (val w) a.leaf.records (hi p a) asc C.above C.within)) (omega (arith, len, n, two))
        (omega (arith, len, n, lk.room))
        (all_append (RowOk p) bs cs (all_left (RowOk p) bs _ was) (all_right (RowOk p) bs _ was).1)
        (gone-contents (with_rows p a.leaf (bs ++ cs) ∷ []) (append-nil (bs ++ cs))) gone-ended kw nothing
        (grow-from p ss (tree_of a) _ nothing A.is (grow-less p r.sound.kept.good a (with_rows p a.leaf (bs ++ cs)) (omega (arith, len, n)))))
