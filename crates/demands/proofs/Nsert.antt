-- NSERT on a sound open state: duplicate, room, a leaf split, leaf and index split, and no room. The numbers, the contents, and a sound state again.
use Prim.Native.Nat.{ℕ, suc, ◌+◌, ◌*◌, ◌≤◌, ◌<◌}
use mathlib.Core.Path.{◌≡◌, refl, sym, ap, ◌∙◌, subst}
use mathlib.Core.List.{List, [], ◌∷◌, append-nil}
use native.Mathlib.Omega.{arith}
use native.Mathlib.Nat.{mul-le-mul_right}
use lib.ListN.{length}
use borrow.Author.Tests.{lt-ltb}
use Rattle.numbers.specs.Numbers.{not_found}
use Rattle.numbers.specs.Checked.{Checked, passed, ◌>>=◌}
use Rattle.words.specs.Keys.{val}
use Rattle.table.specs.Tables.{inserted, row_above}
use Rattle.drum.specs.Params.{D, detail_shape}
use Rattle.drum.specs.Blocks.{text_of, chain_head, lowest_unused}
use Rattle.drum.proofs.Good.{good-facts, caps}
use Rattle.rules.specs.declared.Way.{Way}
use Rattle.rules.specs.declared.Way.TheVariants.{By}
use Rattle.rules.specs.declared.Look.{Look}
use Rattle.rules.specs.declared.Look.TheVariants.{Found, Missing}
use Rattle.rules.specs.declared.Insert.{Insert}
use Rattle.rules.specs.declared.Insert.TheVariants.{Stop, Room}
use Rattle.rules.specs.State.{State, Outcome, Effect, desc, texts, key_in, record_in, outcome}
use Rattle.rules.specs.Lookup.{Reached, reached, look, storing}
use Rattle.rules.specs.Nsert.{room_deed, insert_at, insert_after, insert_deed}
use Rattle.rules.specs.NsertDone.{insert_done, nsert_steps, nsert}
use Rattle.rules.proofs.Sizes.{way-few}
use Rattle.demands.proofs.Scene.{scene}
use Rattle.demands.proofs.Order.{Asc, hit, ins, below}
use Rattle.layout.specs.Tree.{Leaf, Section}
use Rattle.demands.proofs.Trees.{leaves_in, records_in, key, table}
use Rattle.demands.proofs.Holds.{Free, HoldsCells, LeafFits, RowOk, head_or}
use Rattle.demands.proofs.Steps.{with_rows}
use Rattle.demands.proofs.Places.{Place, tree_with, lo, hi, leaf-text, leaf-ok, asc-new, ins-here, tree_of}
use Rattle.demands.proofs.Texts.{count-table}
use Rattle.demands.proofs.Blocks.{master_of}
use Rattle.demands.proofs.Entries.{head-is, lowest-is}
use Rattle.demands.proofs.Paths.{path_of}
use Rattle.demands.proofs.Records.{new-at, record-ins, length-ins, all-ins, ended-ins}
use Rattle.demands.proofs.Sound.{Key, Ended}
use Rattle.demands.proofs.Answers.{Ready, work-is, work-ok, work-key, ready-pass, Gives}
use Rattle.demands.proofs.Reach.{At}
use Rattle.demands.proofs.Lookup.{Covers}
use Rattle.demands.proofs.Stores.{asc-rows, stop-at, store-gives}
use Rattle.demands.proofs.Frees.{stored_with, FreeOk, free-ok, stored-number}
use Rattle.demands.proofs.Growth.{nothing, a_record, grow-from}
use Rattle.demands.proofs.Changes.{grow-room}

module _ (st : State) (ss : List Section) (f : Free) (r : Ready (desc st).wpr st ss f) where
  open scene st ss use {p, v, flag, w, K, rows}

  -- the call, by what its steps come to
  pub nsert-by : (d : Insert) (e : Effect) → insert_deed v flag w ≡ passed d → insert_done v flag st.work d ≡ passed e → nsert st ≡ outcome st.session e
  unfolding nsert nsert_steps
  nsert-by d e ed ee =
      ready-pass st ss f p.wpr r (nsert_steps v flag st.work) e (ap (λ (m : Checked Insert). m >>= (λ x. insert_done v flag st.work x)) ed ∙ ee)

  -- "lookup done; workspace, position kept"
  pub stop-nsert : (a : Place) (way : Way) → At v flag ss f a way → (n : ℕ) → insert_deed v flag w ≡ passed (Stop way n)
      → Gives st ss (nsert st) n 3 rows nothing ss f
  unfolding insert_done
  stop-nsert a way A n e = stop-at st ss f p.wpr r (nsert st) a way A n (nsert-by (Stop way n) _ e refl)

  -- NSERT of a key that stands there
  pub duplicate-deed : (way : Way) (i : ℕ) → look v flag w ≡ passed (Found way i) → insert_deed v flag w ≡ passed (Stop way not_found)
  unfolding insert_deed insert_after
  duplicate-deed way i l = simp l

  module _ (kw : Key (desc st) (key_in (desc st) st.work)) (a : Place) (A : At (texts st) st.session.flag ss f a (By (path_of a)))
      (C : Covers (texts st) (key_in (desc st) st.work) a)
      (none : hit (key (desc st).k) (val (key_in (desc st) st.work)) a.leaf.records ≡ [])
      (l : look (texts st) st.session.flag (key_in (desc st) st.work) ≡ passed (Missing (path_of a))) where
    kr : p.k ≤ p.wpr
    kr = (good-facts p r.sound.kept.good).key

    lk : LeafFits p a.leaf
    lk = leaf-ok p a f _ _ A.held

    key-is : K st.work ≡ val w
    key-is = work-key p st.work

    -- where the record goes among those of the block
    abbrev pub place : ℕ
    place = length (below (key (desc st).k) (key (desc st).k st.work) a.leaf.records)

    place_is : row_above (detail_shape p) w (text_of v a.leaf.block) ≡ place
    place_is =
        ap (row_above (detail_shape p) w) (leaf-text p a f _ _ A.held) ∙ new-at p kr a.leaf.records lk.rows w kw.wide kw.long none
        ∙ ap (λ (x : ℕ). length (below K x a.leaf.records)) (sym key-is)

    pub deed-at : insert_deed v flag w ≡ insert_at v flag (path_of a) place
    unfolding insert_deed insert_after
    deed-at = ap (λ (m : Checked Look). m >>= (λ x. insert_after v flag w x)) l ∙ ap (insert_at v flag (path_of a)) place_is

    -- the counts that the deed looks at, and the free blocks
    pub held : HoldsCells p (master_of p st.file) (text_of v) ss f
    held = r.sound.kept.holds

    pub free₀ : FreeOk v f
    free₀ = free-ok v ss f _ held

    heads : chain_head st.file ≡ head_or f.chain 0
    heads = head-is p st.file ss f held.master-is held.sized

    lows : lowest_unused st.file ≡ f.lowest
    lows = lowest-is p st.file ss f held.master-is held.sized

    text : text_of v a.leaf.block ≡ table (detail_shape p) p.wpb a.leaf.records
    text = leaf-text p a f _ _ A.held

    -- the contents with the record
    pub asc-ins-here : Asc K (lo p a) (ins K st.work a.leaf.records) (hi p a)
    asc-ins-here = asc-new p a f _ _ A.held (val w) C.above C.within st.work key-is none

    pub ins-contents : (ls : List Leaf) → records_in ls ≡ ins K st.work a.leaf.records → records_in (leaves_in (tree_with a ls)) ≡ ins K st.work rows
    ins-contents ls e =
        ins-here p a f _ _ A.held (val w) C.above C.within ls st.work key-is e
        ∙ ap (λ (z : List Section). ins K st.work (records_in (leaves_in z))) (sym A.is)

    pub ins-ended : Ended p (ins K st.work rows)
    ins-ended = ended-ins p kr rows _ (asc-rows p _ _ ss f held) r.sound.kept.ended st.work (rw key-is kw.below)

    -- ---- "if the block has room, insert"

    pub room-deed : length a.leaf.records < D p → insert_deed v flag w ≡ passed (Room (path_of a) place (stored_with p (length a.leaf.records + 1) f))
    unfolding insert_at room_deed
    room-deed less =
        let rs : List (List ℕ) = a.leaf.records in
        deed-at ∙ simp (text, count-table (detail_shape p) p.wpb rs, lt-ltb (length rs) (D p) less, heads, lows, stored-number v (length rs + 1) f free₀)

    pub nsert-room : length a.leaf.records < D p → Gives st ss (nsert st) (stored_with p (length a.leaf.records + 1) f) 3
        (ins K st.work rows) a_record (tree_with a (with_rows p a.leaf (ins K st.work a.leaf.records) ∷ [])) f
    unfolding insert_done
    nsert-room less =
        let n : ℕ = stored_with p (length a.leaf.records + 1) f in
        let here : Reached = reached v flag (By (path_of a)) in
        let t : List ℕ = inserted (detail_shape p) place (record_in p st.work) here.buffer in
        let rs : List (List ℕ) = a.leaf.records in
        let len : length (ins K st.work rs) ≡ suc (length rs) = length-ins K st.work rs in
        let fits : 1 + suc (length rs) * p.wpr ≤ p.wpb = omega (arith, (caps p r.sound.kept.good).records-fit, mul-le-mul_right p.wpr less) in
        let words : t ≡ table (detail_shape p) p.wpb (ins K st.work rs)
        = ap (λ (x : List ℕ). inserted (detail_shape p) place x here.buffer) (work-is st ss f r)
        ∙ ap (inserted (detail_shape p) place st.work) A.buffer-is
        ∙ record-ins p kr rs st.work lk.rows r.work-length fits in
        subst
        (λ (z : Outcome). Gives st ss z n 3 (ins K st.work rows) a_record (tree_with a (with_rows p a.leaf (ins K st.work a.leaf.records) ∷ [])) f)
        (sym (nsert-by (Room (path_of a) place n) (storing n st.work here t) (room-deed less) refl))
        (store-gives st ss f r.sound r.opened here 3 (way-few v flag (By (path_of a))) a A.kept A.current-is (ins K st.work rs)
        (ins K st.work rows) t n st.work words asc-ins-here
        (omega (arith, len)) (omega (arith, len)) (all-ins K (RowOk p) st.work rs (work-ok st ss f r) lk.rows)
        (ins-contents (with_rows p a.leaf (ins K st.work rs) ∷ []) (append-nil (ins K st.work rs))) ins-ended kw a_record
        (grow-from p ss (tree_of a) _ a_record A.is (grow-room p r.sound.kept.good a (with_rows p a.leaf (ins K st.work rs)) len)))
