-- XTEND on a sound open state: out of sequence, and room. What the last block and the record come to.
use Prim.Native.Nat.{ℕ, suc, ◌+◌, ◌-◌, ◌*◌, ◌≤◌, ◌<◌}
use mathlib.Core.Bool.{Bool, true, false, not, cond}
use mathlib.Core.Path.{◌≡◌, refl, sym, ap, ap₂, ◌∙◌, subst}
use mathlib.Core.List.{List, [], ◌∷◌, ◌++◌, append-nil, append_assoc}
use native.Mathlib.Omega.{arith}
use native.Mathlib.Nat.{mul-le-mul_right}
use lib.Dec.{ltb, eqb}
use lib.ListN.{length, take, length-append, length-replicate}
use borrow.Author.Tests.{lt-ltb, le-ltb, eq-eqb, ne_eqb}
use Rattle.numbers.specs.Numbers.{out_of_sequence}
use Rattle.numbers.specs.Checked.{Checked, passed, ◌>>=◌}
use Rattle.words.specs.Words.{all_words, top_word}
use Rattle.words.specs.Keys.{ones, key_lt, val}
use Rattle.words.proofs.All.{all_words-replicate}
use Rattle.words.proofs.Values.{key_lt-val, val_inj}
use Rattle.table.specs.Tables.{count, key_at, inserted}
use Rattle.drum.specs.Params.{D, FD, detail_shape, good_params}
use Rattle.drum.specs.Blocks.{Read, text_of, chain_head, lowest_unused}
use Rattle.drum.proofs.Good.{good-facts, caps}
use Rattle.layout.specs.Create.{end_record}
use Rattle.rules.specs.declared.Path.{Path}
use Rattle.rules.specs.declared.Way.{Way}
use Rattle.rules.specs.declared.Way.TheVariants.{Here, By}
use Rattle.rules.specs.declared.Extend.{Extend}
use Rattle.rules.specs.declared.Extend.TheVariants.{Stop, Room}
use Rattle.rules.specs.State.{State, Outcome, Effect, desc, texts, key_in, record_in, outcome}
use Rattle.rules.specs.Lookup.{Reached, reached, text_at, stopping, storing}
use Rattle.rules.specs.Xtend.{last_of, last_room, alone_deed, new_deed, extend_at, extend_deed}
use Rattle.rules.specs.XtendDone.{reading, extend_done, xtend_steps, xtend}
use Rattle.rules.proofs.Sizes.{way-few}
use Rattle.demands.proofs.Scene.{scene}
use Rattle.demands.proofs.Lists.{All, all_append, all_left, all_right}
use Rattle.demands.proofs.Order.{Asc, asc-le, asc-append, below_at, from_at, ins}
use Rattle.layout.specs.Tree.{Leaf, Section}
use Rattle.demands.proofs.Trees.{leaves_in, leaves_in-append, records_in, key, bd, reach, reach-append, table, index_text}
use Rattle.demands.proofs.Holds.{Free, HoldsCells, LeafFits, SectionOk, RowOk, head_or}
use Rattle.demands.proofs.Steps.{sec, with_rows}
use Rattle.demands.proofs.Places.{Place, tree_with, lo, hi, leaf-ok, asc-leaf, ins-here, tree_of, index-text, sec-ok}
use Rattle.demands.proofs.Texts.{count-table}
use Rattle.demands.proofs.Blocks.{master_of}
use Rattle.demands.proofs.Entries.{head-is, lowest-is}
use Rattle.demands.proofs.Paths.{path_of}
use Rattle.demands.proofs.Records.{key_here, key-long, record-insert, end-key, cut-front, cut-back, ended-ins}
use Rattle.demands.proofs.Sound.{Key, Ended, KeptTree, texts_left, is_here}
use Rattle.demands.proofs.Answers.{Ready, work-is, work-ok, work-key, ready-pass, Gives}
use Rattle.demands.proofs.Stores.{asc-rows, stop-gives, store-gives}
use Rattle.demands.proofs.Frees.{stored_with, FreeOk, free-ok, stored-number}
use Rattle.demands.proofs.Last.{ending, Last}
use Rattle.demands.proofs.Growth.{nothing, a_record, grow-from}
use Rattle.demands.proofs.Changes.{grow-room}

abbrev path_in : Way → Path → Path
path_in Here d = d
path_in (By w) d = w

-- the last place, and how many records its leaf has
pub record EndScene : Type 0 where
  pub end : Place
  pub n₀ : ℕ

abbrev pub end_scene : (st : State) (ss : List Section) (f : Free) → Last (texts st) st.session.flag ss f → EndScene
end_scene st ss f L = record { end = ending L.before L.index L.low L.leaf; n₀ = length L.leaf.records }

module _ (st : State) (ss : List Section) (f : Free) (r : Ready (desc st).wpr st ss f) (kw : Key (desc st) (key_in (desc st) st.work))
    (L : Last (texts st) st.session.flag ss f) where
  open scene st ss use {p, v, flag, w, K, rows}

  -- the last place, and how many records its leaf has
  abbrev pub a : Place
  a = ending L.before L.index L.low L.leaf

  abbrev pub size : ℕ
  size = length L.leaf.records

  pub good : good_params p ≡ true
  good = r.sound.kept.good

  pub kr : p.k ≤ p.wpr
  kr = (good-facts p good).key

  pub held : HoldsCells p (master_of p st.file) (text_of v) ss f
  held = r.sound.kept.holds

  pub lk : LeafFits p L.leaf
  lk = leaf-ok p a f _ _ L.at.held

  pub oks : All (RowOk p) (L.front ++ end_record p ∷ [])
  oks = subst (All (RowOk p)) L.rows_are lk.rows

  pub size_is : size ≡ suc (length L.front)
  size_is = ap length L.rows_are ∙ length-append L.front (end_record p ∷ []) ∙ omega arith

  pub asc : Asc K (lo p a) (L.front ++ end_record p ∷ []) (hi p a)
  asc = subst (λ (z : List (List ℕ)). Asc K (lo p a) z (hi p a)) L.rows_are (asc-leaf p a f _ _ L.at.held)

  -- the last bound is ONES
  pub top-is : hi p a ≡ suc (val (ones p.k))
  top-is =
      sym (ap (reach p.k 0) (leaves_in-append L.before (sec L.index (L.low ++ (L.leaf ∷ [])) ∷ []) ∙ ap
      (λ (u : List Leaf). leaves_in L.before ++ u) (append-nil (L.low ++ (L.leaf ∷ []))))
      ∙ reach-append p.k 0 (leaves_in L.before) (L.low ++ (L.leaf ∷ []))
      ∙ reach-append p.k (reach p.k 0 (leaves_in L.before)) L.low (L.leaf ∷ []))
      ∙ L.at.held.top

  pub bound-ones : L.leaf.bound ≡ ones p.k
  unfolding bd
  bound-ones =
      val_inj L.leaf.bound (ones p.k) lk.wide (all_words-replicate p.k top_word (omega arith))
      (lk.bound ∙ sym (length-replicate {A = ℕ} p.k top_word)) (omega (arith, top-is))

  pub text-is : text_at v L.way ≡ table (detail_shape p) p.wpb (L.front ++ end_record p ∷ [])
  text-is = L.at.text-is ∙ ap (table (detail_shape p) p.wpb) L.rows_are

  pub counted : count (detail_shape v.desc) (text_at v L.way) ≡ size
  counted = ap (count (detail_shape p)) L.at.text-is ∙ count-table (detail_shape p) p.wpb L.leaf.records

  pub heads : chain_head st.file ≡ head_or f.chain 0
  heads = head-is p st.file ss f held.master-is held.sized

  pub lows : lowest_unused st.file ≡ f.lowest
  lows = lowest-is p st.file ss f held.master-is held.sized

  -- what it will do, and the call by what its steps come to
  pub last-deed : (d : Extend) → extend_at v flag w L.way ≡ passed d → extend_deed v flag w ≡ passed d
  unfolding extend_deed
  last-deed d e = ap (λ (m : Checked Way). m >>= (λ x. extend_at v flag w x)) L.way-is ∙ e

  pub xtend-by : (d : Extend) (e : Effect) → extend_at v flag w L.way ≡ passed d → extend_done v flag st.work d ≡ passed e
      → xtend st ≡ outcome st.session e
  unfolding xtend xtend_steps
  xtend-by d e ed ee =
      ready-pass st ss f p.wpr r (xtend_steps v flag st.work) e
      (ap (λ (m : Checked Extend). m >>= (λ x. extend_done v flag st.work x)) (last-deed d ed) ∙ ee)

  -- the path to the last block, however that came to the buffer
  pub path-of : last_of v L.way ≡ passed (path_of a)
  path-of = go L.way L.at.here-is L.at.by-is
    where
      go : (y : Way) → (is_here y ≡ true → v.current ≡ L.leaf.block) → (is_here y ≡ false → y ≡ By (path_of a)) → last_of v y ≡ passed (path_of a)
      go Here e g = unfold last_of in simp (L.path-is, eq-eqb L.leaf.block v.current (sym (e refl)))
      go (By z) e g = unfold last_of in ap (λ (m : Way). passed (path_in m z)) (g refl)

  pub read-cost : (x : ℕ) → length (reading x (reached v flag L.way)).moves ≤ 4
  unfolding reading
  read-cost x = rw (length-append (reached v flag L.way).moves (cond (eqb x 0) [] (Read x ∷ []))) (omega (arith, way-few v flag L.way, one (eqb x 0)))
    where
      one : (t : Bool) → length (cond t [] (Read x ∷ [])) ≤ 1
      one true = omega arith
      one false = omega arith

  -- 000005 and 070002: "last block reached; position kept"
  pub stop-xtend : (x n : ℕ) → extend_at v flag w L.way ≡ passed (Stop L.way x n) → Gives st ss (xtend st) n 4 rows nothing ss f
  unfolding extend_done reading
  stop-xtend x n e =
      let here : Reached = reached v flag L.way in
      let back : KeptTree (texts_left v here) here.flag ss f
      = subst (λ (z : List Section). KeptTree (texts_left v here) here.flag z f) (sym L.at.is) L.at.kept in
      subst (λ (z : Outcome). Gives st ss z n 4 rows nothing ss f) (sym (xtend-by (Stop L.way x n) (stopping n st.work (reading x here)) e refl))
      (stop-gives st ss f r.sound r.opened (reading x here) 4 (read-cost x) back n st.work)

  -- "Fewer than FD records"
  pub room_at : (x : ℕ) → extend_at v flag w L.way ≡ last_room v L.way x → extend_at v flag w L.way ≡ passed (Room L.way x (stored_with p (size + 1) f))
  unfolding last_room
  room_at x e = e ∙ simp (counted, heads, lows, stored-number v (size + 1) f (free-ok v ss f _ held))

  -- ---- the record goes before the end record: its key is above all others there

  module _ (seq : Asc (key (desc st).k) (lo (desc st) (ending L.before L.index L.low L.leaf)) L.front (val (key_in (desc st) st.work))) where
    key-is : K st.work ≡ val w
    key-is = work-key p st.work

    end-asc : Asc K (val w) (end_record p ∷ []) (hi p a)
    end-asc = (omega (arith, kw.below, end-key p kr), cut-back K (lo p a) L.front (end_record p) [] (hi p a) asc)

    ins-is : ins K st.work L.leaf.records ≡ L.front ++ st.work ∷ (end_record p ∷ [])
    unfolding ins
    ins-is =
        ap (λ (z : List (List ℕ)). ins K st.work z) L.rows_are
        ∙ rw (
          key-is,
          below_at K (lo p a) L.front (val w) (end_record p ∷ []) (hi p a) seq end-asc,
          from_at K (lo p a) L.front (val w) (end_record p ∷ [])
              (hi p a) seq end-asc,
        )

    pub grown : Asc K (lo p a) (L.front ++ st.work ∷ (end_record p ∷ [])) (hi p a)
    grown =
        asc-append K (lo p a) L.front (val w) (st.work ∷ (end_record p ∷ [])) (hi p a) seq
        (rw key-is (omega arith), (rw key-is (omega (arith, kw.below, end-key p kr)), end-asc.1))

    pub grown-contents : (ls : List Leaf) → records_in ls ≡ L.front ++ st.work ∷ (end_record p ∷ [])
        → records_in (leaves_in (tree_with a ls)) ≡ ins K st.work rows
    grown-contents ls e =
        ins-here p a f _ _ L.at.held (val w) (asc-le K (lo p a) L.front (val w) seq) (omega (arith, top-is, kw.below)) ls st.work key-is
        (e ∙ sym ins-is)
        ∙ ap (λ (z : List Section). ins K st.work (records_in (leaves_in z))) (sym L.at.is)

    pub grown-ended : Ended p (ins K st.work rows)
    grown-ended = ended-ins p kr rows _ (asc-rows p _ _ ss f held) r.sound.kept.ended st.work (rw key-is kw.below)

    -- "Fewer than FD records: insert before the end record, flag on."
    pub room-gives : size < FD p → (x : ℕ) → extend_at v flag w L.way ≡ passed (Room L.way x (stored_with p (size + 1) f))
        → Gives st ss (xtend st) (stored_with p (size + 1) f) 4 (ins K st.work rows) a_record
        (tree_with a (with_rows p L.leaf (L.front ++ st.work ∷ (end_record p ∷ [])) ∷ [])) f
    unfolding extend_done reading FD
    room-gives less x deed =
        let n : ℕ = stored_with p (size + 1) f in
        let here : Reached = reached v flag L.way in
        let t : List ℕ = inserted (detail_shape p) (count (detail_shape v.desc) here.buffer - 1) (record_in p st.work) here.buffer in
        let rs : List (List ℕ) = L.front ++ st.work ∷ (end_record p ∷ []) in
        let len : length rs ≡ suc size = length-append L.front (st.work ∷ (end_record p ∷ [])) ∙ omega (arith, size_is) in
        let fits : 1 + length rs * p.wpr ≤ p.wpb = rw len (omega (arith, (caps p good).records-fit, mul-le-mul_right p.wpr (full less))) in
        let buf : here.buffer ≡ table (detail_shape p) p.wpb (L.front ++ end_record p ∷ []) = L.at.buffer-is ∙ ap (table (detail_shape p) p.wpb) L.rows_are in
        let i : count (detail_shape v.desc) here.buffer - 1 ≡ length L.front = omega (arith, ap (count (detail_shape p)) L.at.buffer-is ∙ count-table (detail_shape p) p.wpb L.leaf.records, size_is) in
        let words : t ≡ table (detail_shape p) p.wpb rs
        = ap (λ (m : ℕ). inserted (detail_shape p) m (record_in p st.work) here.buffer) i
        ∙ ap (λ (y : List ℕ). inserted (detail_shape p) (length L.front) y here.buffer) (work-is st ss f r)
        ∙ ap (inserted (detail_shape p) (length L.front) st.work) buf
        ∙ record-insert p kr L.front st.work (end_record p ∷ []) oks r.work-length fits in
        subst (λ (z : Outcome). Gives st ss z n 4 (ins K st.work rows) a_record
        (tree_with a (with_rows p L.leaf (L.front ++ st.work ∷ (end_record p ∷ [])) ∷ [])) f)
        (sym (xtend-by (Room L.way x n) (storing n st.work (reading x here) t) deed refl))
        (store-gives st ss f r.sound r.opened (reading x here) 4 (read-cost x) a L.at.kept L.at.current-is rs (ins K st.work rows) t n
        st.work words grown
        (omega (arith, len)) (omega (arith, len, full less))
        (all_append (RowOk p) L.front _ (all_left (RowOk p) L.front _ oks) (work-ok st ss f r, all_right (RowOk p) L.front _ oks))
        (grown-contents (with_rows p L.leaf rs ∷ []) (append-nil rs)) grown-ended kw a_record
        (grow-from p ss (tree_of a) _ a_record L.at.is (grow-room p good a (with_rows p L.leaf rs) len)))
      where
        full : size < D p - p.space → suc size ≤ D p
        full h = omega arith

  -- ---- an ordinary record is there: y is the highest

  module _ (fr : List (List ℕ)) (y : List ℕ) (e : L.front ≡ fr ++ y ∷ []) where
    more : size ≡ suc (suc (length fr))
    more = size_is ∙ ap suc (ap length e ∙ length-append fr (y ∷ []) ∙ omega arith)

    high-key : key_lt (key_at (detail_shape p) (text_at v L.way) (size - 2)) w ≡ ltb (K y) (val w)
    unfolding key
    high-key =
        let n : size - 2 ≡ length fr = omega (arith, more) in
        let q : L.leaf.records ≡ fr ++ y ∷ (end_record p ∷ [])
        = L.rows_are ∙ ap (λ (u : List (List ℕ)). u ++ end_record p ∷ []) e ∙ append_assoc fr (y ∷ []) (end_record p ∷ []) in
        let all : All (RowOk p) (fr ++ y ∷ (end_record p ∷ [])) = subst (All (RowOk p)) q lk.rows in
        let kl : (length (take p.k y) ≡ p.k) × (all_words (take p.k y) ≡ true) = key-long p kr y (all_right (RowOk p) fr _ all).0 in
        ap₂ (λ (t : List ℕ) (m : ℕ). key_lt (key_at (detail_shape p) t m) w) (L.at.text-is ∙ ap (table (detail_shape p) p.wpb) q) n
        ∙ ap (λ (t : List ℕ). key_lt t w) (key_here p kr fr y (end_record p ∷ []) all)
        ∙ key_lt-val (take p.k y) w kl.1 kw.wide (kl.0 ∙ sym kw.long)

    pub ordinary : extend_at v flag w L.way ≡ cond (not (ltb (K y) (val w))) (passed (Stop L.way 0 out_of_sequence))
        (cond (ltb size (FD p)) (last_room v L.way 0) (new_deed v flag L.way))
    unfolding extend_at
    ordinary =
        ap (λ (m : ℕ). cond (eqb m 1) (alone_deed v flag w L.way)
        (cond (not (key_lt (key_at (detail_shape p) (text_at v L.way) (m - 2)) w)) (passed (Stop L.way 0 out_of_sequence))
        (cond (ltb m (FD p)) (last_room v L.way 0) (new_deed v flag L.way)))) counted
        ∙ ap₂ (λ (t u : Bool). cond t (alone_deed v flag w L.way)
        (cond (not u) (passed (Stop L.way 0 out_of_sequence)) (cond (ltb size (FD p)) (last_room v L.way 0) (new_deed v flag L.way))))
        (ne_eqb size 1 (λ q. omega (arith, q, more))) high-key

    pub five-deed : val w ≤ K y → extend_at v flag w L.way ≡ passed (Stop L.way 0 out_of_sequence)
    five-deed h = ordinary ∙ simp (le-ltb (K y) (val w) h)

    pub xtend-five : val w ≤ K y → Gives st ss (xtend st) out_of_sequence 4 rows nothing ss f
    xtend-five h = stop-xtend 0 out_of_sequence (five-deed h)

    pub in-sequence : K y < val w → Asc K (lo p a) L.front (val w)
    in-sequence h =
        let b : Asc K (lo p a) (fr ++ y ∷ []) (K (end_record p))
        = subst (λ (u : List (List ℕ)). Asc K (lo p a) u (K (end_record p))) e (cut-front K (lo p a) L.front (end_record p) [] _ asc) in
        subst (λ (u : List (List ℕ)). Asc K (lo p a) u (val w)) (sym e)
        (asc-append K (lo p a) fr (K y) (y ∷ []) (val w) (cut-front K (lo p a) fr y [] _ b) (omega arith, h))

    pub room-deed : K y < val w → size < FD p → extend_at v flag w L.way ≡ passed (Room L.way 0 (stored_with p (size + 1) f))
    room-deed h less = room_at 0 (ordinary ∙ simp (lt-ltb (K y) (val w) h, lt-ltb size (FD p) less))

    pub xtend-room : K y < val w → size < FD p → Gives st ss (xtend st) (stored_with p (size + 1) f) 4 (ins K st.work rows) a_record
        (tree_with a (with_rows p L.leaf (L.front ++ st.work ∷ (end_record p ∷ [])) ∷ [])) f
    xtend-room h less = room-gives (in-sequence h) less 0 (room-deed h less)

    pub to-new : K y < val w → FD p ≤ size → extend_at v flag w L.way ≡ new_deed v flag L.way
    to-new h full = ordinary ∙ simp (lt-ltb (K y) (val w) h, le-ltb size (FD p) full)

-- what is known of the end of the tree
pub record End (st : State) (ss : List Section) (f : Free) (L : Last (texts st) st.session.flag ss f) : Type 0 where
  pub g : good_params (desc st) ≡ true
  pub hd : HoldsCells (desc st) (master_of (desc st) st.file) (text_of (texts st)) ss f
  pub fo : FreeOk (texts st) f
  pub rok : All (RowOk (desc st)) (L.front ++ end_record (desc st) ∷ [])
  pub so : SectionOk (desc st) (sec L.index (L.low ++ (L.leaf ∷ [])))
  pub index_is : text_of (texts st) L.index ≡ index_text (desc st) (L.low ++ (L.leaf ∷ []))

pub the_end : (st : State) (ss : List Section) (f : Free) → Ready (desc st).wpr st ss f → Key (desc st) (key_in (desc st) st.work)
    → (L : Last (texts st) st.session.flag ss f) → End st ss f L
the_end st ss f r kw L =
    let end = ending L.before L.index L.low L.leaf in
    record {
      g = good st ss f r kw L;
      hd = held st ss f r kw L;
      fo = free-ok (texts st) ss f _ (held st ss f r kw L);
      rok = oks st ss f r kw L;
      so = sec-ok (desc st) end f _ _ L.at.held;
      index_is = index-text (desc st) end f _ _ L.at.held;
    }
