-- XTEND where the last block holds only the end record: its key against the bound before that block.
use Prim.Native.Nat.{ℕ, suc, ◌+◌, ◌-◌, ◌≤◌, ◌<◌}
use mathlib.Core.Bool.{Bool, true, not, cond}
use mathlib.Core.Logic.{◌⊎◌, inl, inr}
use mathlib.Core.Path.{◌≡◌, refl, sym, ap, ap₂, ◌∙◌, subst}
use mathlib.Core.List.{List, [], ◌∷◌, ◌++◌, append-nil, append_assoc}
use native.Mathlib.Omega.{arith}
use native.Mathlib.Decide.{dec_lt}
use lib.Dec.{ltb, leb, eqb}
use lib.ListN.{length, length-append}
use borrow.Author.Tests.{lt-ltb, le-ltb, eq-eqb, ne_eqb, le-leb, lt-leb}
use Rattle.numbers.specs.Numbers.{out_of_sequence}
use Rattle.numbers.specs.Checked.{Checked, passed, ◌>>=◌}
use Rattle.words.specs.Words.{all_words}
use Rattle.words.specs.Keys.{key_lt, val}
use Rattle.words.proofs.Values.{key_lt-val}
use Rattle.table.specs.Tables.{key_at}
use Rattle.drum.specs.Params.{FD, detail_shape, master_shape, index_shape}
use Rattle.drum.specs.Blocks.{text_of}
use Rattle.drum.proofs.Good.{caps}
use Rattle.rules.specs.declared.Path.{Path}
use Rattle.rules.specs.declared.Extend.TheVariants.{Stop, Room}
use Rattle.rules.specs.State.{State, desc, texts, key_in}
use Rattle.rules.specs.Lookup.{text_at}
use Rattle.rules.specs.Xtend.{last_room, not_above_before, look_deed, alone_deed, new_deed, extend_at}
use Rattle.rules.specs.XtendDone.{xtend}
use Rattle.layout.specs.Create.{end_record}
use Rattle.demands.proofs.Scene.{scene}
use Rattle.demands.proofs.Lists.{All, all_right, from_end}
use Rattle.demands.proofs.Order.{Asc, ins}
use Rattle.layout.specs.Tree.{Leaf, Section}
use Rattle.demands.proofs.Trees.{leaves_in, leaves_in-append, bd, reach, reach-append, index_text}
use Rattle.demands.proofs.Holds.{Free, HoldsCells, LeafFits, SectionOk, last_bound}
use Rattle.demands.proofs.Steps.{sec, with_rows}
use Rattle.demands.proofs.Locate.{reach-last}
use Rattle.demands.proofs.Places.{tree_of, lo, index-text, sec-ok, tree_with}
use Rattle.demands.proofs.Find.{not-ltb}
use Rattle.demands.proofs.Blocks.{master_of}
use Rattle.demands.proofs.Entries.{index_key, master-key, last-bounded}
use Rattle.demands.proofs.Paths.{path_of}
use Rattle.demands.proofs.Sound.{Key}
use Rattle.demands.proofs.Answers.{Ready, Gives}
use Rattle.demands.proofs.Frees.{stored_with}
use Rattle.demands.proofs.Last.{Last}
use Rattle.demands.proofs.Xtend.{end_scene, size_is, good, counted, path-of, room_at, room-gives}
use Rattle.demands.proofs.Growth.{a_record}

module _ (st : State) (ss : List Section) (f : Free) (r : Ready (desc st).wpr st ss f) (kw : Key (desc st) (key_in (desc st) st.work))
    (L : Last (texts st) st.session.flag ss f) where
  open scene st ss use {p, v, flag, w, K, rows}
  open end_scene st ss f L use {end as a, n₀ as size}

  module _ (alone : L.front ≡ []) where
    one : size ≡ 1
    one = size_is st ss f r kw L ∙ ap (λ (z : List (List ℕ)). suc (length z)) alone

    so : SectionOk p (sec L.index (L.low ++ (L.leaf ∷ [])))
    so = sec-ok p a f _ _ L.at.held

    -- a bound against the key
    bound-test : (b : List ℕ) → length b ≡ p.k → all_words b ≡ true → not (key_lt b w) ≡ leb (val w) (val b)
    bound-test b l q = ap not (key_lt-val b w q kw.wide (l ∙ sym kw.long)) ∙ not-ltb (val b) (val w)

    -- "not above the bound before that block (never, with none before)"
    before-test : not_above_before v w (path_of a) ≡ ltb (val w) (lo p a)
    unfolding not_above_before
    before-test = go (from_end L.low) (from_end L.before)
      where
        suc-test : (x y : ℕ) → leb x y ≡ ltb x (suc y)
        suc-test x y = go (dec_lt y x)
          where
            go : Dec (y < x) → leb x y ≡ ltb x (suc y)
            go (yes h) = lt-leb x y h ∙ sym (le-ltb x (suc y) h)
            go (no n) = le-leb x y (omega arith) ∙ sym (lt-ltb x (suc y) (omega arith))

        go : (L.low ≡ []) ⊎ ((ls : List Leaf) × (m : Leaf) × (L.low ≡ ls ++ m ∷ []))
            → (L.before ≡ []) ⊎ ((bs : List Section) × (s : Section) × (L.before ≡ bs ++ s ∷ []))
            → not_above_before v w (path_of a) ≡ ltb (val w) (lo p a)
        go (inr (ls, m, e)) u =
            let n : length L.low ≡ suc (length ls) = ap length e ∙ length-append ls (m ∷ []) ∙ omega arith in
            let eo : L.low ++ (L.leaf ∷ []) ≡ ls ++ (m ∷ (L.leaf ∷ []))
            = ap (λ (z : List Leaf). z ++ (L.leaf ∷ [])) e ∙ append_assoc ls (m ∷ []) (L.leaf ∷ []) in
            let all : All (LeafFits p) (ls ++ (m ∷ (L.leaf ∷ []))) = subst (All (LeafFits p)) eo so.leaves in
            let mok : LeafFits p m = (all_right (LeafFits p) ls _ all).0 in
            let d : length L.low - 1 ≡ length ls = omega (arith, n) in
            let kb : key_at (index_shape p) (text_of v L.index) (length L.low - 1) ≡ m.bound
            = ap₂ (λ (t : List ℕ) (i : ℕ). key_at (index_shape p) t i) (index-text p a f _ _ L.at.held ∙ ap (index_text p) eo) d
            ∙ index_key p ls m (L.leaf ∷ []) all in
            let l : lo p a ≡ suc (val m.bound)
            = ap (reach p.k (reach p.k 0 (leaves_in L.before))) e ∙ reach-append p.k (reach p.k 0 (leaves_in L.before)) ls (m ∷ [])
            ∙ unfold bd in refl in
            simp (ne_eqb (length L.low) 0 (λ z. omega (arith, n)))
            (ap (λ (t : List ℕ). not (key_lt t w)) kb ∙ bound-test m.bound mok.bound mok.wide ∙ suc-test (val w) (val m.bound) ∙ ap
            (ltb (val w)) (sym l))
        go (inl e) (inr (bs, s, g)) =
            let n : length L.before ≡ suc (length bs) = ap length g ∙ length-append bs (s ∷ []) ∙ omega arith in
            let d : length L.before - 1 ≡ length bs = omega (arith, n) in
            let z : tree_of a ≡ bs ++ (s ∷ (sec L.index (L.low ++ (L.leaf ∷ [])) ∷ []))
            = ap (λ (u : List Section). u ++ (sec L.index (L.low ++ (L.leaf ∷ [])) ∷ [])) g
            ∙ append_assoc bs (s ∷ []) (sec L.index (L.low ++ (L.leaf ∷ [])) ∷ []) in
            let hz : HoldsCells p (master_of p st.file) (text_of v) (bs ++ (s ∷ (sec L.index (L.low ++ (L.leaf ∷ [])) ∷ []))) f
            = subst (λ (u : List Section). HoldsCells p (master_of p st.file) (text_of v) u f) z L.at.held in
            let sok : SectionOk p s = (all_right (SectionOk p) bs _ hz.sized).0 in
            let lb : (length (last_bound [] s.leaves) ≡ p.k) × (all_words (last_bound [] s.leaves) ≡ true)
            = last-bounded p [] s.leaves sok.some sok.leaves in
            let kb : key_at (master_shape p) st.file (length L.before - 1) ≡ last_bound [] s.leaves
            = ap (key_at (master_shape p) st.file) d ∙ master-key p st.file bs s _ f hz.master-is hz.sized in
            let l : lo p a ≡ suc (val (last_bound [] s.leaves))
            = ap₂ (λ (u : List Leaf) (x : List Section). reach p.k (reach p.k 0 (leaves_in x)) u) e g
            ∙ ap (reach p.k 0) (leaves_in-append bs (s ∷ []) ∙ ap (λ (u : List Leaf). leaves_in bs ++ u) (append-nil s.leaves))
            ∙ reach-append p.k 0 (leaves_in bs) s.leaves ∙ reach-last p.k (reach p.k 0 (leaves_in bs)) [] s.leaves sok.some in
            simp (eq-eqb (length L.low) 0 (ap length e), ne_eqb (length L.before) 0 (λ z. omega (arith, n)))
            (ap (λ (t : List ℕ). not (key_lt t w)) kb ∙ bound-test (last_bound [] s.leaves) lb.0 lb.1 ∙ suc-test (val w)
            (val (last_bound [] s.leaves)) ∙ ap (ltb (val w)) (sym l))
        go (inl e) (inl g) =
            let l : lo p a ≡ 0 = ap₂ (λ (u : List Leaf) (x : List Section). reach p.k (reach p.k 0 (leaves_in x)) u) e g in
            simp (eq-eqb (length L.low) 0 (ap length e), eq-eqb (length L.before) 0 (ap length g))
            (sym (ap (ltb (val w)) l ∙ le-ltb (val w) 0 (omega arith)))

    to-alone : extend_at v flag w L.way ≡ cond (ltb (val w) (lo p a)) (look_deed v flag w L.way (path_of a)) (last_room v L.way L.index)
    unfolding extend_at alone_deed
    to-alone =
        ap (λ (m : ℕ). cond (eqb m 1) (alone_deed v flag w L.way)
        (cond (not (key_lt (key_at (detail_shape p) (text_at v L.way) (m - 2)) w)) (passed (Stop L.way 0 out_of_sequence))
        (cond (ltb m (FD p)) (last_room v L.way 0) (new_deed v flag L.way)))) (counted st ss f r kw L ∙ one)
        ∙ ap
        (λ (m : Checked Path). m >>= (λ x. cond (not_above_before v w x) (look_deed v flag w L.way x) (last_room v L.way x.index)))
        (path-of st ss f r kw L)
        ∙ ap (λ (t : Bool). cond t (look_deed v flag w L.way (path_of a)) (last_room v L.way L.index)) before-test

    -- "a lookup for the key follows"
    pub to-look : val w < lo p a → extend_at v flag w L.way ≡ look_deed v flag w L.way (path_of a)
    to-look h = to-alone ∙ simp (lt-ltb (val w) (lo p a) h)

    pub few : size < FD p
    few = omega (arith, one, (caps p (good st ss f r kw L)).fd-least)

    pub room-deed : lo p a ≤ val w → extend_at v flag w L.way ≡ passed (Room L.way L.index (stored_with p (size + 1) f))
    room-deed h = room_at st ss f r kw L L.index (to-alone ∙ simp (le-ltb (val w) (lo p a) h))

    pub alone-room : lo p a ≤ val w → Gives st ss (xtend st) (stored_with p (size + 1) f) 4 (ins K st.work rows) a_record
        (tree_with a (with_rows p L.leaf (L.front ++ st.work ∷ (end_record p ∷ [])) ∷ [])) f
    alone-room h =
        room-gives st ss f r kw L (subst (λ (z : List (List ℕ)). Asc K (lo p a) z (val w)) (sym alone) h) few L.index (room-deed h)
