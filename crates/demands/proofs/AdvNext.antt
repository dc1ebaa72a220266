-- ADV outside the buffer: in the block that covers the position, else in the next block, or in the next section's first.
use Prim.Native.Nat.{ℕ, ◌+◌, ◌≤◌}
use mathlib.Core.Bool.{Bool, true, false, cond}
use mathlib.Core.Path.{◌≡◌, refl, sym, ap, ap₂, ◌∙◌, subst}
use mathlib.Core.List.{List, [], ◌∷◌, ◌++◌, append-nil, append_assoc}
use native.Mathlib.Omega.{arith}
use lib.Dec.{ltb, eqb}
use lib.ListN.{length, length-append}
use borrow.Author.Tests.{lt-ltb, le-ltb}
use Rattle.numbers.specs.Numbers.{bad_file}
use Rattle.numbers.specs.Checked.{Checked, passed, ◌>>=◌, ◌>>◌, require}
use Rattle.table.specs.Tables.{count}
use Rattle.drum.specs.Params.{detail_shape, index_shape}
use Rattle.drum.specs.Blocks.{Read, text_of}
use Rattle.drum.proofs.Good.{good-facts}
use Rattle.layout.specs.Create.{end_record}
use Rattle.rules.specs.declared.Which.TheVariants as which
use Rattle.rules.specs.declared.Path.{Path}
use Rattle.rules.specs.declared.Way.TheVariants.{By}
use Rattle.rules.specs.declared.Step.TheVariants as step_is
use Rattle.rules.specs.State.{State, desc, texts, position_key}
use Rattle.rules.specs.Paths.{path_by, path_to, first_path}
use Rattle.rules.specs.Lookup.{reached}
use Rattle.rules.specs.Adv.{next_row, next_path, adv_beyond, adv_outside, adv_step, adv_reads, adv_done}
use Rattle.rules.proofs.Sizes.{adv-few}
use Rattle.demands.proofs.Scene.{scene}
use Rattle.demands.proofs.Lists.{All, all_right}
use Rattle.demands.proofs.Order.{asc-wide, below, from, from-above}
use Rattle.layout.specs.Tree.{Leaf, Section}
use Rattle.demands.proofs.Trees.{leaves_in, leaves_in-append, records_in, reach, reach-append}
use Rattle.demands.proofs.Holds.{Free, HoldsCells, SectionOk}
use Rattle.demands.proofs.Steps.{sec}
use Rattle.demands.proofs.Places.{Place, tree_of, olds, lo, hi, index-text, asc-leaf}
use Rattle.demands.proofs.Texts.{count-table}
use Rattle.demands.proofs.Blocks.{master_of, cells_written}
use Rattle.demands.proofs.Entries.{count_index}
use Rattle.demands.proofs.Paths.{path_of, path-by}
use Rattle.demands.proofs.Records.{end-key}
use Rattle.demands.proofs.Sound.{Sound}
use Rattle.demands.proofs.Adv.{mark, AdvRight, from_some, next_row_lem, found-row, no_row, adv-by, mark-le, hz, lok, from-rows, text-is, brought, arrive}

module _ (st : State) (ss : List Section) (f : Free) (h : Sound st ss f) (o : st.session.opened ≡ true) (wl : length st.work ≡ (desc st).wpr) where
  open scene st ss use {p, v, flag, placed, at, K, rows}

  -- ---- "If nothing greater is there, the next detail block"

  module _ (out : adv_step (texts st) st.session.flag st.session.placed (position_key st.session) ≡ adv_outside (texts st) st.session.flag
      st.session.placed (position_key st.session))
      (a : Place) (z : ss ≡ tree_of a)
      (way : cond st.session.placed (path_to (texts st) (position_key st.session)) (first_path (texts st)) ≡ passed (path_of a))
      (l : lo (desc st) a ≤ mark st) (u : mark st ≤ hi (desc st) a) where
    here : HoldsCells p (master_of p st.file) (text_of v) (tree_of a) f
    here = hz st ss f h o wl a z

    -- the next leaf b: all of its records are above the position
    beyond : (b : Place) → ss ≡ tree_of b → next_path v (path_of a) ≡ passed (path_of b) → lo p b ≡ hi p a → from K (mark st) a.leaf.records ≡ []
        → (tail : List (List ℕ)) → from K (mark st) rows ≡ b.leaf.records ++ tail → AdvRight st ss f
    unfolding adv_beyond adv_done
    beyond b zb nx start fr tail g = go b.leaf.records refl
      where
        hb : HoldsCells p (master_of p st.file) (text_of v) (tree_of b) f
        hb = hz st ss f h o wl b zb

        all_above : from K (mark st) b.leaf.records ≡ b.leaf.records
        all_above =
            from-above K (mark st) b.leaf.records (hi p b)
            (asc-wide K (lo p b) (mark st) b.leaf.records (hi p b) (hi p b) (asc-leaf p b f _ _ hb) (rw start u) (omega arith))

        i : next_row v placed at (text_of v b.leaf.block) ≡ length (below K (mark st) b.leaf.records)
        i = ap (next_row v placed at) (text-is st ss f h o wl b zb) ∙ next_row_lem st ss f h o wl b.leaf.records (lok st ss f h o wl b zb).rows

        c : count (detail_shape v.desc) (text_of v b.leaf.block) ≡ length b.leaf.records
        c = ap (count (detail_shape p)) (text-is st ss f h o wl b zb) ∙ count-table (detail_shape p) p.wpb b.leaf.records

        step : (r : List ℕ) (rs : List (List ℕ)) → from K (mark st) b.leaf.records ≡ r ∷ rs
            → adv_step v flag placed at ≡ passed (step_is.Beyond (path_of a) (path_of b) (length (below K (mark st) b.leaf.records)))
        step r rs gr =
            out ∙ arrive st ss f h o wl a z way
            ∙ ap
            (λ (t : Bool). cond t (passed (step_is.At (By (path_of a)) (length (below K (mark st) a.leaf.records)))) (adv_beyond v placed at (path_of a)))
            (no_row st ss f h o wl a.leaf.records fr)
            ∙ ap (λ (m : Checked Path). m >>= (λ x. require (ltb (next_row v placed at (text_of v x.detail)) (count (detail_shape v.desc) (text_of v x.detail))) bad_file
            >> passed (step_is.Beyond (path_of a) x (next_row v placed at (text_of v x.detail))))) nx
            ∙ ap₂ (λ (j m : ℕ). require (ltb j m) bad_file >> passed (step_is.Beyond (path_of a) (path_of b) j)) i c
            ∙ ap (λ (t : Bool). require t bad_file >> passed (step_is.Beyond (path_of a) (path_of b) (length (below K (mark st) b.leaf.records))))
            (found-row st ss f h o wl b.leaf.records r rs gr)

        quiet : cells_written (adv_reads (path_of a) (path_of b)) ≡ []
        quiet = unfold adv_reads cells_written in reads (eqb (length b.before) (length a.before))
          where
            reads : (t : Bool) → cells_written (Read a.index ∷
                (Read a.leaf.block ∷ cond t (Read b.leaf.block ∷ []) (Read b.index ∷ (Read b.leaf.block ∷ [])))) ≡ []
            reads true = unfold cells_written in refl
            reads false = unfold cells_written in refl

        go : (rs : List (List ℕ)) → b.leaf.records ≡ rs → AdvRight st ss f
        go [] q = absurd (omega (arith, (lok st ss f h o wl b zb).some, ap length q))
        go (r ∷ rs) q =
            let gr : from K (mark st) b.leaf.records ≡ r ∷ rs = all_above ∙ q in
            brought st ss f h o wl b zb (adv_reads (path_of a) (path_of b)) quiet (adv-few (path_of a) (path_of b))
            (adv-by st ss f h o wl (step_is.Beyond (path_of a) (path_of b) (length (below K (mark st) b.leaf.records))) _ (step r rs gr) refl)
            r rs gr (rs ++ tail) (g ∙ ap (λ (y : List (List ℕ)). y ++ tail) q)

    counted : count (index_shape v.desc) (text_of v a.index) ≡ length (olds a)
    counted = ap (count (index_shape p)) (index-text p a f _ _ here) ∙ count_index p (olds a)

    tail-is : from K (mark st) a.leaf.records ≡ [] → from K (mark st) rows ≡ records_in (a.high ++ leaves_in a.behind)
    tail-is fr = from-rows st ss f h o wl a z l u ∙ ap (λ (y : List (List ℕ)). y ++ records_in (a.high ++ leaves_in a.behind)) fr

    inner : (m : Leaf) (hs : List Leaf) → a.high ≡ m ∷ hs → from K (mark st) a.leaf.records ≡ [] → AdvRight st ss f
    unfolding next_path
    inner m hs e fr =
        let b : Place = record { before = a.before; index = a.index; low = a.low ++ (a.leaf ∷ []); leaf = m; high = hs; behind = a.behind } in
        let eo : olds a ≡ (a.low ++ (a.leaf ∷ [])) ++ (m ∷ hs)
        = ap (λ (y : List Leaf). a.low ++ (a.leaf ∷ y)) e ∙ sym (append_assoc a.low (a.leaf ∷ []) (m ∷ hs)) in
        let zb : ss ≡ tree_of b = z ∙ ap (λ (y : List Leaf). a.before ++ (sec a.index y ∷ a.behind)) eo in
        let more : ltb (length a.low + 1) (count (index_shape v.desc) (text_of v a.index)) ≡ true
        = ap (ltb (length a.low + 1)) counted
        ∙ lt-ltb (length a.low + 1) (length (olds a)) (omega (arith, length-append a.low (a.leaf ∷ a.high), ap length e)) in
        beyond b zb
        (ap (λ (t : Bool). cond t (path_by v (which.Place (length a.before)) (which.Place (length a.low + 1)) [])
        (path_by v (which.Place (length a.before + 1)) which.First [])) more
        ∙ path-by v b f (hz st ss f h o wl b zb) (which.Place (length a.before)) (which.Place (length a.low + 1)) [] refl
        (sym (length-append a.low (a.leaf ∷ []))))
        (reach-append p.k (reach p.k 0 (leaves_in a.before)) a.low (a.leaf ∷ [])) fr (records_in (hs ++ leaves_in a.behind))
        (tail-is fr ∙ ap (λ (y : List Leaf). records_in (y ++ leaves_in a.behind)) e)

    -- "or 2 if in the next section"
    outer : (jb : ℕ) (m : Leaf) (hs : List Leaf) (ds : List Section) → a.high ≡ [] → a.behind ≡ sec jb (m ∷ hs) ∷ ds
        → from K (mark st) a.leaf.records ≡ [] → AdvRight st ss f
    unfolding next_path
    outer jb m hs ds e g fr =
        let s : Section = sec a.index (a.low ++ (a.leaf ∷ [])) in
        let b : Place = record { before = a.before ++ (s ∷ []); index = jb; low = []; leaf = m; high = hs; behind = ds } in
        let zb : ss ≡ tree_of b
        = z ∙ ap₂ (λ (x : List Leaf) (y : List Section). a.before ++ (sec a.index (a.low ++ (a.leaf ∷ x)) ∷ y)) e g
        ∙ sym (append_assoc a.before (s ∷ []) (sec jb (m ∷ hs) ∷ ds)) in
        let more : ltb (length a.low + 1) (count (index_shape v.desc) (text_of v a.index)) ≡ false
        = ap (ltb (length a.low + 1)) counted
        ∙ le-ltb (length a.low + 1) (length (olds a)) (omega (arith, length-append a.low (a.leaf ∷ a.high), ap length e)) in
        beyond b zb
        (ap (λ (t : Bool). cond t (path_by v (which.Place (length a.before)) (which.Place (length a.low + 1)) [])
        (path_by v (which.Place (length a.before + 1)) which.First [])) more
        ∙ path-by v b f (hz st ss f h o wl b zb) (which.Place (length a.before + 1)) which.First [] (sym (length-append a.before (s ∷ []))) refl)
        (ap (reach p.k 0) (leaves_in-append a.before (s ∷ []) ∙ ap (λ (y : List Leaf). leaves_in a.before ++ y) (append-nil (a.low ++ (a.leaf ∷ []))))
        ∙ reach-append p.k 0 (leaves_in a.before) (a.low ++ (a.leaf ∷ []))
        ∙ reach-append p.k (reach p.k 0 (leaves_in a.before)) a.low (a.leaf ∷ []))
        fr (records_in (hs ++ leaves_in ds))
        (tail-is fr ∙ ap₂ (λ (x : List Leaf) (y : List Section). records_in (x ++ leaves_in y)) e g)

    -- the last block has the end record, which is above every position
    not_last : a.high ≡ [] → a.behind ≡ [] → from K (mark st) a.leaf.records ≡ [] → ⊥
    not_last e g fr =
        from_some K (mark st) h.kept.ended.front (end_record p) (rw (end-key p (good-facts p h.kept.good).key) (mark-le st ss f h o wl))
        (ap (from K (mark st)) (sym h.kept.ended.is) ∙ tail-is fr ∙ ap₂ (λ (x : List Leaf) (y : List Section). records_in (x ++ leaves_in y)) e g)

    pub arrived : AdvRight st ss f
    unfolding adv_done reached
    arrived = go (from K (mark st) a.leaf.records) refl
      where
        section : a.high ≡ [] → (s : Section) (ds : List Section) → a.behind ≡ s ∷ ds → (ls : List Leaf) → s.leaves ≡ ls
            → from K (mark st) a.leaf.records ≡ [] → AdvRight st ss f
        section e s ds g [] q fr = absurd (omega (arith, some, ap length q))
          where
            some : 1 ≤ length s.leaves
            some = (subst (All (SectionOk p)) g (all_right (SectionOk p) a.before _ here.sized).1).0.some
        section e s ds g (m ∷ hs) q fr = outer s.block m hs ds e (g ∙ ap (λ (y : List Leaf). sec s.block y ∷ ds) q) fr

        next : (hs : List Leaf) → a.high ≡ hs → (ds : List Section) → a.behind ≡ ds → from K (mark st) a.leaf.records ≡ [] → AdvRight st ss f
        next (m ∷ hs) e ds g fr = inner m hs e fr
        next [] e (s ∷ ds) g fr = section e s ds g s.leaves refl fr
        next [] e [] g fr = absurd (not_last e g fr)

        go : (rs : List (List ℕ)) → from K (mark st) a.leaf.records ≡ rs → AdvRight st ss f
        go (r ∷ rs) fr =
            brought st ss f h o wl a z (Read a.index ∷ (Read a.leaf.block ∷ [])) (unfold cells_written in refl) (omega arith)
            (adv-by st ss f h o wl (step_is.At (By (path_of a)) (length (below K (mark st) a.leaf.records))) _
            (out ∙ arrive st ss f h o wl a z way
            ∙ ap
            (λ (t : Bool). cond t (passed (step_is.At (By (path_of a)) (length (below K (mark st) a.leaf.records)))) (adv_beyond v placed at (path_of a)))
            (found-row st ss f h o wl a.leaf.records r rs fr)) refl)
            r rs fr (rs ++ records_in (a.high ++ leaves_in a.behind))
            (from-rows st ss f h o wl a z l u ∙ ap (λ (y : List (List ℕ)). y ++ records_in (a.high ++ leaves_in a.behind)) fr)
        go [] fr = next a.high refl a.behind refl fr
