-- XTEND where the last block holds only the end record and the key is not above the bound before it: the lookup, and what it says of the file's
-- ordinary keys.
use Prim.Native.Nat.{ℕ, suc, ◌-◌, ◌≤◌, ◌<◌}
use mathlib.Core.Bool.{Bool, true, false, not, ◌||◌}
use mathlib.Core.Logic.{◌⊎◌, inl, inr}
use mathlib.Core.Path.{◌≡◌, refl, sym, ap, ap₂, ◌∙◌, subst}
use mathlib.Core.List.{List, [], ◌∷◌, ◌++◌, append-nil, append_assoc}
use native.Mathlib.Omega.{arith}
use native.Mathlib.Decide.{dec_lt}
use lib.Dec.{ltb, eqb}
use lib.ListN.{length, take, length-append}
use borrow.Author.Tests.{lt-ltb, le-ltb, ne_eqb}
use Rattle.words.specs.Words.{part, all_words}
use Rattle.words.specs.Keys.{ones, is_ones, key_lt, val}
use Rattle.words.proofs.All.{is_ones-true}
use Rattle.words.proofs.Values.{key_lt-val}
use Rattle.table.specs.Tables.{count, key_at, row_with}
use Rattle.drum.specs.Params.{detail_shape}
use Rattle.drum.specs.Blocks.{text_of}
use Rattle.drum.proofs.Good.{good-facts}
use Rattle.layout.specs.Create.{end_record}
use Rattle.layout.specs.Tree.{Leaf, Section}
use Rattle.rules.specs.State.{State, desc, texts, key_in}
use Rattle.rules.specs.Xtend.{just_before, not_behind}
use Rattle.demands.specs.Answers.{ordinary, records_from}
use Rattle.demands.proofs.Scene.{scene}
use Rattle.demands.proofs.Lists.{All, all_right, from_end, front_same}
use Rattle.demands.proofs.Order.{Asc, asc-le, asc-append, asc-right}
use Rattle.demands.proofs.Trees.{leaves_in, records_in, records-append, key, bd, reach, Ranged, ranged-left, ranged-right, ranged-asc, table}
use Rattle.demands.proofs.Holds.{Free, HoldsCells, LeafFits, RowOk}
use Rattle.demands.proofs.Places.{Place, tree_of, lo, hi, leaf-text, leaf-ok, asc-leaf}
use Rattle.demands.proofs.Texts.{count-table}
use Rattle.demands.proofs.Blocks.{master_of}
use Rattle.demands.proofs.Paths.{path_of}
use Rattle.demands.proofs.Records.{AtKey, missing, present, at_key, key_here, key-long, cut-front}
use Rattle.demands.proofs.Sound.{Key}
use Rattle.demands.proofs.Answers.{Ready}
use Rattle.demands.proofs.Stores.{asc-rows}
use Rattle.demands.proofs.Lookup.{Covers}
use Rattle.demands.proofs.Last.{ending, Last}
use Rattle.demands.proofs.Between.{leaves_before, leaves_of_lem, start_of, Near, near}
use Rattle.demands.proofs.Records.{rows_of, rows_ok}
use Rattle.demands.proofs.Records.{row_under}
use Rattle.demands.proofs.Ordinary.{some-from}

-- the ordinary records not below the key
abbrev pub not_below : State → List Section → List (List ℕ)
not_below st ss = ordinary (desc st) (records_from (desc st) (key_in (desc st) st.work) (records_in (leaves_in ss)))

module _ (st : State) (ss : List Section) (f : Free) (r : Ready (desc st).wpr st ss f) (kw : Key (desc st) (key_in (desc st) st.work)) where
  open scene st ss use {p, v, flag, w, K, rows}

  kr : p.k ≤ p.wpr
  kr = (good-facts p r.sound.kept.good).key

  held : HoldsCells p (master_of p st.file) (text_of v) ss f
  held = r.sound.kept.holds

  row_ok : All (RowOk p) rows
  row_ok = rows_of p (leaves_in ss) (rows_ok p ss held.sized)

  -- a record that others follow is ordinary
  pub some-high : (xs : List (List ℕ)) (y : List ℕ) (zs : List (List ℕ)) → rows ≡ xs ++ y ∷ zs → 1 ≤ length zs → val w ≤ K y → not_below st ss ≡ [] → ⊥
  some-high xs y zs e some l z =
      some-from p kr w kw xs y zs (row_under p kr w kw y yok ∙ le-ltb (K y) (val w) l) (less zs refl (is_ones (key_in p y)) refl)
      (ap (λ (x : List (List ℕ)). ordinary p (records_from p w x)) (sym e) ∙ z)
    where
      yok : RowOk p y
      yok = (all_right (RowOk p) xs (y ∷ zs) (subst (All (RowOk p)) e row_ok)).0

      less : (us : List (List ℕ)) → zs ≡ us → (t : Bool) → is_ones (key_in p y) ≡ t → t ≡ false
      less us q false o = refl
      less [] q true o = absurd (omega (arith, some, ap length q))
      less (u ∷ us) q true o =
          let top : K y ≡ val (ones p.k) = unfold key part in ap val (is_ones-true p.k _ (key-long p kr y yok).0 o) in
          let s
          = asc-right K 0 xs (y ∷ u ∷ us) _
          (subst (λ (x : List (List ℕ)). Asc K 0 x (reach p.k 0 (leaves_in ss))) (e ∙ ap (λ (x : List (List ℕ)). xs ++ y ∷ x) q)
          (asc-rows p _ _ ss f held)) in
          absurd (omega (arith, top, s.1.0, asc-le K (suc (K u)) us _ s.1.1, held.top))

  module _ (L : Last (texts st) st.session.flag ss f) (alone : L.front ≡ [])
      (under : val (key_in (desc st) st.work) < lo (desc st) (ending L.before L.index L.low L.leaf)) where
    abbrev end : Place
    end = ending L.before L.index L.low L.leaf

    module _ (q : Place) (is : ss ≡ tree_of q) (C : Covers (texts st) (key_in (desc st) st.work) q) where
      hq : HoldsCells p (master_of p st.file) (text_of v) (tree_of q) f
      hq = subst (λ (z : List Section). HoldsCells p (master_of p st.file) (text_of v) z f) is held

      lk : LeafFits p q.leaf
      lk = leaf-ok p q f _ _ hq

      close : Near v f q L.before L.index L.low L.leaf hq (sym is ∙ L.at.is) (omega (arith, C.above))
      close = near v f q L.before L.index L.low L.leaf hq (sym is ∙ L.at.is) (omega (arith, C.above))

      flat : leaves_in ss ≡ leaves_before q ++ (q.leaf ∷ (close.between ++ (L.leaf ∷ [])))
      flat = ap leaves_in is ∙ leaves_of_lem q ∙ ap (λ (u : List Leaf). leaves_before q ++ (q.leaf ∷ u)) close.behind-is

      rest-rows : records_in (close.between ++ (L.leaf ∷ [])) ≡ records_in close.between ++ (end_record p ∷ [])
      rest-rows =
          records-append close.between (L.leaf ∷ [])
          ∙ ap (λ (u : List (List ℕ)). records_in close.between ++ u) (append-nil L.leaf.records ∙ L.rows_are
          ∙ ap (λ (u : List (List ℕ)). u ++ end_record p ∷ []) alone)

      rows_at : rows ≡ records_in (leaves_before q) ++ (q.leaf.records ++ (records_in close.between ++ (end_record p ∷ [])))
      rows_at =
          ap records_in flat ∙ records-append (leaves_before q) (q.leaf ∷ (close.between ++ (L.leaf ∷ [])))
          ∙ ap (λ (u : List (List ℕ)). records_in (leaves_before q) ++ (q.leaf.records ++ u)) rest-rows

      -- a record of the block that the lookup reached is not below the key
      in_block : (bs : List (List ℕ)) (y : List ℕ) (cs : List (List ℕ)) → q.leaf.records ≡ bs ++ y ∷ cs → val w ≤ K y → not_below st ss ≡ [] → ⊥
      in_block bs y cs e l =
          some-high (records_in (leaves_before q) ++ bs) y (cs ++ (records_in close.between ++ (end_record p ∷ [])))
          (rows_at ∙ ap (λ (u : List (List ℕ)). records_in (leaves_before q) ++ (u ++ (records_in close.between ++ (end_record p ∷ [])))) e ∙ simp append_assoc)
          (omega (
            arith,
            length-append cs (records_in close.between ++ (end_record p ∷ [])),
            length-append (records_in close.between) (end_record p ∷ []),
          ))
          l

      -- another block stands between: its first record is above the bound
      in-next : (m : Leaf) (ms : List Leaf) → close.between ≡ m ∷ ms → not_below st ss ≡ [] → ⊥
      in-next m ms e = go m.records refl
        where
          whole : leaves_in ss ≡ leaves_before q ++ (q.leaf ∷ (m ∷ (ms ++ (L.leaf ∷ []))))
          whole = flat ∙ ap (λ (u : List Leaf). leaves_before q ++ (q.leaf ∷ (u ++ (L.leaf ∷ [])))) e

          range : Ranged p.k (reach p.k 0 (leaves_before q)) (q.leaf ∷ (m ∷ (ms ++ (L.leaf ∷ []))))
          range = ranged-right p.k 0 (leaves_before q) _ (subst (Ranged p.k 0) whole held.ranged)

          mok : LeafFits p m
          mok = (all_right (LeafFits p) (leaves_before q) _ (subst (All (LeafFits p)) whole (rows_ok p ss held.sized))).1.0

          go : (ys : List (List ℕ)) → m.records ≡ ys → not_below st ss ≡ [] → ⊥
          go [] g z = omega (arith, mok.some, ap length g)
          go (y ∷ ys) g z =
              let a : Asc K (suc (bd p.k q.leaf)) (y ∷ ys) (suc (bd p.k m))
              = subst (λ (u : List (List ℕ)). Asc K (suc (bd p.k q.leaf)) u (suc (bd p.k m))) g range.1.0 in
              some-high (records_in (leaves_before q) ++ q.leaf.records) y (ys ++ (records_in ms ++ (end_record p ∷ [])))
              (rows_at ∙ ap (λ (u : List Leaf). records_in (leaves_before q) ++ (q.leaf.records ++ (records_in u ++ (end_record p ∷ [])))) e
              ∙ ap (λ (u : List (List ℕ)). records_in (leaves_before q) ++ (q.leaf.records ++ ((u ++ records_in ms) ++ (end_record p ∷ [])))) g
              ∙ simp append_assoc)
              (omega (arith, length-append ys (records_in ms ++ (end_record p ∷ [])), length-append (records_in ms) (end_record p ∷ [])))
              (omega (arith, C.within, a.0)) z

      -- ---- the three tests

      text : text_of v q.leaf.block ≡ table (detail_shape p) p.wpb q.leaf.records
      text = leaf-text p q f _ _ hq

      abbrev place : ℕ
      place = row_with (detail_shape p) w (table (detail_shape p) p.wpb q.leaf.records)

      module _ (fr : List (List ℕ)) (y : List ℕ) (e : q.leaf.records ≡ fr ++ y ∷ []) where
        last-key : key_lt (key_at (detail_shape p) (table (detail_shape p) p.wpb q.leaf.records) (length q.leaf.records - 1)) w ≡ ltb (K y) (val w)
        unfolding key
        last-key =
            let n : length q.leaf.records - 1 ≡ length fr = omega (arith, ap length e, length-append fr (y ∷ [])) in
            let all : All (RowOk p) (fr ++ y ∷ []) = subst (All (RowOk p)) e lk.rows in
            let kl : (length (take p.k y) ≡ p.k) × (all_words (take p.k y) ≡ true) = key-long p kr y (all_right (RowOk p) fr _ all).0 in
            ap₂ (λ (t : List (List ℕ)) (m : ℕ). key_lt (key_at (detail_shape p) (table (detail_shape p) p.wpb t) m) w) e n
            ∙ ap (λ (t : List ℕ). key_lt t w) (key_here p kr fr y [] all)
            ∙ key_lt-val (take p.k y) w kl.1 kw.wide (kl.0 ∙ sym kw.long)

        tested : (b : Bool) → ltb place (length q.leaf.records) ≡ b
            → not_behind v w (path_of end) (path_of q) ≡ (b || (not (eqb (length close.between) 0) || not (ltb (K y) (val w))))
        unfolding not_behind
        tested b g =
            let t : List ℕ = table (detail_shape p) p.wpb q.leaf.records in
            let n : count (detail_shape p) t ≡ length q.leaf.records = count-table (detail_shape p) p.wpb q.leaf.records in
            ap (λ (t : List ℕ). ltb (row_with (detail_shape p) w t) (count (detail_shape p) t) ||
            (not (just_before v (path_of q) (path_of end)) || not (key_lt (key_at (detail_shape p) t (count (detail_shape p) t - 1)) w))) text
            ∙ ap (λ (m : ℕ). ltb place m || (not (just_before v (path_of q) (path_of end)) || not (key_lt (key_at (detail_shape p) t (m - 1)) w))) n
            ∙ ap₂ (λ (x z : Bool). x || (not (just_before v (path_of q) (path_of end)) || not z)) g last-key
            ∙ ap (λ (z : Bool). b || (not z || not (ltb (K y) (val w)))) close.just

      -- 5, where some ordinary record is not below the key; or all are below it, those of the block that the lookup reached too
      pub data Verdict : Type 0 where
        stops : not_behind v w (path_of end) (path_of q) ≡ true → (not_below st ss ≡ [] → ⊥) → Verdict
        stores : not_behind v w (path_of end) (path_of q) ≡ false → Asc K 0 (records_in (leaves_before end)) (val w) → Asc K (lo p q) q.leaf.records (val w)
            → Verdict

      -- the block is the one before the last, and its last record is below the key
      behind : (fr : List (List ℕ)) (y : List ℕ) → q.leaf.records ≡ fr ++ y ∷ [] → K y < val w → close.between ≡ []
          → Asc K 0 (records_in (leaves_before end)) (val w) × Asc K (lo p q) q.leaf.records (val w)
      behind fr y e less none =
          let leaves : leaves_before q ++ (q.leaf ∷ []) ≡ leaves_before end
          = front_same (leaves_before q ++ (q.leaf ∷ [])) L.leaf (leaves_before end) L.leaf
          (append_assoc (leaves_before q) (q.leaf ∷ []) (L.leaf ∷ []) ∙ ap (λ (u : List Leaf). leaves_before q ++ (q.leaf ∷ (u ++ (L.leaf ∷ [])))) (sym none)
          ∙ sym flat ∙ ap leaves_in L.at.is ∙ leaves_of_lem end) in
          let here : Asc K (lo p q) (fr ++ y ∷ []) (hi p q) = subst (λ (u : List (List ℕ)). Asc K (lo p q) u (hi p q)) e (asc-leaf p q f _ _ hq) in
          let own : Asc K (lo p q) q.leaf.records (val w)
          = subst (λ (u : List (List ℕ)). Asc K (lo p q) u (val w)) (sym e)
          (asc-append K (lo p q) fr (K y) (y ∷ []) (val w) (cut-front K (lo p q) fr y [] _ here) (omega arith, less)) in
          let before : Asc K 0 (records_in (leaves_before q)) (lo p q)
          = subst (Asc K 0 (records_in (leaves_before q))) (start_of p q)
          (ranged-asc p.k 0 (leaves_before q) (ranged-left p.k 0 (leaves_before q) _ (subst (Ranged p.k 0) flat held.ranged))) in (
            subst (λ (u : List (List ℕ)). Asc K 0 u (val w))
                (ap (λ (u : List (List ℕ)). records_in (leaves_before q) ++ u) (sym (append-nil q.leaf.records))
                ∙ sym (records-append (leaves_before q) (q.leaf ∷ [])) ∙ ap records_in leaves)
                (asc-append K 0 (records_in (leaves_before q)) (lo p q) q.leaf.records (val w) before own),
            own,
          )

      pub verdict : Verdict
      verdict = go (from_end q.leaf.records)
        where
          by : (fr : List (List ℕ)) (y : List ℕ) → q.leaf.records ≡ fr ++ y ∷ [] → AtKey p.k (val w) q.leaf.records place
              → (bs : List Leaf) → close.between ≡ bs → Dec (K y < val w) → Verdict
          by fr y e (present us x cs g i k) bs b d =
              stops (tested fr y e true (lt-ltb place (length q.leaf.records) (omega (arith, i, ap length g, length-append us (x ∷ cs)))))
              (in_block us x cs g (omega (arith, k)))
          by fr y e (missing i n) (m ∷ ms) b d =
              stops (tested fr y e false (le-ltb place (length q.leaf.records) (omega arith)) ∙ ap
              (λ (u : Bool). not u || not (ltb (K y) (val w))) (ap (λ (u : List Leaf). eqb (length u) 0) b
              ∙ ne_eqb (suc (length ms)) 0 (λ z. omega arith))) (in-next m ms b)
          by fr y e (missing i n) [] b (no l) =
              stops (tested fr y e false (le-ltb place (length q.leaf.records) (omega arith)) ∙ ap₂
              (λ (u : List Leaf) (t : Bool). false || (not (eqb (length u) 0) || not t)) b (le-ltb (K y) (val w) (omega arith)))
              (in_block fr y [] e (omega arith))
          by fr y e (missing i n) [] b (yes l) =
              let z = behind fr y e l b in
              stores (tested fr y e false (le-ltb place (length q.leaf.records) (omega arith)) ∙ ap₂
              (λ (u : List Leaf) (t : Bool). false || (not (eqb (length u) 0) || not t)) b (lt-ltb (K y) (val w) l)) z.0 z.1

          go : (q.leaf.records ≡ []) ⊎ ((fr : List (List ℕ)) × (y : List ℕ) × (q.leaf.records ≡ fr ++ y ∷ [])) → Verdict
          go (inl n) = absurd (omega (arith, lk.some, ap length n))
          go (inr (fr, y, e)) =
              by fr y e (at_key p kr q.leaf.records lk.rows w kw.wide kw.long) close.between refl (dec_lt (K y) (val w))
