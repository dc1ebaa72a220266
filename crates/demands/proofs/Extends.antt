-- XTEND's answer over the ordered records: out of sequence exactly where an ordinary key is not below the key.
use Prim.Native.Nat.{ℕ, suc, ◌+◌, ◌≤◌}
use mathlib.Core.Bool.{Bool, true, false, cond, ◌&&◌}
use mathlib.Core.Logic.{◌⊎◌, inl, inr}
use mathlib.Core.Path.{◌≡◌, refl, sym, ap, ◌∙◌, subst}
use mathlib.Core.List.{List, [], ◌∷◌, ◌++◌, append-nil, append_assoc}
use native.Mathlib.Omega.{arith}
use lib.Dec.{eqb}
use lib.ListN.{length}
use Rattle.numbers.specs.Numbers.{done, none_free, no_room, out_of_sequence}
use Rattle.words.specs.Words.{part}
use Rattle.words.specs.Keys.{val}
use Rattle.drum.specs.declared.Description.{Description}
use Rattle.drum.specs.Params.{D}
use Rattle.drum.proofs.Good.{good-facts}
use Rattle.layout.specs.Create.{end_record}
use Rattle.layout.specs.Tree.{Section}
use Rattle.rules.specs.State.{State, desc, texts}
use Rattle.rules.specs.Nsert.{half_count}
use Rattle.rules.specs.XtendDone.{xtend}
use Rattle.demands.specs.Answers.{ordinary, records_from, Extended}
use Rattle.demands.proofs.Scene.{scene}
use Rattle.demands.proofs.Lists.{All, all_left}
use Rattle.demands.proofs.Order.{Asc, asc-append, hit}
use Rattle.demands.proofs.Trees.{leaves_in, leaves_in-append, records_in, records-append, reach-append, Ranged, ranged-left, ranged-asc}
use Rattle.demands.proofs.Holds.{Free, RowOk}
use Rattle.demands.proofs.Steps.{sec}
use Rattle.demands.proofs.Places.{lo}
use Rattle.demands.proofs.Sound.{Key}
use Rattle.demands.proofs.Answers.{Ready, key_of}
use Rattle.demands.proofs.Frees.{free_count, taken, stored_with}
use Rattle.demands.proofs.Last.{ending, Last, end-ones}
use Rattle.demands.proofs.NsertRight.{Stores}
use Rattle.demands.proofs.NsertRight as n
use Rattle.demands.proofs.XtendBefore.{not_below, some-high}
use Rattle.demands.proofs.XtendRight.{InSequence, Xtended, too-low, too-low-alone, before, room, started, both, no_room_lem, xtend-right}
use Rattle.demands.proofs.Records.{rows_of, rows_ok}
use Rattle.demands.proofs.Ordinary.{none_from}

-- a call that has stored answers one of two numbers
pub stored_one : (p : Description) (n : ℕ) (f : Free) (m : ℕ) → m ≡ stored_with p n f → (m ≡ done) ⊎ (m ≡ none_free)
stored_one p n f m e = go (eqb n (D p) && eqb (free_count f) 0) e
  where
    go : (t : Bool) → m ≡ cond t none_free done → (m ≡ done) ⊎ (m ≡ none_free)
    go true q = inr q
    go false q = inl q

module _ (st : State) (ss : List Section) (f : Free) (r : Ready (desc st).wpr st ss f) where
  open scene st ss use {p, w, K}

  kr : p.k ≤ p.wpr
  kr = (good-facts p r.sound.kept.good).key

  kw : Key p w
  kw = key_of p.wpr st ss f r kr (omega arith)

  module _ (L : Last (texts st) st.session.flag ss f) where
    -- the records of the blocks before the last, and where the keys of the last start
    abbrev pre : List (List ℕ)
    pre = records_in (leaves_in L.before ++ L.low)

    abbrev start : ℕ
    start = lo (desc st) (ending L.before L.index L.low L.leaf)

    rows_are : records_in (leaves_in ss) ≡ (pre ++ L.front) ++ end_record p ∷ []
    rows_are =
        ap (λ (s : List Section). records_in (leaves_in s)) L.at.is ∙ spread
        ∙ ap (λ (z : List (List ℕ)). pre ++ z) L.rows_are ∙ sym (append_assoc pre L.front (end_record p ∷ []))
      where
        spread : records_in (leaves_in (L.before ++ (sec L.index (L.low ++ (L.leaf ∷ [])) ∷ []))) ≡ pre ++ L.leaf.records
        spread = simp (leaves_in-append, records-append, append_assoc, append-nil)

    flat : leaves_in ss ≡ (leaves_in L.before ++ L.low) ++ (L.leaf ∷ [])
    flat = ap leaves_in L.at.is ∙ simp (leaves_in-append, append_assoc, append-nil)

    before-asc : Asc K 0 pre start
    before-asc =
        let ra : Ranged p.k 0 (leaves_in L.before ++ L.low)
        = ranged-left p.k 0 (leaves_in L.before ++ L.low) (L.leaf ∷ []) (subst (Ranged p.k 0) flat r.sound.kept.holds.ranged) in
        subst (Asc K 0 pre) (reach-append p.k 0 (leaves_in L.before) L.low) (ranged-asc p.k 0 (leaves_in L.before ++ L.low) ra)

    -- no ordinary record is not below the key, where those before the end record are below it
    none-high : Asc K 0 (pre ++ L.front) (val w) → not_below st ss ≡ []
    none-high h =
        let ok : All (RowOk p) ((pre ++ L.front) ++ end_record p ∷ [])
        = subst (All (RowOk p)) rows_are (rows_of p (leaves_in ss) (rows_ok p ss r.sound.kept.holds.sized)) in
        ap (λ (z : List (List ℕ)). ordinary p (records_from p w z)) rows_are
        ∙ none_from p kr w kw 0 (pre ++ L.front) (end_record p) h (all_left (RowOk p) (pre ++ L.front) (end_record p ∷ []) ok)
        (unfold part in end-ones (texts st) st.session.flag ss f r.sound.kept)

    -- the last block's highest ordinary record is one of them, where it is not below the key
    pub not-below : (fr : List (List ℕ)) (y : List ℕ) → L.front ≡ fr ++ y ∷ [] → val w ≤ K y → not_below st ss ≡ [] → ⊥
    not-below fr y e l =
        some-high st ss f r kw (pre ++ fr) y (end_record p ∷ [])
        (rows_are ∙ ap (λ (x : List (List ℕ)). (pre ++ x) ++ end_record p ∷ []) e ∙ simp append_assoc) (omega arith) l

    in_all : InSequence st ss f L → Asc K 0 (pre ++ L.front) (val w)
    in_all iq = asc-append K 0 pre start L.front (val w) before-asc iq

    -- it is out of sequence, and there is one; or there is none
    abbrev pub Sequence : Type 0
    Sequence = (((xtend st).number ≡ out_of_sequence) × (not_below st ss ≡ [] → ⊥)) ⊎ (not_below st ss ≡ [])

    pub sequence : Xtended st ss f L → Sequence
    sequence (too-low fr y e l g) = inl (g.number-is, not-below fr y e l)
    sequence (too-low-alone e l hs g) = inl (g.number-is, hs)
    sequence (before e l s n a y) = inr (none-high (asc-append K 0 pre (val w) L.front (val w) s (subst (λ (z : List (List ℕ)). Asc K (val w) z (val w))
        (sym e) (omega arith))))
    sequence (room iq l g) = inr (none-high (in_all iq))
    sequence (started iq l m s g) = inr (none-high (in_all iq))
    sequence (both iq l m s c g) = inr (none-high (in_all iq))
    sequence (no_room_lem iq l m g) = inr (none-high (in_all iq))

    -- what it answers where there is none
    in_two : (n : ℕ) → (n ≡ done) ⊎ (n ≡ none_free) → (n ≡ done) ⊎ ((n ≡ none_free) ⊎ (n ≡ no_room))
    in_two n (inl e) = inl e
    in_two n (inr e) = inr (inl e)

    stored-numbers : Stores (xtend st) 3 st ss f → hit K (val w) (records_in (leaves_in ss)) ≡ [] → Extended [] (xtend st)
    stored-numbers (n.duplicate y e g) q = absurd (let z : ◌≡◌ {A = ℕ} 1 0 = ap length (sym e ∙ q) in omega arith)
    stored-numbers (n.room e a b l g) q = in_two (xtend st).number (stored_one p (length a.leaf.records + 1) f (xtend st).number g.number-is)
    stored-numbers (n.split e a b l m s i q g) z = in_two (xtend st).number (stored_one p (half_count (D p) i) (taken f) (xtend st).number g.number-is)
    stored-numbers (n.both e a b l m s c i q g) z =
        in_two (xtend st).number (stored_one p (half_count (D p) i) (taken (taken f)) (xtend st).number g.number-is)
    stored-numbers (n.no_room_lem e a b l m g) q = inr (inr g.number-is)

    numbers : not_below st ss ≡ [] → Xtended st ss f L → Extended [] (xtend st)
    numbers h (too-low fr y e l g) = absurd (not-below fr y e l h)
    numbers h (too-low-alone e l hs g) = absurd (hs h)
    numbers h (before e l s n a y) = stored-numbers y n
    numbers h (no_room_lem iq l m g) = inr (inr g.number-is)
    numbers h (room iq l g) = in_two (xtend st).number (stored_one p (length L.leaf.records + 1) f (xtend st).number g.number-is)
    numbers h (started iq l m s g) = in_two (xtend st).number (stored_one p (length L.leaf.records) (taken f) (xtend st).number g.number-is)
    numbers h (both iq l m s c g) = in_two (xtend st).number (stored_one p (length L.leaf.records) (taken (taken f)) (xtend st).number g.number-is)

    answers : Xtended st ss f L → Extended (not_below st ss) (xtend st)
    answers x = go (not_below st ss) refl (sequence x)
      where
        go : (xs : List (List ℕ)) → not_below st ss ≡ xs → Sequence → Extended xs (xtend st)
        go [] e (inl (q, some)) = absurd (some e)
        go [] e (inr none) = numbers none x
        go (y ∷ ys) e (inl (q, some)) = q
        go (y ∷ ys) e (inr none) = absurd (let z : suc (length ys) ≡ 0 = ap length (sym e ∙ none) in omega arith)

  pub xtend-answers : Extended (not_below st ss) (xtend st)
  xtend-answers = let z = xtend-right st ss f r in answers z.0 z.1
